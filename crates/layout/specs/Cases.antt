-- Layouts, adds and removals in few words, for the cases that are computed. Definitions only.
use Rattle.std.specs.Prelude.{List, [], ◌∷◌, suc, zero, ℕ}
use Rattle.section.specs.Sections.{section}
use Rattle.section.specs.declared.Section.{Section}
use Rattle.layout.specs.Adding.{allocate, allocated, too_few, with_file}
use Rattle.layout.specs.Layout.{File, Layout}
use Rattle.layout.specs.Removing.{Copy, copies_of, layout_after, release, removal}
use Rattle.layout.specs.Sound.{Sound}

abbrev pub file : ℕ → List Section → File
file i l = record { id = i; pieces = l }

-- c blocks, the files, the free pieces
abbrev pub disk : ℕ → List File → List Section → Layout
disk c fs free = record { blocks = c; files = fs; free = free }

abbrev pub copy : ℕ → ℕ → Copy
copy a b = record { source = a; target = b }

-- a removal: its copies, and the layout that it leaves
pub record Removed : Type 0 where
  pub copies : List Copy
  pub after : Layout

abbrev pub removed : File → Layout → Removed
removed f l = record { copies = copies_of (removal 13 f l); after = layout_after (release f l) (removal 13 f l) }

-- the layout with a file of n blocks more, if they are free
abbrev pub added : ℕ → ℕ → Layout → Layout
added i n l =
    elim (allocate 0 13 n l.free) as (λ _. Layout) [ allocated s r ↦ with_file i s r l | too_few ↦ l ]

-- n files of one block each, one after another: ids from i on, blocks from x on
unfoldable pub singles : ℕ → ℕ → ℕ → List File
singles i x zero = []
singles i x (suc n) = file i (section x 0 ∷ []) ∷ singles (suc i) (suc x) n

-- the layout of c blocks with these files and free pieces is not sound
abbrev pub Unsound : ℕ → List File → List Section → Type 0
Unsound c fs free = Sound 13 (disk c fs free) → ⊥

-- a disk of c blocks with no file
abbrev pub fresh : ℕ → List Section → Layout
fresh c l = disk c [] l

-- ---- the disk of case 6

abbrev pub two : File
two = file 2 (section 4 1 ∷ [])

abbrev pub five : File
five = file 5 (section 0 1 ∷ section 2 0 ∷ [])

abbrev pub nine : File
nine = file 9 (section 3 0 ∷ [])

abbrev pub case_six : Layout
case_six = disk 16 (two ∷ five ∷ nine ∷ []) (section 6 1 ∷ section 8 3 ∷ [])

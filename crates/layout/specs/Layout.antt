-- The layout of a disk: which file has which pieces, and which pieces are free. Definitions only.
use Rattle.std.specs.Prelude.{◌≡◌, Bool, true, false, ◌&&◌, not, List, [], ◌∷◌, ◌++◌, ℕ, zero, suc, ◌+◌, ◌-◌, ◌^◌}
use Rattle.std.specs.Prelude.{◌/◌, ◌%◌, ◌≤◌, leb, ltb, eqb}
use Rattle.section.specs.declared.Section.{Section}
use Rattle.section.specs.Sections.{section, length_of, end_of}
use Rattle.layout.specs.Lists.{Pairwise, indicator, sum_next, sum_of}

-- a file: its id, and its pieces in page order, longest first
pub record File : Type 0 where
  pub id : ℕ
  pub pieces : List Section

-- the disk's blocks, C; files by rising id; free pieces by rising first block
pub record Layout : Type 0 where
  pub blocks : ℕ
  pub files : List File
  pub free : List Section

-- ---- counting

-- the blocks of some pieces
abbrev pub block_count : List Section → ℕ
block_count l = sum_of length_of l

-- the blocks of a file, n
abbrev pub file_blocks : File → ℕ
file_blocks f = block_count f.pieces

-- the free blocks, f: C less the sum of all n
abbrev pub free_blocks : Layout → ℕ
free_blocks l = l.blocks - sum_of file_blocks l.files

-- the pieces of all files
unfoldable pub file_pieces : List File → List Section
file_pieces [] = []
file_pieces (f ∷ l) = f.pieces ++ file_pieces l

-- every piece: each file's, then the free ones
abbrev pub all_pieces : Layout → List Section
all_pieces l = file_pieces l.files ++ l.free

-- 1 if x is one of the n blocks from a on, else 0
unfoldable pub in_range : ℕ → ℕ → ℕ → ℕ
in_range x a n = indicator (leb a x && ltb x (a + n))

-- 1 if x is a block of the section, else 0
abbrev pub holds_block : ℕ → Section → ℕ
holds_block x s = in_range x s.first (length_of s)

abbrev pub has_height : ℕ → Section → Bool
has_height h s = eqb s.height.value h

-- 1 if the section has height h, else 0
unfoldable pub of_height : ℕ → Section → ℕ
of_height h s = indicator (has_height h s)

-- the n blocks from x on
unfoldable pub block_run : ℕ → ℕ → List ℕ
block_run x zero = []
block_run x (suc n) = x ∷ block_run (suc x) n

-- the blocks of pieces in page order
unfoldable pub blocks_of : List Section → List ℕ
blocks_of [] = []
blocks_of (s ∷ l) = block_run s.first (length_of s) ++ blocks_of l

-- ---- breaks: document 02, W5

-- 1 if the piece t does not start right after the piece s, else 0
abbrev pub break_between : Section → Section → ℕ
break_between s t = indicator (not (eqb t.first (end_of s)))

-- the breaks of pieces in page order: the places at which a piece does not start right after the one before it
unfoldable pub breaks_of : List Section → ℕ
breaks_of l = sum_next break_between l

-- the same in the paper's words, of pages that lie in these blocks: there is a break at a page, but for the first, if
-- the one before it is not in the block right before; `breaks-at-pages` says that it is the same
abbrev pub page_breaks : List ℕ → ℕ
page_breaks l = sum_next (λ x y. indicator (not (eqb y (suc x)))) l

-- ---- files by id

-- the file of an id, or none
pub data Found : Type 0 where
  found : File → Found
  missing : Found

unfoldable pub find_file : ℕ → List File → Found
find_file i [] = missing
find_file i (f ∷ l) = elim (eqb f.id i) as (λ _. Found) [ true ↦ found f | false ↦ find_file i l ]

abbrev pub is_found : Found → Bool
is_found (found f) = true
is_found missing = false

abbrev pub has_file : ℕ → List File → Bool
has_file i l = is_found (find_file i l)

-- ---- orders

abbrev pub by_first : Section → Section → Bool
by_first a b = leb a.first b.first

-- the longer first
abbrev pub by_length : Section → Section → Bool
by_length a b = leb b.height.value a.height.value

abbrev pub by_id : File → File → Bool
by_id f g = leb f.id g.id

-- each ends before the next begins
abbrev pub InOrder : List Section → Type 0
InOrder l = Pairwise (λ (s t : Section). end_of s ≤ t.first) l

-- ---- sections of a disk, and the fresh disk

-- s is a section of a disk of c blocks
pub record OnDisk (c : ℕ) (s : Section) : Type 0 where
  pub aligned : s.first % length_of s ≡ 0
  pub within : end_of s ≤ c

-- the binary digit of n at the place value 2 ^ h
abbrev pub digit : ℕ → ℕ → ℕ
digit h n = n / 2 ^ h % 2

-- a section for each 1 of n below height k, longest first, from the block x on
unfoldable pub pieces_from : ℕ → ℕ → ℕ → List Section
pieces_from zero n x = []
pieces_from (suc h) n x =
    elim (digit h n) as (λ _. List Section) [
      | zero ↦ pieces_from h n x
      | suc _ ↦ section x h ∷ pieces_from h n (x + 2 ^ h)
    ]

-- a fresh disk of c blocks, with heights below k: no file, and free pieces for the ones of c from block 0 on
unfoldable pub fresh_layout : ℕ → ℕ → Layout
fresh_layout k c = record { blocks = c; files = []; free = pieces_from k c 0 }

-- one piece for each 1 of n, as long as its place value
abbrev pub OnePiecePerOne : ℕ → List Section → Type 0
OnePiecePerOne n l = (h : ℕ) → sum_of (of_height h) l ≡ digit h n

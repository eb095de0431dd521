-- The lines of a layout's files on a disk: how the book's look-ups see them, and what copies keep of them. Assumes
-- nothing.
use mathlib.Core.Bool.{Bool, false, true}
use mathlib.Core.List.{List, [], ◌∷◌, map}
use mathlib.Core.Path.{◌∙◌, ◌≡◌, ap, ap₂, refl, sym}
use Prim.Native.Nat.{◌*◌, ◌+◌, ℕ}
use lib.Dec.{eqb, leb}
use lib.ListN.{length, length-map}
use borrow.Author.Tests.{eq-eqb, ne_eqb}
use Rattle.layout.proofs.Occurs.{length-blocks}
use Rattle.layout.proofs.Zipped.{map-map}
use Rattle.layout.specs.Layout.{File, Found, block_count, blocks_of, by_id, file_blocks, find_file, found, has_file}
use Rattle.layout.specs.Layout.{is_found, missing}
use Rattle.layout.specs.Lists.{Each, Zipped, both, ends, insert_by, sum_of}
use Rattle.layout.specs.Merges.{InDisk, Moved, origin}
use Rattle.layout.specs.Removals.{Find, here, there}
use Rattle.layout.specs.Removing.{Copy}
use Rattle.manager.proofs.Blocks.{copies-block}
use Rattle.manager.specs.Book.{Line, LineFound, line, line_with, no_line, noted, pages_in_lines, strike_line}
use Rattle.manager.specs.Book.{write_line}
use Rattle.manager.specs.Disk.{block, pages_on, run_copies}
use Rattle.manager.specs.WholeList.{line_on}
use Rattle.section.specs.Limits.{block_size}
use Rattle.section.specs.declared.Section.{Section}

-- on any disk the copies keep the lines
pub moved_lines : (n : ℕ) (d : List ℕ) → length d ≡ block_size * n → {cs : List Copy} → Each (InDisk n) cs
    → {fs gs : List File} → Zipped (Moved cs) fs gs → map (line_on (run_copies d cs)) gs ≡ map (line_on d) fs
unfolding pages_on
moved_lines n d ld e ends = refl
moved_lines n d ld {cs} e (both {a = f} {b = g} p b) =
    ap₂ (λ x y. x ∷ y) (λ i. record { id = p.id i; pages = same i }) (moved_lines n d ld e b)
  where
    same : map (block (run_copies d cs)) (blocks_of g.pieces) ≡ map (block d) (blocks_of f.pieces)
    same =
        map-map (block d) (origin cs) (block (run_copies d cs)) (copies-block n d ld e) (blocks_of g.pieces)
        ∙ ap (map (block d)) p.pages

pub find_strike : {i : ℕ} {l r : List File} {f : File} (d : List ℕ) → Find i l f r
    → strike_line i (map (line_on d) l) ≡ map (line_on d) r
unfolding strike_line
find_strike {i} d (here {f = f} e) = rw (eq-eqb f.id i e, strike_line)
find_strike {i} d (there {g = g} n p) =
    rw (ne_eqb g.id i n, strike_line) (ap (λ z. line_on d g ∷ z) (find_strike d p))

-- ---- the book's own operations on the lines of files

-- the line of a file that is found
abbrev pub line_found : List ℕ → Found → LineFound
line_found d (found f) = line (line_on d f)
line_found d missing = no_line

-- the book looks up a line as the catalogue does a file
pub line_with_lem : (d : List ℕ) (i : ℕ) (l : List File) → line_with i (map (line_on d) l) ≡ line_found d (find_file i l)
unfolding line_with find_file
line_with_lem d i [] = refl
line_with_lem d i (f ∷ l) = go (eqb f.id i) (line_with_lem d i l)
  where
    go : (t : Bool) → line_with i (map (line_on d) l) ≡ line_found d (find_file i l)
        → elim t as (λ _. LineFound) [ true ↦ line (line_on d f) | false ↦ line_with i (map (line_on d) l) ]
        ≡ line_found d (elim t as (λ _. Found) [ true ↦ found f | false ↦ find_file i l ])
    go true e = refl
    go false e = e

noted_found : (d : List ℕ) (x : Found) → noted (line_found d x) ≡ is_found x
noted_found d (found f) = refl
noted_found d missing = refl

pub noted-file : (d : List ℕ) (i : ℕ) (l : List File) → noted (line_with i (map (line_on d) l)) ≡ has_file i l
noted-file d i l = ap noted (line_with_lem d i l) ∙ noted_found d (find_file i l)

-- it writes a line as the catalogue does an entry
pub write_line_lem : (d : List ℕ) (f : File) (l : List File)
    → write_line (line_on d f) (map (line_on d) l) ≡ map (line_on d) (insert_by by_id f l)
unfolding write_line insert_by
write_line_lem d f [] = refl
write_line_lem d f (g ∷ l) = go (leb f.id g.id) (write_line_lem d f l)
  where
    go : (t : Bool) → write_line (line_on d f) (map (line_on d) l) ≡ map (line_on d) (insert_by by_id f l)
        → elim t as (λ _. List Line) [
          | true ↦ line_on d f ∷ line_on d g ∷ map (line_on d) l
          | false ↦ line_on d g ∷ write_line (line_on d f) (map (line_on d) l)
        ]
        ≡ map (line_on d) (elim t as (λ _. List File) [ true ↦ f ∷ g ∷ l | false ↦ g ∷ insert_by by_id f l ])
    go true e = refl
    go false e = ap (λ z. line_on d g ∷ z) e

-- a file has as many pages as blocks
pub pages-length : (d : List ℕ) (l : List Section) → length (pages_on d l) ≡ block_count l
unfolding pages_on
pages-length d l = length-map (blocks_of l) (block d) ∙ length-blocks l

pub pages_in_lines_lem : (d : List ℕ) (fs : List File) → pages_in_lines (map (line_on d) fs) ≡ sum_of file_blocks fs
unfolding pages_in_lines
pages_in_lines_lem d [] = refl
pages_in_lines_lem d (f ∷ fs) = ap₂ (λ m n. m + n) (pages-length d f.pieces) (pages_in_lines_lem d fs)

pub lines-blocks : (d : List ℕ) (fs : List File)
    → map file_blocks fs ≡ map (λ (x : Line). length x.pages) (map (line_on d) fs)
lines-blocks d [] = refl
lines-blocks d (f ∷ fs) = ap₂ (λ m n. m ∷ n) (sym (pages-length d f.pieces)) (lines-blocks d fs)

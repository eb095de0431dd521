-- The lines of a file and the first line, from the numbers and the pieces that the code has. Assumes nothing.
use mathlib.Core.List.{List, [], ◌++◌, ◌∷◌, map}
use mathlib.Core.Path.{◌∙◌, ◌≡◌, ap, refl}
use Prim.Native.Nat.{◌+◌, ◌-◌, ℕ}
use lib.ListN.{take}
use Rattle.std.specs.List.{sum_by}
use Rattle.std.proofs.lemmas.List.Sums.{sum_by-cons}
use Rattle.layout.specs.Layout.{File, by_first, file_blocks}
use Rattle.layout.specs.Lists.{sort_by, sum_of}
use Rattle.manager.specs.Printing.{file_lines, first_line, pair_lines}
use Rattle.section.specs.declared.Section.{Section}
use Rattle.table.specs.Tables.{file_of, files_of, layout_of}
use Rattle.table.specs.declared.Entry.{Entry}
use Rattle.table.specs.declared.Table.{Table}
use Rattle.printing.specs.Texts.{entry_blocks}
use Rattle.printing.proofs.TextRoom.{blocks_start, file_middle, file_start, free_middle}
use Rattle.texts.proofs.Writing.{appends_same, joined, room_after, room-first, room_same}
use Rattle.texts.specs.Lines.{Appends, Room, line_of}

-- n is a file's number of blocks, and l its pieces by first block
module _ (f : File) (n : ℕ) (l : List Section) (e : n ≡ file_blocks f) (p : l ≡ sort_by by_first f.pieces) where
  parts : line_of file_start f.id file_middle n ++ pair_lines l ≡ file_lines f
  unfolding file_lines
  parts =
      ap (λ k. line_of file_start f.id file_middle k ++ pair_lines l) e
      ∙ ap (λ k. line_of file_start f.id file_middle (file_blocks f) ++ pair_lines k) p

  pub file-room : {at : ℕ} {o : List ℕ} → Room at (file_lines f) o
      → Room at (line_of file_start f.id file_middle n) o
  file-room h = room-first (line_of file_start f.id file_middle n) (pair_lines l) (room_same parts h)

  pub file-pairs-room : {at r : ℕ} {o o' : List ℕ} → Room at (file_lines f) o
      → Appends at (line_of file_start f.id file_middle n) o o' r → Room r (pair_lines l) o'
  file-pairs-room h a = room_after (pair_lines l) (room_same parts h) a

  pub file-written : {at r r' : ℕ} {o o' o'' : List ℕ} → Appends at (line_of file_start f.id file_middle n) o o' r
      → Appends r (pair_lines l) o' o'' r' → Appends at (file_lines f) o o'' r'
  file-written a b = appends_same parts (joined a b)

-- the blocks of files, counted by entries
pub files_blocks : (l : List Entry) → sum_by entry_blocks l ≡ sum_of file_blocks (map file_of l)
files_blocks [] = refl
files_blocks (e ∷ l) = sum_by-cons entry_blocks e l ∙ ap (λ n. entry_blocks e + n) (files_blocks l)

-- n is the number of the files' blocks, and the others are free
pub free_line : (t : Table) (n : ℕ) → n ≡ sum_by entry_blocks (take t.count t.files)
    → line_of blocks_start t.blocks free_middle (t.blocks - n) ≡ first_line (layout_of t)
unfolding files_of layout_of first_line
free_line t n e =
    ap (λ k. line_of blocks_start t.blocks free_middle (t.blocks - k)) (e ∙ files_blocks (take t.count t.files))

-- How long a text is at most: 22 bytes for a pair, 34 for a file's line, so that a catalogue's text has room.
-- Assumes nothing.
use mathlib.Core.List.{List, [], ◌++◌, ◌∷◌}
use mathlib.Core.Path.{◌≡◌}
use Prim.Native.Nat.{◌*◌, ◌+◌, ◌≤◌, ℕ}
use native.Mathlib.Omega.{arith}
use lib.ListN.{length, length-append}
use Rattle.section.specs.Limits.{most_files}
use Rattle.free_pieces.specs.Free.{free_places}
use Rattle.piece_lists.specs.Few.{piece_places}
use Rattle.layout.proofs.Lists.{length_sort}
use Rattle.layout.specs.Layout.{File, Layout, by_first, file_blocks, free_blocks}
use Rattle.layout.specs.Lists.{Each, done, more, sort_by}
use Rattle.manager.specs.Printing.{all_file_lines, blocks_word, file_lines, file_word, first_line, free_word}
use Rattle.manager.specs.Printing.{layout_text, pair_line, pair_lines, refusal_text, space}
use Rattle.section.specs.Sections.{length_of}
use Rattle.section.specs.declared.Section.{Section}
use Rattle.texts.proofs.Decimals.{digits_most}
use Rattle.texts.specs.Lines.{line_of}
use Rattle.printing.specs.Texts.{refusal_room, text_room}

-- two numbers and what stands around them
line_length : (x : List ℕ) (m : ℕ) (y : List ℕ) (n : ℕ) → length (line_of x m y n) ≤ length x + length y + 21
line_length x m y n = simp length-append (omega (arith, digits_most 10 m, digits_most 10 n))

pair_length : (s : Section) → length (pair_line s) ≤ 22
unfolding pair_line
pair_length s = line_length [] s.first (32 ∷ []) (length_of s)

pub pairs-length : (l : List Section) → length (pair_lines l) ≤ 22 * length l
unfolding pair_lines
pairs-length [] = omega arith
pairs-length (s ∷ l) = simp length-append (omega (arith, pair_length s, pairs-length l))

-- what stands before the first number of a line and between the two
abbrev pub file_start : List ℕ
file_start = file_word ++ space

abbrev pub file_middle : List ℕ
file_middle = space ++ (blocks_word ++ space)

abbrev pub blocks_start : List ℕ
blocks_start = blocks_word ++ space

abbrev pub free_middle : List ℕ
free_middle = space ++ (free_word ++ space)

pub file_size : (f : File)
    → length (file_lines f)
    ≡ length (line_of file_start f.id file_middle (file_blocks f)) + length (pair_lines (sort_by by_first f.pieces))
unfolding file_lines
file_size f =
    length-append (line_of file_start f.id file_middle (file_blocks f)) (pair_lines (sort_by by_first f.pieces))

-- a file of at most 21 pieces
pub file-length : (f : File) → length f.pieces ≤ piece_places → length (file_lines f) ≤ 496
unfolding file_lines
file-length f h =
    omega (
      arith,
      file_size f,
      line_length file_start f.id file_middle (file_blocks f),
      pairs-length (sort_by by_first f.pieces),
      length_sort by_first f.pieces,
    )

files-length : {l : List File} → Each (λ (f : File). length f.pieces ≤ piece_places) l
    → length (all_file_lines l) ≤ 496 * length l
unfolding all_file_lines
files-length done = omega arith
files-length (more {a = f} {l = l} h e) =
    omega (arith, length-append (file_lines f) (all_file_lines l), file-length f h, files-length e)

-- the four parts of a text
pub text_size : (l : Layout)
    → length (layout_text l)
    ≡ length (first_line l) + (length (all_file_lines l.files) + (5 + length (pair_lines l.free)))
unfolding layout_text
text_size l = simp length-append (omega arith)

first-length : (l : Layout) → length (first_line l) ≤ 34
unfolding first_line
first-length l = line_length blocks_start l.blocks free_middle (free_blocks l)

pub text_length : (l : Layout) → length l.files ≤ most_files → Each (λ (f : File). length f.pieces ≤ piece_places)
    l.files
    → length l.free ≤ free_places → length (layout_text l) ≤ text_room
text_length l n e m =
    omega (arith, text_size l, first-length l, files-length e, pairs-length l.free)

pub refusal_length : (n : ℕ) → length (refusal_text n) ≤ refusal_room
unfolding refusal_text
refusal_length n = simp length-append (omega (arith, digits_most 10 n))

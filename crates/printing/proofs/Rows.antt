-- One more row of a loop: the lines of pairs and of files. Assumes nothing.
use mathlib.Core.List.{List, [], ◌++◌, map}
use mathlib.Core.Path.{◌≡◌}
use Prim.Native.Nat.{◌+◌, ◌<◌, ◌≤◌, ℕ}
use native.Mathlib.Numerals.{add-one}
use lib.ListN.{drop, drop_of_length-le, get_or, length}
use lib.Seq.{drop-cons}
use Rattle.manager.specs.Printing.{all_file_lines, file_lines, pair_line, pair_lines}
use Rattle.piece.specs.Packed.{no_piece, section_in, seen}
use Rattle.piece.specs.declared.Piece.{Piece}
use Rattle.table.specs.Files.{no_entry}
use Rattle.table.specs.Tables.{file_of}
use Rattle.table.specs.declared.Entry.{Entry}

module _ (p : List Piece) (j : ℕ) where
  pub pairs_ahead : j < length p
      → pair_lines (seen (drop j p))
      ≡ pair_line (section_in (get_or p j no_piece)) ++ pair_lines (seen (drop (j + 1) p))
  unfolding pair_lines seen
  pairs_ahead h = rw (add-one j, drop-cons p j no_piece h)

  pub pairs_behind : length p ≤ j → pair_lines (seen (drop j p)) ≡ []
  unfolding pair_lines seen
  pairs_behind h = rw (drop_of_length-le p {i = j} h)

module _ (p : List Entry) (i : ℕ) where
  pub files_ahead : i < length p
      → all_file_lines (map file_of (drop i p))
      ≡ file_lines (file_of (get_or p i no_entry)) ++ all_file_lines (map file_of (drop (i + 1) p))
  unfolding all_file_lines
  files_ahead h = rw (add-one i, drop-cons p i no_entry h)

  pub files_behind : length p ≤ i → all_file_lines (map file_of (drop i p)) ≡ []
  unfolding all_file_lines
  files_behind h = rw (drop_of_length-le p {i = i} h)

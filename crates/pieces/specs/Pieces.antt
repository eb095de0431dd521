-- Pieces whose heights have lengths, and the sum of their lengths. Definitions only.
use Rattle.std.specs.Prelude.{◌≡◌, ◌*◌, ◌^◌, ◌≤◌, ℕ, take}
use Rattle.section.specs.Heights.{NoHigher}
use Rattle.section.specs.Limits.{greatest_height, most_files}
use Rattle.section.specs.declared.Section.{Section}
use Rattle.section.specs.Sections.{length_of}
use Rattle.layout.specs.Lists.{Each}
use Rattle.piece.specs.Packed.{section_in}
use Rattle.piece.specs.declared.Piece.{Piece}
use Rattle.piece_lists.specs.Few.{piece_places}
use Rattle.table.specs.Tables.{InPlaces, pieces_in}
use Rattle.table.specs.declared.Entry.{Entry}
use Rattle.table.specs.declared.Table.{Table}

-- the height has a length
abbrev pub Low : Section → Type 0
Low s = NoHigher s.height

-- the same of a piece
abbrev pub LowPiece : Piece → Type 0
LowPiece p = Low (section_in p)

-- the blocks of a piece
abbrev pub piece_blocks : Piece → ℕ
piece_blocks p = length_of (section_in p)

-- the pieces are within their array, and every height has a length
pub record LowEntry (e : Entry) : Type 0 where
  pub places : InPlaces e
  pub low : Each Low (pieces_in e)

-- the files are within their array, and each of them is such an entry
pub record LowFiles (t : Table) : Type 0 where
  pub most : t.count ≤ most_files
  pub each : Each LowEntry (take t.count t.files)

-- the most blocks that the pieces of a file can have
abbrev pub most_of_file : ℕ
most_of_file = piece_places * 2 ^ greatest_height

-- r is the sum n, and at most m
pub record IsSum (n m r : ℕ) : Type 0 where
  pub equal : r ≡ n
  pub most : r ≤ m

-- What the functions that write a catalogue ask for and promise. Definitions only.
use Rattle.std.specs.Prelude.{List, [], map, ◌++◌, ◌≡◌, ◌+◌, ◌≤◌, ℕ, length, take}
use Rattle.section.specs.declared.Section.{Section}
use Rattle.layout.specs.Layout.{Layout}
use Rattle.piece.specs.Packed.{seen}
use Rattle.piece.specs.declared.Piece.{Piece}
use Rattle.table.specs.Tables.{file_of}
use Rattle.table.specs.declared.Entry.{Entry}
use Rattle.catalogue.specs.Encoding.{big_endian}
use Rattle.catalogue.specs.Version.{short_field}
use Rattle.catalogue.specs.declared.Version.{Version}

-- the bytes bs have room from at on
abbrev pub Room : List ℕ → ℕ → List ℕ → Type 0
Room cat at bs = at + length bs ≤ length cat

-- the bytes bs stand from at on, the bytes before at are as they were, and r is the position after bs
pub record Written (before : List ℕ) (at : ℕ) (bs after : List ℕ) (r : ℕ) : Type 0 where
  pub next : r ≡ at + length bs
  pub front : take r after ≡ take at before ++ bs
  pub exact : length after ≡ length before

-- the version's number, n blocks and m files
abbrev pub header_fields : Version → ℕ → ℕ → List ℕ
header_fields v n m =
    big_endian short_field v.number ++ (big_endian v.width n ++ big_endian short_field m)

-- the layout of a disk of n blocks with no file, and the free pieces l
abbrev pub no_files : ℕ → List Section → Layout
no_files n l = record { blocks = n; files = []; free = l }

-- the layout of a disk of n blocks, of the files in the entries and the free pieces
abbrev pub layout_from : ℕ → List Entry → List Piece → Layout
layout_from n l free = record { blocks = n; files = map file_of l; free = seen free }

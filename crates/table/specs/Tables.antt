-- What a table stands for: a layout, its files by rising id. Definitions only.
use Rattle.std.specs.Prelude.{List, map, ◌≤◌, take}
use Rattle.section.specs.declared.Section.{Section}
use Rattle.section.specs.Limits.{most_files}
use Rattle.layout.specs.Layout.{File, Layout}
use Rattle.layout.specs.Lists.{Each}
use Rattle.piece_lists.specs.Few.{list_of, piece_places}
use Rattle.free_pieces.specs.Free.{free_of, free_places}
use Rattle.table.specs.declared.Entry.{Entry}
use Rattle.table.specs.declared.Table.{Table}

-- the pieces of a file
abbrev pub pieces_in : Entry → List Section
pieces_in e = list_of e.pieces

abbrev pub file_of : Entry → File
file_of e = record { id = e.id; pieces = pieces_in e }

unfoldable pub files_of : Table → List File
files_of t = map file_of (take t.count t.files)

-- the layout that a table stands for
unfoldable pub layout_of : Table → Layout
layout_of t = record { blocks = t.blocks; files = files_of t; free = free_of t.free }

abbrev pub InPlaces : Entry → Type 0
InPlaces e = e.pieces.count ≤ piece_places

-- the counts are within the arrays
pub record Sized (t : Table) : Type 0 where
  pub files : t.count ≤ most_files
  pub free : t.free.count ≤ free_places
  pub each : Each InPlaces t.files

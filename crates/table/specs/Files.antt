-- What the functions on the files of a table promise. Definitions only.
use Rattle.std.specs.Prelude.{Bool, [], ◌≡◌, ◌+◌, ℕ, eqb, get_or}
use Rattle.layout.specs.Adding.{with_file}
use Rattle.layout.specs.Layout.{File}
use Rattle.free_pieces.specs.Free.{free_of}
use Rattle.table.specs.Tables.{Sized, layout_of, pieces_in}
use Rattle.table.specs.declared.Entry.{Entry}
use Rattle.free_pieces.specs.declared.Free.{Free}
use Rattle.table.specs.declared.Table.{Table}

abbrev pub has_id : ℕ → File → Bool
has_id i f = eqb f.id i

-- an entry of no pieces
abbrev pub no_entry : Entry
no_entry = record { id = 0; pieces = record { count = 0; items = [] } }

abbrev pub entry_at : Table → ℕ → Entry
entry_at t i = get_or t.files i no_entry

-- r is the table t with a file more, and the pieces that are free then
pub record Adds (t : Table) (e : Entry) (free : Free) (r : Table) : Type 0 where
  pub layout : layout_of r ≡ with_file e.id (pieces_in e) (free_of free) (layout_of t)
  pub sized : Sized r
  pub count : r.count ≡ t.count + 1
  pub pieces : r.free ≡ free
  pub blocks : r.blocks ≡ t.blocks

-- What a look-up in a table promises. Definitions only.
use Rattle.std.specs.Prelude.{◌≡◌, ◌<◌, ℕ, Option, Some, None}
use Rattle.layout.specs.Layout.{Found, found, missing}
use Rattle.layout.specs.LookingUp.{LookUp, look_up}
use Rattle.piece_lists.specs.Places.{first_place}
use Rattle.table.specs.Files.{entry_at, has_id}
use Rattle.table.specs.Tables.{file_of, files_of}
use Rattle.table.specs.declared.LookedUp.{LookedUp}
use Rattle.table.specs.declared.Table.{Table}

-- the file at a place of the table, or none
abbrev pub found_at : Table → Option ℕ → Found
found_at t (Some i) = found (file_of (entry_at t i))
found_at t None = missing

-- what a result stands for: the file or none, and the number of ids read
abbrev pub look_up_of : Table → LookedUp → LookUp
look_up_of t r = record { file = found_at t r.file; ids_read = r.read }

-- no file, after n ids
abbrev pub no_file : ℕ → LookedUp
no_file n = record { file = None; read = n }

-- the file at place i, after n ids
abbrev pub found_file : ℕ → ℕ → LookedUp
found_file i n = record { file = Some i; read = n }

-- place i is that of the first file of the id
pub record FirstOf (t : Table) (id i : ℕ) : Type 0 where
  pub within : i < t.count
  pub first : i ≡ first_place (has_id id) (files_of t)

-- if a place is given, it is that of the first file of the id
abbrev pub Stands : Table → ℕ → Option ℕ → Type 0
Stands t id x = (i : ℕ) → x ≡ Some i → FirstOf t id i

-- r is what a look-up gives, and its place is one of the table's
pub record LooksUp (t : Table) (id : ℕ) (r : LookedUp) : Type 0 where
  pub result : look_up_of t r ≡ look_up id (files_of t)
  pub place : Stands t id r.file

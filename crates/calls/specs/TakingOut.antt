-- What taking a file out of a table asks for and promises. Definitions only.
use Rattle.std.specs.Prelude.{List, ◌≡◌, ℕ, ◌*◌, ◌<◌, length}
use Rattle.section.specs.Limits.{block_size, height_count}
use Rattle.layout.specs.Layout.{File}
use Rattle.layout.specs.Removing.{Merge, copies_of, layout_after, release, removal}
use Rattle.manager.specs.Disk.{run_copies}
use Rattle.piece_lists.specs.Places.{first_place}
use Rattle.table.specs.declared.Table.{Table}
use Rattle.table.specs.Files.{entry_at, has_id}
use Rattle.table.specs.Tables.{file_of, files_of, layout_of}
use Rattle.settling.specs.declared.Settled.{Settled}
use Rattle.looking.specs.Opened.{Opened}

-- place i is that of a file, the first of its id, and the disk has n bytes
pub record CanTakeOut (t : Table) (i n : ℕ) : Type 0 where
  pub opened : Opened t
  pub disk : n ≡ block_size * t.blocks
  pub there : i < t.count
  pub first : i ≡ first_place (has_id (entry_at t i).id) (files_of t)

-- the file at place i
abbrev pub file_at : Table → ℕ → File
file_at t i = file_of (entry_at t i)

-- the merges of the removal of that file
abbrev pub removal_at : Table → ℕ → List Merge
removal_at t i = removal height_count (file_at t i) (layout_of t)

-- r is t without that file, its copies made on the disk and counted
pub record TakesOut (t : Table) (i : ℕ) (d d' : List ℕ) (r : Settled) : Type 0 where
  pub layout : layout_of r.table ≡ layout_after (release (file_at t i) (layout_of t)) (removal_at t i)
  pub disk : d' ≡ run_copies d (copies_of (removal_at t i))
  pub count : r.copied ≡ length (copies_of (removal_at t i))
  pub opened : Opened r.table

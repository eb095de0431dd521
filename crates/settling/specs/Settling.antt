-- What merging to the end asks for and promises. Definitions only.
use Rattle.std.specs.Prelude.{◌≡◌, List, ℕ, ◌*◌, ◌≤◌, length}
use Rattle.layout.specs.Covering.{Whole}
use Rattle.section.specs.Limits.{block_size, greatest_disk, height_count, most_files}
use Rattle.layout.specs.Removing.{Merge, copies_of, layout_after, merge_all}
use Rattle.manager.specs.Disk.{run_copies}
use Rattle.table.specs.declared.Table.{Table}
use Rattle.free_pieces.specs.Free.{free_of}
use Rattle.table.specs.Tables.{Sized, layout_of}
use Rattle.settling.specs.declared.Settled.{Settled}

-- the merges of a table's layout, to the end
abbrev pub merges_of : Table → List Merge
merges_of t = merge_all t.free.count height_count (layout_of t)

-- a table to merge, and a disk of n bytes
pub record CanSettle (t : Table) (n : ℕ) : Type 0 where
  pub whole : Whole t.blocks (layout_of t)
  pub sized : Sized t
  pub small : t.blocks ≤ greatest_disk
  pub disk : n ≡ block_size * t.blocks
  pub exact : length (free_of t.free) ≡ t.free.count

-- r is t with its merges done, their copies made on the disk and counted
pub record Settles (t : Table) (d d' : List ℕ) (r : Settled) : Type 0 where
  pub layout : layout_of r.table ≡ layout_after (layout_of t) (merges_of t)
  pub disk : d' ≡ run_copies d (copies_of (merges_of t))
  pub count : r.copied ≡ length (copies_of (merges_of t))
  pub sized : Sized r.table
  pub blocks : r.table.blocks ≡ t.blocks
  pub array : length r.table.files ≡ most_files
  pub exact : length (free_of r.table.free) ≡ r.table.free.count

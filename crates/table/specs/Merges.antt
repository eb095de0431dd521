-- What a release and a merge ask of a table and what they promise. Definitions only.
use Rattle.std.specs.Prelude.{List, map, ◌≡◌, ◌+◌, ◌<◌, ℕ, length, take}
use Rattle.layout.specs.Layout.{by_first}
use Rattle.layout.specs.Lists.{Each, insert_by, sort_by}
use Rattle.layout.specs.Removing.{merge, release}
use Rattle.section.specs.Sections.{Addressable, buddy_of, moved_into, parent_of}
use Rattle.section.specs.declared.Section.{Section}
use Rattle.table.specs.Files.{entry_at}
use Rattle.table.specs.Moves.{PiecesServed}
use Rattle.free_pieces.specs.Free.{free_of, free_places}
use Rattle.table.specs.Tables.{Sized, file_of, layout_of}
use Rattle.free_pieces.specs.declared.Pair.{Pair}
use Rattle.table.specs.declared.Table.{Table}

-- r is the table t when the file at place i is gone and its pieces are free
pub record Released (t : Table) (i : ℕ) (r : Table) : Type 0 where
  pub layout : layout_of r ≡ release (file_of (entry_at t i)) (layout_of t)
  pub sized : Sized r
  pub blocks : r.blocks ≡ t.blocks
  pub count : r.count + 1 ≡ t.count
  pub free : r.free.count ≡ t.free.count + (entry_at t i).pieces.count
  pub exact : length (free_of r.free) ≡ r.free.count

-- what a merge of two free sections asks for
pub record Ready (t : Table) (p : Pair) : Type 0 where
  pub sized : Sized t
  pub lower : Addressable p.lower
  pub upper : Addressable p.upper
  pub buddy : Addressable (buddy_of p.lower)
  pub files : Each PiecesServed (take t.count t.files)
  pub others : Each Addressable (free_of p.others)
  pub few : p.others.count < free_places

-- the free pieces when the two of p are merged
abbrev pub free_after : Pair → List Section
free_after p =
    insert_by by_first (parent_of p.lower)
    (sort_by by_first (map (moved_into (buddy_of p.lower) p.upper) (free_of p.others)))

-- r is the table t when the two of p are merged
pub record Merged (t : Table) (p : Pair) (r : Table) : Type 0 where
  pub layout : layout_of r ≡ (merge p.lower p.upper (free_of p.others) (layout_of t)).after
  pub sized : Sized r
  pub blocks : r.blocks ≡ t.blocks
  pub count : r.count ≡ t.count
  pub free : r.free.count ≡ p.others.count + 1
  pub exact : length (free_of r.free) ≡ r.free.count

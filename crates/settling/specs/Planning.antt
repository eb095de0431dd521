-- How many copies merging to the end makes, told from the free pieces alone. Definitions only.
use Rattle.std.specs.Prelude.{◌≡◌, ℕ, ◌≤◌, length}
use Rattle.section.specs.Limits.{greatest_disk, height_count}
use Rattle.layout.specs.Covering.{Whole}
use Rattle.layout.specs.Layout.{Layout}
use Rattle.layout.specs.Removing.{copies_of, merge_all}
use Rattle.free_pieces.specs.Free.{free_of, free_places}
use Rattle.free_pieces.specs.declared.Free.{Free}
use Rattle.settling.specs.declared.Planned.{Planned}

-- the free pieces are those of the layout w, whole on a disk of c blocks
pub record Starts (c : ℕ) (w : Layout) (free : Free) : Type 0 where
  pub whole : Whole c w
  pub small : c ≤ greatest_disk
  pub list : w.free ≡ free_of free
  pub exact : length (free_of free) ≡ free.count
  pub few : free.count ≤ free_places

-- they are those of some layout
pub record CanPlan (free : Free) : Type 0 where
  pub blocks : ℕ
  pub layout : Layout
  pub starts : Starts blocks layout free

-- r has the number of copies of the merges of every layout that has these free pieces
pub record Plans (free : Free) (r : Planned) : Type 0 where
  pub copies : (c : ℕ) (w : Layout) → Starts c w free
      → r.copied ≡ length (copies_of (merge_all free.count height_count w))

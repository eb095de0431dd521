-- How many blocks the removal of a file copies, told from its pieces and the free ones. Definitions only.
use Rattle.std.specs.Prelude.{◌≡◌, ℕ, length}
use Rattle.section.specs.Limits.{height_count}
use Rattle.layout.specs.Helping.{copies_for}
use Rattle.layout.specs.Layout.{Layout, find_file, found}
use Rattle.layout.specs.Sound.{Sound}
use Rattle.free_pieces.specs.Free.{free_of}
use Rattle.free_pieces.specs.declared.Free.{Free}
use Rattle.table.specs.Tables.{InPlaces, file_of}
use Rattle.table.specs.declared.Entry.{Entry}

-- e is a file of the sound layout l, and these are its free pieces
pub record Stored (l : Layout) (free : Free) (e : Entry) : Type 0 where
  pub rules : Sound height_count l
  pub there : find_file e.id l.files ≡ found (file_of e)
  pub places : InPlaces e
  pub list : l.free ≡ free_of free
  pub exact : length (free_of free) ≡ free.count

-- they are those of some sound layout
pub record CanCount (free : Free) (e : Entry) : Type 0 where
  pub layout : Layout
  pub stored : Stored layout free e

-- r is the number of blocks that the removal of the file copies, in every such layout
pub record Counts (free : Free) (e : Entry) (r : ℕ) : Type 0 where
  pub copies : (l : Layout) → Stored l free e → r ≡ copies_for height_count l (file_of e)

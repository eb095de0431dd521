-- What the functions on blocks and pages ask for and promise. Definitions only.
use Rattle.std.specs.Prelude.{List, ◌≡◌, ℕ, ◌+◌, ◌*◌, ◌/◌, ◌≤◌, length}
use Rattle.section.specs.declared.Section.{Section}
use Rattle.section.specs.Heights.{NoHigher}
use Rattle.section.specs.Limits.{block_size, greatest_disk}
use Rattle.section.specs.Sections.{buddy_first, length_of, end_of}
use Rattle.layout.specs.Lists.{Each}
use Rattle.layout.specs.Layout.{block_count}
use Rattle.layout.specs.Removing.{Copy}
use Rattle.manager.specs.Disk.{run_copies}
use Rattle.table.specs.declared.Entry.{Entry}
use Rattle.piece_lists.specs.Few.{piece_places}
use Rattle.table.specs.Tables.{pieces_in}

-- ---- what is asked for

-- block i is among d bytes
abbrev pub HasBlock : ℕ → ℕ → Type 0
HasBlock d i = block_size * i + block_size ≤ d

-- the n blocks from a on are among d bytes
abbrev pub HasRun : ℕ → ℕ → ℕ → Type 0
HasRun d a n = block_size * (a + n) ≤ d

-- a disk of d bytes has the blocks that the merge of l and u reads and writes
pub record MergeFits (d : ℕ) (l u : Section) : Type 0 where
  pub buddy : block_size * (buddy_first l.height.value l.first + length_of l) ≤ d
  pub upper : block_size * (u.first + length_of l) ≤ d
  pub disk : d ≤ block_size * greatest_disk

-- a disk of d bytes has the blocks of the piece
pub record PieceFits (d : ℕ) (s : Section) : Type 0 where
  pub height : NoHigher s.height
  pub within : block_size * end_of s ≤ d

-- a disk of d bytes has the blocks of the file
pub record EntryFits (d : ℕ) (e : Entry) : Type 0 where
  pub count : e.pieces.count ≤ piece_places
  pub pieces : Each (PieceFits d) (pieces_in e)
  pub disk : d ≤ block_size * greatest_disk

-- a content of c bytes has as many pages as the file
pub record WriteFits (d c : ℕ) (e : Entry) : Type 0 where
  pub entry : EntryFits d e
  pub pages : block_size * block_count (pieces_in e) ≡ c

-- an output of o bytes is whole pages, and the file has as many from the page `first` on
pub record ReadFits (d o first : ℕ) (e : Entry) : Type 0 where
  pub entry : EntryFits d e
  pub whole : block_size * (o / block_size) ≡ o
  pub pages : first + o / block_size ≤ block_count (pieces_in e)

-- ---- what is promised

-- the disk d' is d after the copies l, and their number, at most n, is r
pub record Copied (d d' : List ℕ) (l : List Copy) (n r : ℕ) : Type 0 where
  pub disk : d' ≡ run_copies d l
  pub count : r ≡ length l
  pub most : r ≤ n
  pub same : length d' ≡ length d

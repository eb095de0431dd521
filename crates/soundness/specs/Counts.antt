-- The counts of a table: that its lists are as long as they say, and what was counted in reading it. Definitions only.
use Rattle.std.specs.Prelude.{◌≡◌, true, ℕ, length}
use Rattle.std.specs.Int.Count.{ones}
use Rattle.section.specs.Limits.{most_files}
use Rattle.layout.specs.Lists.{sum_of}
use Rattle.layout.specs.Layout.{block_count, file_blocks, free_blocks}
use Rattle.table.specs.declared.Table.{Table}
use Rattle.free_pieces.specs.Free.{free_of}
use Rattle.table.specs.Tables.{Sized, files_of, layout_of}
use Rattle.catalogue.specs.Reading.{every, sound_file}

-- the counts of a table are within its arrays, and the lists are as long as the counts say
pub record Exact (t : Table) : Type 0 where
  pub sized : Sized t
  pub array : length t.files ≡ most_files
  pub files : length (files_of t) ≡ t.count
  pub free : length (free_of t.free) ≡ t.free.count

-- what is known of a table that was read: the blocks of its files and of its free pieces, each file's rules and the
-- number of its free pieces
pub record Counted (t : Table) (pages free : ℕ) : Type 0 where
  pub pages_sum : pages ≡ sum_of file_blocks (files_of t)
  pub free_sum : free ≡ block_count (free_of t.free)
  pub sound_files : every sound_file (files_of t) ≡ true
  pub free_count : length (free_of t.free) ≡ ones (free_blocks (layout_of t))

-- What the parts of an add ask for and promise. Definitions only.
use Rattle.std.specs.Prelude.{◌≡◌, false, List, ℕ, ◌*◌, ◌<◌, ◌≤◌}
use Rattle.section.specs.declared.Section.{Section}
use Rattle.section.specs.Limits.{block_size, most_files, height_count}
use Rattle.layout.specs.Adding.{allocate, allocated, with_file}
use Rattle.layout.specs.Layout.{blocks_of, free_blocks, has_file}
use Rattle.layout.specs.Sound.{Sound, greatest_id}
use Rattle.manager.specs.Conditions.{unpaged}
use Rattle.manager.specs.Disk.{cut_pages, page_count, write_pages}
use Rattle.table.specs.declared.Table.{Table}
use Rattle.free_pieces.specs.Free.{free_of}
use Rattle.table.specs.Tables.{Sized, files_of, layout_of}
use Rattle.looking.specs.Opened.{Opened}

-- no condition refuses the add of the content bs as id i on a disk of k bytes, and n is the number of its pages
pub record CanAdd (t : Table) (i n k : ℕ) (bs : List ℕ) : Type 0 where
  pub opened : Opened t
  pub disk : k ≡ block_size * t.blocks
  pub least : 1 ≤ i
  pub most : i ≤ greatest_id
  pub fresh : has_file i (files_of t) ≡ false
  pub paged : unpaged bs ≡ false
  pub few : t.count < most_files
  pub fits : page_count bs ≤ free_blocks (layout_of t)
  pub pages : n ≡ page_count bs

-- r is the table t with the file more, whose pages are written to the disk
pub record Places (t : Table) (i : ℕ) (bs d d' : List ℕ) (r : Table) : Type 0 where
  pub pieces : List Section
  pub rest : List Section
  pub allocation : allocate 0 height_count (page_count bs) (free_of t.free) ≡ allocated pieces rest
  pub layout : layout_of r ≡ with_file i pieces rest (layout_of t)
  pub disk : d' ≡ write_pages d (blocks_of pieces) (cut_pages (page_count bs) bs)
  pub rules : Sound height_count (layout_of r)
  pub sized : Sized r

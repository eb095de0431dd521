-- What the parts of a replacement ask for. Definitions only.
use Rattle.std.specs.Prelude.{false, List, ◌≡◌, ◌*◌, ◌≤◌, ℕ, length}
use Rattle.section.specs.Limits.{block_size}
use Rattle.layout.specs.Sound.{greatest_id}
use Rattle.manager.specs.Changes.{CanReplace}
use Rattle.manager.specs.Conditions.{unpaged}
use Rattle.manager.specs.Disk.{page_count}
use Rattle.table.specs.declared.Table.{Table}
use Rattle.table.specs.LookUps.{FirstOf}
use Rattle.table.specs.Tables.{layout_of}
use Rattle.looking.specs.Opened.{Opened}
use Rattle.calls.specs.TakingOut.{file_at}

-- no condition before the letters refuses the replacement of the file id, at place i, by the content bs on the disk d
pub record CanCompare (t : Table) (i id : ℕ) (bs d : List ℕ) : Type 0 where
  pub opened : Opened t
  pub disk : length d ≡ block_size * t.blocks
  pub least : 1 ≤ id
  pub most : id ≤ greatest_id
  pub place : FirstOf t id i
  pub paged : unpaged bs ≡ false

-- nor does any other, and n is the number of the content's pages
pub record CanExchange (t : Table) (i id n : ℕ) (bs d : List ℕ) : Type 0 where
  pub compared : CanCompare t i id bs d
  pub allowed : CanReplace (layout_of t) d id bs (file_at t i)
  pub pages : n ≡ page_count bs

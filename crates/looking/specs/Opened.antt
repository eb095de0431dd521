-- What is known of a table once its catalogue was loaded, and what the calls that only look promise. Definitions only.
use Rattle.std.specs.Prelude.{List, ◌∷◌, ◌≡◌, ℕ, ◌≤◌, length}
use Rattle.section.specs.Limits.{greatest_disk, most_files, height_count}
use Rattle.layout.specs.Layout.{Layout, find_file, free_blocks}
use Rattle.layout.specs.Sound.{Sound}
use Rattle.manager.specs.Conditions.{Outcome, condition, first_refusal, read_checks, unless_refused, wrong_disk}
use Rattle.manager.specs.Outcomes.{read_found}
use Rattle.table.specs.declared.Table.{Table}
use Rattle.free_pieces.specs.Free.{free_of}
use Rattle.table.specs.Tables.{Sized, files_of, layout_of}

-- a sound table: the lists are as long as their counts say
pub record Opened (t : Table) : Type 0 where
  pub rules : Sound height_count (layout_of t)
  pub sized : Sized t
  pub array : length t.files ≡ most_files
  pub files : length (files_of t) ≡ t.count
  pub free : length (free_of t.free) ≡ t.free.count

-- r is the number of free blocks
pub record IsFree (t : Table) (r : ℕ) : Type 0 where
  pub equal : r ≡ free_blocks (layout_of t)
  pub most : r ≤ greatest_disk

-- the outcome of a read past the catalogue, for any catalogue bytes
abbrev pub read_on : Layout → ℕ → ℕ → List ℕ → List ℕ → List ℕ → Outcome
read_on l i p o cat d =
    unless_refused (first_refusal (condition 4 (wrong_disk l d) ∷ read_checks i p o l)) cat d o
    (read_found p o cat d (find_file i l.files))

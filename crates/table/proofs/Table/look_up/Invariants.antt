-- `table::Table::look_up` meets its contract: every id passed is below the one sought, and was counted. Assumes
-- nothing.
use Rattle.std.proofs.Common.{◌≡◌, ◌<◌, false, get_or, ℕ}
use Rattle.table.proofs.FileLists.{no_lower_id}
use Rattle.table.specs.Files.{no_entry}
use Rattle.table.proofs.Table.look_up.Given as goal

abbrev pub invariant-loop-j : goal.invariant-loop-j
invariant-loop-j l =
    (l.read ≡ l.j) × ((k : ℕ) → k < l.j → no_lower_id l.id (get_or l.e-items k no_entry) ≡ false)

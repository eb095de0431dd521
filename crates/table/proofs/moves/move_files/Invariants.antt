-- `table::move_files` meets its contract: after i turns the first i files have moved. Assumes nothing.
use mathlib.Core.Path.{◌≡◌}
use Rattle.table.specs.Moves.{map_first, moved_entry}
use Rattle.table.proofs.moves.move_files.Given as goal

abbrev pub invariant-loop-entry : goal.invariant-loop-entry
invariant-loop-entry l = l.entry-items ≡ map_first (moved_entry l.from l.to) l.entry-index l.initial.entry-items

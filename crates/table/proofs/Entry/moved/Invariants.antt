-- `table::Entry::moved` meets its contract: after i turns the first i pieces have moved. Assumes nothing.
use mathlib.Core.Path.{◌≡◌}
use Rattle.table.specs.Moves.{map_first, moved_piece}
use Rattle.table.proofs.Entry.moved.Given as goal

abbrev pub invariant-loop-piece : goal.invariant-loop-piece
invariant-loop-piece l =
    l.piece-items ≡ map_first (moved_piece l.from l.to) l.piece-index l.initial.piece-items

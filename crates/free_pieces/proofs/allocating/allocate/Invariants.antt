-- `allocate` is the definition. The loop's invariant: the pieces laid so far are those for the ones above height `h`,
-- and there is room for the others. Assumes nothing.
use Rattle.std.proofs.Common.{◌+◌}
use Rattle.free_pieces.proofs.PiecesLaid.{Laying}
use Rattle.free_pieces.proofs.allocating.allocate.Given as goal

abbrev pub invariant-loop-h : goal.invariant-loop-h
invariant-loop-h l = Laying l.n (l.h + 1) l.fn.free (record { pieces = l.pieces; free = l.left })

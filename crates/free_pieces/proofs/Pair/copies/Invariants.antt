-- `Pair::copies` meets its contract: after some turns the blocks before as many pieces are counted. Assumes nothing.
use Rattle.free_pieces.proofs.GapSteps.{Counting}
use Rattle.free_pieces.proofs.Pair.copies.Given as goal

abbrev pub invariant-loop-piece : goal.invariant-loop-piece
invariant-loop-piece l = Counting l.buddy l.fn.self.others.items l.fn.self.others.count l.at l.n l.piece-index

-- `copy_merge` makes the copies of a merge: none if the upper section is the buddy, else those of the gaps, and after
-- some turns those before as many of the other free pieces. Assumes nothing.
use Rattle.blocks.proofs.DiskCopies.{Copying}
use Rattle.blocks.proofs.disk.copy_merge.Given as goal

abbrev pub invariant-loop-piece : goal.invariant-loop-piece
invariant-loop-piece l =
    Copying l.buddy l.upper.first l.fn.p.others.items l.fn.p.others.count l.at l.copied l.piece-index l.initial.disk
    l.disk

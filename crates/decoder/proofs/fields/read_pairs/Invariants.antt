-- `decoder::fields::read_pairs` meets its contract: the pairs so far, before those left to read. Assumes nothing.
use Rattle.decoder.proofs.Runs.{PairsTo}
use Rattle.decoder.proofs.fields.read_pairs.Given as goal

abbrev pub invariant-loop-item : goal.invariant-loop-item
invariant-loop-item l = PairsTo l.width l.s l.at l.count l.item-items l.end l.sum l.item-index

-- `decoder::fields::read_pairs` meets its contract: the pairs so far, before those left to read. Assumes nothing.
use native.Mathlib.Omega.{arith}
use Rattle.std.proofs.lemmas.Grind.{common_steps}
use Rattle.decoder.proofs.Runs.{pairs_all, pairs_bad, pairs_more, pairs_start}
use Rattle.decoder.proofs.fields.read_pairs.Goals as goal

pub loop-item-init : goal.loop-item-init
loop-item-init c = pairs_start _ _ _ _ _ c.requires.0 (grind (arith, common_steps))

pub returns-in_err-pair : goal.returns-in_err-pair
returns-in_err-pair c =
    rw c.from_residual.ensures
    (pairs_bad _ _ _ _ _ _ _ _ c.loop-item.invariant (grind (arith, common_steps)) c.in_err-pair.ensures)

pub loop-item-preserved : goal.loop-item-preserved
loop-item-preserved c =
    pairs_more _ _ _ _ _ _ _ _ c.loop-item.invariant (grind (arith, common_steps)) _ c.in_ok-pair.ensures

pub returns : goal.returns
returns c = pairs_all _ _ _ _ _ _ _ _ c.loop-item.invariant (grind (arith, common_steps)) c.requires.1 _

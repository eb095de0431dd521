-- `soundness::sharing::group_shares` meets its contract: what was found of the first `k` of a group. Assumes
-- nothing.
use mathlib.Core.Path.{◌∙◌, ap}
use Prim.Native.Nat.{◌+◌}
use native.Mathlib.Omega.{arith}
use lib.ListN.{get_or}
use Rattle.soundness.specs.Sharing.{far, shares_among}
use Rattle.soundness.proofs.Groups.{among_more, among_none}
use Rattle.soundness.proofs.sharing.group_shares.Goals as goal

pub loop-k-init : goal.loop-k-init
loop-k-init c = λ l s h p. among_none s l _

pub loop-k-preserved : goal.loop-k-preserved
loop-k-preserved c =
    let w = c.loop-k in
    λ l s h p. among_more s l c.args.at w.found c.shares_block-found.result w.k (w.invariant l s h p)
    (c.shares_block-found.ensures s (get_or l (c.args.at + w.k) far) p (h.spans (c.args.at + w.k) (omega arith)))

pub returns : goal.returns
returns c l s h p = c.loop-k.invariant l s h p ∙ ap (shares_among s l c.args.at) (omega arith)

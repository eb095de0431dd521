-- `soundness::order::in_order` meets its contract: whether all stand in order is whether those from `i` on do. Assumes
-- nothing.
use mathlib.Core.Bool.{◌&&◌}
use mathlib.Core.Path.{◌∙◌, ap, sym}
use Prim.Native.Nat.{◌+◌}
use native.Mathlib.Omega.{arith}
use lib.ListN.{drop}
use Rattle.piece.specs.Packed.{seen}
use Rattle.soundness.proofs.Ordered.{order-next, order-none}
use Rattle.soundness.specs.Order.{in_order}
use Rattle.soundness.proofs.order.in_order.Goals as goal

pub returns-then-not-all_follow : goal.returns-then-not-all_follow
returns-then-not-all_follow c =
    let pieces = c.as_slice-pieces.result.now in
    let later = in_order (drop (c.loop-i.i + 1) (seen pieces)) in
    sym (sym (ap in_order c.as_slice-pieces.ensures.listed)
    ∙ (c.loop-i.invariant
    ∙ (order-next pieces c.loop-i.i c.loop-i-test.true
    ∙ ap (λ t. t && later) (sym c.if-not-all_follow.ensures))))

pub loop-i-preserved : goal.loop-i-preserved
loop-i-preserved c =
    let pieces = c.as_slice-pieces.result.now in
    let later = in_order (drop (c.loop-i.i + 1) (seen pieces)) in
    c.loop-i.invariant
    ∙ (order-next pieces c.loop-i.i c.loop-i-test.true
    ∙ ap (λ t. t && later) (sym c.if-not-all_follow.ensures))

pub returns : goal.returns
returns c =
    let pieces = c.as_slice-pieces.result.now in
    sym (sym (ap in_order c.as_slice-pieces.ensures.listed)
    ∙ (c.loop-i.invariant
    ∙ (ap (λ k. in_order (drop k (seen pieces))) (omega arith) ∙ order-none pieces)))

-- `soundness::order::in_order` meets its contract: whether all stand in order is whether those from `i` on do. Assumes
-- nothing.
use mathlib.Core.Path.{◌≡◌}
use lib.ListN.{drop}
use Rattle.piece.specs.Packed.{seen}
use Rattle.soundness.specs.Order.{in_order}
use Rattle.soundness.proofs.order.in_order.Given as goal

abbrev pub invariant-loop-i : goal.invariant-loop-i
invariant-loop-i l = in_order (seen l.pieces) ≡ in_order (drop l.i (seen l.pieces))

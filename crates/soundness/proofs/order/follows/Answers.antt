-- `soundness::order::follows` meets its contract: heights are equal exactly if lengths are. Assumes nothing.
use mathlib.Core.Bool.{not}
use mathlib.Core.Path.{◌∙◌, ap₂, sym}
use native.Mathlib.Omega.{arith}
use lib.Dec.{eqb}
use borrow.Author.Tests.{le-ltb}
use Rattle.piece.specs.Packed.{section_in}
use Rattle.soundness.proofs.Ordered.{turn_early, turn_late}
use Rattle.soundness.proofs.order.follows.Goals as goal

pub returns-then-first : goal.returns-then-first
returns-then-first c =
    ap₂ (λ x y. not (eqb x y)) c.height.ensures c.height-then-first.ensures
    ∙ turn_late (section_in c.args.a) (section_in c.args.b)
    (omega (arith, c.if-first.true, c.first.ensures, c.first-2.ensures))

pub returns-else-first : goal.returns-else-first
returns-else-first c =
    le-ltb _ _ c.if-first.false
    ∙ sym (turn_early (section_in c.args.a) (section_in c.args.b)
    (omega (arith, c.if-first.false, c.first.ensures, c.first-2.ensures)))

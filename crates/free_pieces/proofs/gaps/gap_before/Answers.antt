-- `gap_before` meets its contract, by whether the piece lies inside. Assumes nothing.
use mathlib.Core.Bool.{cond, true}
use mathlib.Core.Path.{◌∙◌, ◌≡◌, ap, sym}
use Prim.Native.Nat.{◌-◌}
use Rattle.section.specs.Sections.{end_of, is_inside}
use Rattle.free_pieces.proofs.gaps.gap_before.Goals as goal

pub returns-then-is_inside : goal.returns-then-is_inside
returns-then-is_inside c =
    let e : is_inside c.args.s c.args.whole ≡ true = sym c.is_inside.ensures ∙ c.if-is_inside.true in
    record {
      count = ap (λ v. cond v (c.args.s.first - c.args.at) 0) (sym e);
      past = c.end.ensures ∙ ap (λ v. cond v (end_of c.args.s) c.args.at) (sym e);
    }

-- `halve` meets its contract: the lower half is drawn, the upper half joins the free pieces. Assumes nothing.
use Rattle.std.proofs.Common.{◌+◌, ◌∙◌, ap, ap₂, sym, length, arith, ℕ}
use Rattle.layout.specs.Adding.{taken}
use Rattle.layout.specs.Layout.{by_first}
use Rattle.layout.specs.Lists.{insert_by}
use Rattle.section.specs.Sections.{section}
use Rattle.free_pieces.specs.Free.{free_of}
use Rattle.free_pieces.proofs.taking.halve.Goals as goal

pub returns : goal.returns
returns c =
    let h = c.args.h in
    let first = c.first-first.ensures in
    let low = c.of-lower.ensures.holds ∙ ap (λ x. section x h) first in
    let up = c.of-upper.ensures.holds ∙ ap₂ (λ (x n : ℕ). section (x + n) h) first c.length.ensures.equal in
    let w = c.with.ensures in
    record {
      meaning = ap₂ taken low (w.list ∙ ap (λ z. insert_by by_first z (free_of c.args.d.rest)) up);
      most = omega (arith, w.count);
      exact = ap length w.list ∙ (w.exact ∙ sym w.count);
    }

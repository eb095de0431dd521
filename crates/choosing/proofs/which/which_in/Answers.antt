-- `which_in` meets its contract: the conditions in order, then what fits already, then the files. Assumes nothing.
use mathlib.Core.Path.{◌∙◌, ◌≡◌, ap}
use native.Mathlib.Omega.{arith}
use lib.ListN.{length, replicate}
use Rattle.section.specs.Limits.{most_files}
use Rattle.manager.specs.Conditions.{answered}
use Rattle.manager.specs.Outcomes.{then_zeros}
use Rattle.table.specs.Tables.{layout_of}
use Rattle.choosing.proofs.WhichJudged.{chosen_count, chosen_ids, which_counts, which_fits, which_short}
use Rattle.choosing.proofs.WhichJudged.{which-zero}
use Rattle.choosing.proofs.which.which_in.Goals as goal

pub returns-then-n-eq0 : goal.returns-then-n-eq0
returns-then-n-eq0 c =
    let x = which-zero (layout_of c.args.t) c.args.n c.args.places.now c.if-n-eq0.true in
    record { answer = x.0; output = x.1 }

pub returns-then-places-ne-MOST_FILES : goal.returns-then-places-ne-MOST_FILES
returns-then-places-ne-MOST_FILES c =
    let x = which_short (layout_of c.args.t) c.args.n c.args.places.now c.if-n-eq0.false
    c.if-places-ne-MOST_FILES.true in
    record { answer = x.0; output = x.1 }

pub returns-then-n-free : goal.returns-then-n-free
returns-then-n-free c =
    let long : length c.args.places.now ≡ most_files = omega (arith, c.if-places-ne-MOST_FILES.false) in
    let x = which_fits (layout_of c.args.t) c.args.n c.args.places.now c.if-n-eq0.false long
    (omega (arith, c.if-n-free.true, c.free_in-free.ensures.equal)) in
    record {
      answer = x.0;
      output = λ cat d. c.fill.ensures.after (λ _ e. e) ∙ (ap (λ n. replicate n 0) long ∙ x.1 cat d);
    }

pub returns : goal.returns
returns c =
    let all = c.choices_for-all in
    let long : length c.args.places.now ≡ most_files = omega (arith, c.if-places-ne-MOST_FILES.false) in
    let x = which_counts (layout_of c.args.t) c.args.n c.args.places.now c.if-n-eq0.false long
    (omega (arith, c.if-n-free.false, c.free_in-free.ensures.equal)) in
    record {
      answer = λ cat d. ap answered (chosen_count c.args.t c.args.n all.result all.ensures) ∙ x.0 cat d;
      output = λ cat d. c.write_ids.ensures
          ∙ (ap then_zeros (chosen_ids c.args.t c.args.n all.result all.ensures) ∙ x.1 cat d);
    }

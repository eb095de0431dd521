-- `soundness::sharing::any_shared` meets its contract: every two pieces before `i`, and `i` up to `j`. Assumes
-- nothing.
use mathlib.Core.Bool.{not}
use mathlib.Core.Path.{◌∙◌, ap, refl, sym}
use Prim.Native.Nat.{◌+◌}
use native.Mathlib.Omega.{arith}
use lib.ListN.{get_or}
use Rattle.soundness.specs.Sharing.{far, group_size}
use Rattle.soundness.proofs.Groups.{apart, group_fails, row_group, rows_through}
use Rattle.soundness.proofs.Points.{row_start, rows_more, rows_none}
use Rattle.soundness.proofs.sharing.any_shared.Goals as goal
use Rattle.soundness.proofs.sharing.any_shared.Goals.{else-loop-j-test}
use Rattle.soundness.proofs.sharing.any_shared.Goals.{then-loop-j-test+else-group_shares+else-count-j-gt16}

pub pairs-init : goal.pairs-init
pairs-init c = (refl, λ l _. rows_none l c.args.count far apart)

pub loop-j-init : goal.loop-j-init
loop-j-init c =
    let w = c.pairs in
    (w.invariant.0, omega arith, λ l h. (w.invariant.1 l h, row_start l c.args.count far apart w.i))

pub loop-j-preserved : goal.loop-j-preserved
loop-j-preserved c =
    let i = c.pairs.i in
    let w = c.loop-j in
    let v = w.invariant in (
      v.0,
      omega arith,
      λ l h. (
        (v.2 l h).0,
        row_group l i w.j group_size (v.2 l h).1
            (sym (c.group_shares.ensures l (get_or l i far) h (h.spans i (omega arith))) ∙ c.if-group_shares.false),
      ),
    )

pub pairs-preserved : goal.pairs-preserved
pairs-preserved c =
    let n = c.args.count in
    let i = c.pairs.i in
    let j = c.loop-j.j in
    let v = c.loop-j.invariant in
    elim c.loop-j-test.branch [
      | else-loop-j-test w ↦ (v.0, λ l h. rows_more l n far apart i j w.loop-j-test.false (v.2 l h).0 (v.2 l h).1)
      | then-loop-j-test+else-group_shares+else-count-j-gt16 w ↦ (
        v.0,
        λ l h. rows_more l n far apart i (j + group_size) (omega arith) (v.2 l h).0
            (row_group l i j group_size (v.2 l h).1
            (sym (w.group_shares.ensures l (get_or l i far) h (h.spans i (omega arith))) ∙ w.if-group_shares.false)),
      )
    ]

pub returns-after-pairs : goal.returns-after-pairs
returns-after-pairs c l e h ends =
    let w = c.pairs in
    w.invariant.0 ∙ sym (ap not (rows_through l _ e w.i c.pairs-test.false (w.invariant.1 l h)))

pub returns-then-group_shares : goal.returns-then-group_shares
returns-then-group_shares c l e h ends =
    let i = c.pairs.i in
    let w = c.loop-j in
    sym (ap not
    (group_fails l _ e ends i w.j group_size w.invariant.1 c.pairs-test.true
    (sym (c.group_shares.ensures l (get_or l i far) h (h.spans i (omega arith))) ∙ c.if-group_shares.true)))

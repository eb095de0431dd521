-- `plan` meets its contract: after each turn the copies of some of the merges are counted. Assumes nothing.
use native.Mathlib.Omega.{arith}
use Rattle.settling.proofs.MadeMerges.{made_in_order, next_countable, next_most, next_movable}
use Rattle.settling.proofs.PlanSteps.{counted-all, counted_more, counted_none, counted-one}
use Rattle.settling.proofs.planning.plan.Goals as goal

pub merges-init : goal.merges-init
merges-init c = counted_none c.requires

pub lowest_pair-requires : goal.lowest_pair-requires
lowest_pair-requires c =
    let whole = made_in_order (counted-one c.merges.invariant).merges in
    record { count_le_free_places = whole.0; in_order = whole.1 }

pub copies-copied-requires : goal.copies-copied-requires
copies-copied-requires c = next_countable (counted-one c.merges.invariant).merges c.in-Some.ensures

pub overflow_add-copied : goal.overflow_add-copied
overflow_add-copied c =
    let g = (counted-one c.merges.invariant).merges in
    omega (arith, g.bounded, c.copies-copied.ensures, next_most g c.in-Some.ensures, c.in-Some.ensures.less)

pub free_merged-left-requires : goal.free_merged-left-requires
free_merged-left-requires c =
    let g = (counted-one c.merges.invariant).merges in record {
      addressable = (next_countable g c.in-Some.ensures).lower;
      can_move = next_movable g c.in-Some.ensures;
      count_lt_free_places = omega (arith, c.in-Some.ensures.less, g.starts.few);
    }

pub merges-preserved : goal.merges-preserved
merges-preserved c =
    counted_more c.merges.invariant c.in-Some.ensures _ (omega (arith, c.copies-copied.ensures)) _
    c.free_merged-left.ensures

pub returns : goal.returns
returns c = counted-all c.merges.invariant c.in_default.ensures

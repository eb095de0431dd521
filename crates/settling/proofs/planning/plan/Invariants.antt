-- `plan` meets its contract: after each turn the copies of some of the merges are counted. Assumes nothing.
use Rattle.settling.proofs.PlanSteps.{Counted}
use Rattle.settling.proofs.planning.plan.Given as goal

abbrev pub invariant-merges : goal.invariant-merges
invariant-merges l = Counted l.initial.left l.left l.copied

abbrev pub decreases-merges : goal.decreases-merges
decreases-merges l = l.left.count

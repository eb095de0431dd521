-- `choices_for` chooses from the last file down: after each turn the files behind those that are left are chosen from.
-- Assumes nothing.
use Rattle.std.specs.Iterator.Adapters.{rev_source}
use Rattle.std.specs.Slice.Iter.{iter_rest}
use Rattle.choosing.proofs.ChoosingSteps.{Choosing}
use Rattle.choosing.proofs.which.choices_for.Given as goal

abbrev pub invariant-loop-e : goal.invariant-loop-e
invariant-loop-e l =
    (goal.iterator-loop-e).can_next l.e-iterator × (goal.iterator-loop-e).is_finite l.e-iterator
    × Choosing l.fn.t l.n l.all (iter_rest (rev_source l.e-iterator))

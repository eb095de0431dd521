-- `copy_run` makes the copies of a run in order and counts them: what is left of the run gives the disk that all of
-- it gives. Assumes nothing.
use mathlib.Core.Path.{◌≡◌}
use Prim.Native.Nat.{◌+◌, ◌-◌}
use Rattle.layout.specs.Removing.{copy_run}
use Rattle.manager.specs.Disk.{run_copies}
use Rattle.blocks.proofs.disk.copy_run.Given as goal

abbrev pub invariant-loop-i : goal.invariant-loop-i
invariant-loop-i l =
    (l.made ≡ l.i)
    × (run_copies l.disk (copy_run (l.from + l.i) (l.to + l.i) (l.n - l.i))
    ≡ run_copies l.initial.disk (copy_run l.from l.to l.n))

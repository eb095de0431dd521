-- `write_run` writes pages one after another to a run of blocks: what is left to write gives the disk that all of
-- it gives. Assumes nothing.
use mathlib.Core.Path.{◌≡◌}
use Prim.Native.Nat.{◌+◌, ◌-◌}
use Rattle.blocks.proofs.DiskWriting.{writing}
use Rattle.blocks.proofs.disk.write_run.Given as goal

abbrev pub invariant-loop-k : goal.invariant-loop-k
invariant-loop-k l =
    writing (l.to + l.k) (l.n - l.k) (l.page + l.k) l.content l.disk
    ≡ writing l.to l.n l.page l.content l.initial.disk

-- `copy_run` makes the copies of a run in order and counts them: what is left of the run gives the disk that all of
-- it gives. Assumes nothing.
use mathlib.Core.Path.{◌∙◌, ap, refl}
use Prim.Native.Nat.{◌+◌, ◌-◌}
use native.Mathlib.Omega.{arith}
use Rattle.layout.proofs.MergeKeeps.{length-copy_run}
use Rattle.blocks.proofs.DiskCopies.{copies-end, copies_more, copies_start}
use Rattle.layout.specs.Removing.{copy_run}
use Rattle.manager.specs.Disk.{run_copies}
use Rattle.blocks.proofs.disk.copy_run.Goals as goal

pub loop-i-init : goal.loop-i-init
loop-i-init c = (refl, copies_start c.args.disk.now c.args.from c.args.to c.args.n)

pub loop-i-preserved : goal.loop-i-preserved
loop-i-preserved c =
    let v = c.loop-i.invariant in
    let i = c.loop-i.i in (
      omega arith,
      ap (λ d. run_copies d (copy_run (c.args.from + (i + 1)) (c.args.to + (i + 1)) (c.args.n - (i + 1))))
          c.copy_block.ensures
          ∙ (copies_more c.loop-i.disk c.args.from c.args.to c.args.n i (omega arith) ∙ v.1),
    )

pub returns : goal.returns
returns c =
    let v = c.loop-i.invariant in record {
      copies = record {
        disk =
            copies-end c.loop-i.disk c.args.from c.args.to c.args.n c.loop-i.i c.loop-i-test.false
            ∙ v.1;
        count = omega (arith, length-copy_run c.args.from c.args.to c.args.n);
        most = omega arith;
        same = c.loop-i.auto.disk;
      };
      all = omega arith;
    }

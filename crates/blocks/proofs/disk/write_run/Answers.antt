-- `write_run` writes pages one after another to a run of blocks: what is left to write gives the disk that all of
-- it gives. Assumes nothing.
use mathlib.Core.Path.{◌∙◌, ap}
use Prim.Native.Nat.{◌+◌, ◌-◌}
use native.Mathlib.Omega.{arith}
use Rattle.blocks.proofs.DiskWriting.{writing, writing-end, writing_more, writing_start}
use Rattle.blocks.proofs.disk.write_run.Goals as goal

pub loop-k-init : goal.loop-k-init
loop-k-init c = writing_start c.args.to c.args.n c.args.page c.args.content.now c.args.disk.now

pub loop-k-preserved : goal.loop-k-preserved
loop-k-preserved c =
    let k = c.loop-k.k in
    ap (writing (c.args.to + (k + 1)) (c.args.n - (k + 1)) (c.args.page + (k + 1)) c.args.content.now)
    c.store_block.ensures
    ∙ (writing_more c.args.to c.args.n c.args.page c.args.content.now c.loop-k.disk k (omega arith)
    ∙ c.loop-k.invariant)

pub returns : goal.returns
returns c =
    writing-end c.args.to c.args.n c.args.page c.args.content.now c.loop-k.disk c.loop-k.k c.loop-k-test.false
    ∙ c.loop-k.invariant

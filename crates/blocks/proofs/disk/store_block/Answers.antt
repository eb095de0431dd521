-- `store_block` stores a block of the one list in a block of the other. Each turn stores one byte more. Assumes
-- nothing.
use mathlib.Core.Path.{◌∙◌, ◌≡◌, ap}
use native.Mathlib.Omega.{arith}
use Rattle.blocks.proofs.DiskStoring.{get_d_block, storing, storing-all, storing_more, storing-none}
use Rattle.manager.proofs.Blocks.{block-length}
use Rattle.manager.specs.Disk.{block}
use Rattle.section.specs.Limits.{block_size}
use Rattle.blocks.proofs.disk.store_block.Goals as goal

pub loop-i-init : goal.loop-i-init
loop-i-init c =
    let s = c.args.source.now in
    storing-none c.args.target.now (block s c.args.from) c.args.to c.requires.has_block
    (block-length s c.args.from c.requires.has_block_2)

pub loop-i-preserved : goal.loop-i-preserved
loop-i-preserved c =
    let s = c.args.source.now in
    let i = c.loop-i.i in
    let t = c.loop-i-test.true in
    storing_more c.args.target.now (block s c.args.from) c.args.to c.requires.has_block
    (block-length s c.args.from c.requires.has_block_2) c.loop-i.target i _ t c.loop-i.invariant
    (get_d_block s c.args.from i t)

pub returns : goal.returns
returns c =
    let d = c.args.target.now in
    let p = block c.args.source.now c.args.from in
    let e : c.loop-i.i ≡ block_size = omega arith in
    c.loop-i.invariant
    ∙ (ap (storing d c.args.to p) e
    ∙ storing-all d p c.args.to c.requires.has_block (block-length c.args.source.now c.args.from c.requires.has_block_2))

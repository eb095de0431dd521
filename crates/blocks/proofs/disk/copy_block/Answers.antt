-- `copy_block` pastes the bytes of the one block over those of the other. Assumes nothing.
use mathlib.Core.List.{append_assoc}
use mathlib.Core.Path.{◌∙◌, ◌≡◌, ap}
use Prim.Native.Nat.{◌*◌, ◌+◌, ◌-◌}
use native.Mathlib.Omega.{arith}
use lib.ListN.{drop, take}
use lib.Seq.{paste}
use Rattle.manager.specs.Disk.{block}
use Rattle.section.specs.Limits.{block_size}
use Rattle.blocks.proofs.disk.copy_block.Goals as goal

pub returns : goal.returns
returns c =
    let d = c.args.disk.now in
    let from = block_size * c.args.from in
    let to = block_size * c.args.to in
    let n : from + block_size - from ≡ block_size = omega arith in
    c.copy_within.ensures.after
    ∙ (ap (paste d to (drop from d)) n ∙ append_assoc (take to d) (block d c.args.from) (drop (to + block_size) d))

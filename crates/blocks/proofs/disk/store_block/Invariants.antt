-- `store_block` stores a block of the one list in a block of the other. Each turn stores one byte more. Assumes
-- nothing.
use mathlib.Core.Path.{◌≡◌}
use Rattle.blocks.proofs.DiskStoring.{storing}
use Rattle.manager.specs.Disk.{block}
use Rattle.blocks.proofs.disk.store_block.Given as goal

abbrev pub invariant-loop-i : goal.invariant-loop-i
invariant-loop-i l = l.target ≡ storing l.initial.target l.to (block l.source l.from) l.i

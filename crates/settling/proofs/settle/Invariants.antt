-- `settling::settle` meets its contract: after each turn some of the merges are made, with their copies, in the files
-- and the free pieces that stand beside them. Assumes nothing.
use mathlib.Core.Path.{◌≡◌}
use lib.ListN.{length}
use Rattle.section.specs.Limits.{most_files}
use Rattle.settling.proofs.Settling.{Settling, with_lists}
use Rattle.settling.proofs.settle.Given as goal

abbrev pub invariant-merges : goal.invariant-merges
invariant-merges l =
    Settling l.fn.table l.fn.disk (with_lists l.fn.table l.files l.free) l.disk l.copied
    × (length l.files ≡ most_files)

abbrev pub decreases-merges : goal.decreases-merges
decreases-merges l = l.free.count

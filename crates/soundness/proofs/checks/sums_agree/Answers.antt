-- `soundness::checks::sums_agree` meets its contract: its tests are the definition's. Assumes nothing.
use mathlib.Core.Path.{sym}
use Rattle.soundness.proofs.Tested.{large-disk, many_pages, no_disk_lem, sums_left}
use Rattle.soundness.proofs.checks.sums_agree.Goals as goal

pub returns-then-blocks-lt1 : goal.returns-then-blocks-lt1
returns-then-blocks-lt1 c = sym (no_disk_lem _ _ _ c.if-blocks-lt1.true)

pub returns-then-blocks-gt-GREATEST_DISK : goal.returns-then-blocks-gt-GREATEST_DISK
returns-then-blocks-gt-GREATEST_DISK c = sym (large-disk _ _ _ c.if-blocks-gt-GREATEST_DISK.true)

pub returns-then-blocks-sum : goal.returns-then-blocks-sum
returns-then-blocks-sum c =
    sym (many_pages _ _ _ c.if-blocks-lt1.false c.if-blocks-gt-GREATEST_DISK.false c.if-blocks-sum.true)

pub returns : goal.returns
returns c = sym (sums_left _ _ _ c.if-blocks-lt1.false c.if-blocks-gt-GREATEST_DISK.false c.if-blocks-sum.false)

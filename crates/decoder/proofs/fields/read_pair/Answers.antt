-- `decoder::fields::read_pair` meets its contract: two fields are the pair, if the second is a length and the first
-- can be a block of a disk. Assumes nothing.
use mathlib.Core.Path.{sym}
use native.Mathlib.Omega.{arith}
use Rattle.section.proofs.Lengths.{length-of-height}
use Rattle.decoder.proofs.Places.{pair_far, pair_none, pair_short, some_pair_at}
use Rattle.decoder.proofs.fields.read_pair.Goals as goal

pub returns-then-s-at : goal.returns-then-s-at
returns-then-s-at c =
    pair_short c.args.width c.args.s.now c.args.at c.if-s-at.true

pub returns-then-first-ge-GREATEST_DISK : goal.returns-then-first-ge-GREATEST_DISK
returns-then-first-ge-GREATEST_DISK c =
    pair_far c.args.width c.args.s.now c.args.at _ _ c.read_field-first.ensures
    c.read_field-length.ensures c.if-first-ge-GREATEST_DISK.true

pub of-requires : goal.of-requires
of-requires c =
    let l = (length-of-height _ _ (sym c.in_ok-height.ensures)).0 in
    record { first = omega (arith, c.if-first-ge-GREATEST_DISK.false); height = omega (arith, l) }

pub returns : goal.returns
returns c =
    some_pair_at c.args.width c.args.s.now c.args.at _ _ c.read_field-first.ensures c.read_field-length.ensures _
    (omega (arith, c.if-first-ge-GREATEST_DISK.false))
    (sym c.in_ok-height.ensures)
    (omega arith) _
    c.of.ensures.holds

pub returns-in_err-height : goal.returns-in_err-height
returns-in_err-height c =
    rw c.from_residual.ensures
    (pair_none c.args.width c.args.s.now c.args.at _ _ c.read_field-first.ensures
    c.read_field-length.ensures (sym c.in_err-height.ensures))

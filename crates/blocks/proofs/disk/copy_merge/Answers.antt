-- `copy_merge` makes the copies of a merge: none if the upper section is the buddy, else those of the gaps, and after
-- some turns those before as many of the other free pieces. Assumes nothing.
use mathlib.Core.Path.{ap, subst, sym}
use Prim.Native.Nat.{◌+◌, ◌-◌}
use native.Mathlib.Omega.{arith}
use Rattle.section.specs.Limits.{greatest_disk}
use Rattle.free_pieces.specs.Free.{free_of}
use Rattle.free_pieces.proofs.GapSteps.{copies_gaps, copies-none}
use Rattle.blocks.specs.DiskCode.{Copied}
use Rattle.blocks.proofs.DiskCopies.{copied_none, copying_end, copying_gap, copying_more, copying_most}
use Rattle.blocks.proofs.DiskCopies.{copying_rest, copying_run, copying_start}
use Rattle.blocks.proofs.disk.copy_merge.Goals as goal

pub returns-then-buddy-upper : goal.returns-then-buddy-upper
returns-then-buddy-upper c =
    copied_none c.args.disk.now _
    (copies-none c.args.p c.buddy-buddy.result c.buddy-buddy.ensures (omega (arith, c.if-buddy-upper.true)))

pub loop-piece-init : goal.loop-piece-init
loop-piece-init c =
    let b = c.buddy-buddy in
    copying_start c.args.p b.result c.args.disk.now c.requires.pair_fits c.requires.merge_fits b.ensures

pub gap_before-gap-requires : goal.gap_before-gap-requires
gap_before-gap-requires c =
    let whole = copying_gap _ _ _ _ _ _ _ _ _ c.loop-piece.invariant _ c.loop-piece-test.true c.section.ensures in
    record {
      addressable = whole.0;
      at_le_first = whole.1;
    }

pub copy_run-made-requires : goal.copy_run-made-requires
copy_run-made-requires c =
    let k = c.loop-piece.invariant in
    let w = copying_run _ _ _ _ _ _ _ _ _ k _ c.loop-piece-test.true c.section.ensures _ c.gap_before-gap.ensures in
    record {
      has_run = w.0;
      has_run_2 = w.1;
      disk_len_bound = k.room.disk;
    }

pub overflow_add-copied : goal.overflow_add-copied
overflow_add-copied c =
    omega (
      arith,
      copying_most _ _ _ _ _ _ _ _ _ c.loop-piece.invariant _ c.loop-piece-test.true c.section.ensures _
          c.gap_before-gap.ensures,
      c.copy_run-made.ensures.all,
    )

pub loop-piece-preserved : goal.loop-piece-preserved
loop-piece-preserved c =
    let r = c.copy_run-made in
    copying_more _ _ _ _ _ _ _ _ _ c.loop-piece.invariant _ c.loop-piece-test.true c.section.ensures _
    c.gap_before-gap.ensures _ r.result r.ensures.copies r.ensures.all

pub copy_run-made-requires-2 : goal.copy_run-made-requires-2
copy_run-made-requires-2 c =
    let l = c.loop-piece in
    let w = copying_rest _ _ _ _ _ _ _ _ _ l.invariant _ (ap (λ z. z - l.at) c.end.ensures) in
    record {
      has_run = w.0;
      has_run_2 = w.1;
      disk_len_bound = l.invariant.room.disk;
    }

pub overflow_add-result : goal.overflow_add-result
overflow_add-result c =
    let l = c.loop-piece in
    omega (
      arith,
      (copying_rest _ _ _ _ _ _ _ _ _ l.invariant _ (ap (λ z. z - l.at) c.end.ensures)).2,
      c.copy_run-made-2.ensures.all,
    )

pub returns : goal.returns
unfolding free_of
returns c =
    let r = c.copy_run-made-2 in
    let l = c.loop-piece in
    let i = c.if-buddy-upper in
    subst (λ x. Copied c.args.disk.now r.new.disk x greatest_disk (l.copied + r.result))
    (sym (copies_gaps c.args.p c.buddy-buddy.result c.buddy-buddy.ensures (λ z. omega (arith, i.false, z))))
    (copying_end _ _ _ _ _ _ _ _ _ l.invariant c.loop-piece-test.false _
    (ap (λ z. z - l.at) c.end.ensures) _ r.result r.ensures.copies r.ensures.all)

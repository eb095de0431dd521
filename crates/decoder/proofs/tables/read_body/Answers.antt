-- `decoder::tables::read_body` meets its contract: the files so far, before those left to read, and then the table.
-- Assumes nothing.
use native.Mathlib.Omega.{arith}
use lib.Count.{ones-le}
use Rattle.std.proofs.lemmas.Grind.{common_steps}
use Rattle.section.specs.Limits.{most_files}
use Rattle.layout.proofs.Lists.{each_append}
use Rattle.piece_lists.proofs.EachItem.{each_replicate, each_take}
use Rattle.decoder.proofs.Filled.{each_drop, filled_all, filled_bad, filled_inside, filled_more, filled_start}
use Rattle.decoder.proofs.Tabled.{table_at, unread-free, unread_many}
use Rattle.decoder.proofs.Whole.{bad_files}
use Rattle.decoder.proofs.tables.read_body.Goals as goal

pub overflow_add-at : goal.overflow_add-at
overflow_add-at c = omega (arith, c.requires.0.width)

pub overflow_add-at-2 : goal.overflow_add-at-2
overflow_add-at-2 c = omega (arith, c.requires.0.width)

pub loop-file-init : goal.loop-file-init
loop-file-init c =
    filled_start _ _ _ _ (omega (arith, c.requires.0.header, c.requires.1))
    (grind (arith, common_steps, c.requires.2.few))
    (each_take c.args.count
    (each_replicate most_files c.no_entry-files.result (omega (arith, c.no_entry-files.ensures.1))))

pub returns-in_err-read : goal.returns-in_err-read
returns-in_err-read c =
    rw c.from_residual.ensures
    (bad_files _ c.requires.0 _ _ _ c.requires.2
    (filled_bad _ _ _ _ _ _ _ c.loop-file.invariant (grind (arith, common_steps)) c.in_err-read.ensures))

pub overflow_add-at-in-loop-file : goal.overflow_add-at-in-loop-file
overflow_add-at-in-loop-file c =
    omega (
      arith,
      c.requires.0.most_bytes,
      c.requires.1,
      filled_inside _ _ _ _ _ _ _ c.loop-file.invariant (grind (arith, common_steps)) _ c.in_ok-read.ensures,
    )

pub overflow_add-sum : goal.overflow_add-sum
overflow_add-sum c =
    let v = c.loop-file.invariant in
    omega (arith, v.most, v.few, c.requires.2.few, c.in_ok-read.ensures.most)

pub loop-file-preserved : goal.loop-file-preserved
loop-file-preserved c =
    filled_more _ _ _ _ _ _ _ c.loop-file.invariant (grind (arith, common_steps)) _ c.in_ok-read.ensures

pub overflow_cast-ones : goal.overflow_cast-ones
overflow_cast-ones c = omega (arith, ones-le 32 c.saturating_sub.result (omega arith))

pub returns-then-ones-gt-PLACES : goal.returns-then-ones-gt-PLACES
returns-then-ones-gt-PLACES c =
    unread_many _ c.requires.0 _ _ _ c.requires.2 _ _ _
    (filled_all _ _ _ _ _ _ _ c.loop-file.invariant (grind (arith, common_steps))) _ c.saturating_sub.ensures
    c.if-ones-gt-PLACES.true

pub read_pairs-requires : goal.read_pairs-requires
read_pairs-requires c = (c.loop-file.invariant.inside, c.if-ones-gt-PLACES.false, c.requires.0.width)

pub returns-in_err-pairs : goal.returns-in_err-pairs
returns-in_err-pairs c =
    rw c.from_residual-in_err-pairs.ensures
    (unread-free _ c.requires.0 _ _ _ c.requires.2 _ _ _
    (filled_all _ _ _ _ _ _ _ c.loop-file.invariant (grind (arith, common_steps))) _ c.saturating_sub.ensures
    c.in_err-pairs.ensures)

pub returns : goal.returns
returns c =
    table_at _ c.requires.0 _ _ _ c.requires.2 _ _ _
    (filled_all _ _ _ _ _ _ _ c.loop-file.invariant (grind (arith, common_steps))) _ c.saturating_sub.ensures _
    c.in_ok-pairs.ensures _ c.of.ensures _ c.loop-file.invariant.exact (grind (arith, common_steps))
    (each_append c.loop-file.invariant.each
    (each_drop c.args.count
    (each_replicate most_files c.no_entry-files.result (omega (arith, c.no_entry-files.ensures.1)))))

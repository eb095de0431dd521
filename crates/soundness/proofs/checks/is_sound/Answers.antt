-- `soundness::checks::is_sound` meets its contract: with what reading tested, the whole test. Assumes nothing.
use mathlib.Core.Path.{◌∙◌, sym, ap}
use mathlib.Core.Bool.{not}
use mathlib.Core.Logic.{⊎_elim}
use native.Mathlib.Omega.{arith}
use lib.ListN.{length}
use Rattle.piece.proofs.Seen.{seen-length}
use Rattle.section.proofs.Booleans.{and_false, and_true}
use Rattle.section.specs.Limits.{height_count}
use Rattle.layout.specs.Layout.{all_pieces}
use Rattle.table.specs.Tables.{files_of, layout_of}
use Rattle.catalogue.specs.Reading.{every, sound_piece}
use Rattle.soundness.specs.Checking.{ids_rise}
use Rattle.soundness.specs.Order.{in_order}
use Rattle.soundness.proofs.NotedPieces.{disk_ends, noted-none}
use Rattle.soundness.proofs.Sounding.{disk_unsound, sums_free_few, free_unsound, ids_unsound, not-not, shared_left}
use Rattle.soundness.proofs.Sounding.{sums_disk, sums_unsound}
use Rattle.soundness.proofs.checks.is_sound.Goals as goal

pub returns-then-not-sums_agree : goal.returns-then-not-sums_agree
returns-then-not-sums_agree c =
    sym (sums_unsound _ _ _ c.requires.0 c.requires.1 (sym c.if-not-sums_agree.ensures))

pub few-list-requires : goal.few-list-requires
few-list-requires c =
    sums_free_few _ _ _ c.requires.0 c.requires.1 (sym c.if-not-sums_agree.ensures)

pub returns-then-not-in_order : goal.returns-then-not-in_order
returns-then-not-in_order c =
    sym (free_unsound _ _ _ c.requires.0 c.requires.1
    (sym (ap in_order c.few-list.ensures.list)
    ∙ sym c.if-not-in_order.ensures))

pub note_pieces-requires : goal.note_pieces-requires
note_pieces-requires c =
    let l = c.few-list.ensures in
    let free = c.as_slice.ensures.listed ∙ l.list in
    record {
      exact = (
        c.requires.0,
        omega (arith, seen-length c.as_slice.result.now, ap length free, l.exact, l.few),
        free,
      );
      table_value = c.requires.1.sound_files;
      noted = noted-none;
    }

pub returns-in_default : goal.returns-in_default
unfolding layout_of
returns-in_default c =
    let t = c.args.table in
    sym (⊎_elim (ids_unsound _ _ _ c.requires.0 c.requires.1) (disk_unsound _ _ _ c.requires.0 c.requires.1)
    (and_false (ids_rise (files_of t)) (every (sound_piece height_count t.blocks) (all_pieces (layout_of t)))
    (sym c.in_default.ensures.passed)))

pub any_shared-requires : goal.any_shared-requires
any_shared-requires c = c.in-Some.ensures.few

pub returns : goal.returns
unfolding layout_of
returns c =
    let n = c.in-Some.ensures in
    let t = c.args.table in
    let all = all_pieces (layout_of t) in
    let sums = sym c.if-not-sums_agree.ensures in
    let both = and_true (ids_rise (files_of t)) (every (sound_piece height_count t.blocks) all) (sym n.passed) in
    ap not (c.any_shared.ensures all n.end n.noted
    (disk_ends t.blocks all (sums_disk _ _ _ c.requires.0 c.requires.1 sums) both.1))
    ∙ (not-not _
    ∙ shared_left _ _ _ c.requires.0 c.requires.1 sums both.0
    (sym (ap in_order c.few-list.ensures.list) ∙ sym c.if-not-in_order.ensures)
    both.1)

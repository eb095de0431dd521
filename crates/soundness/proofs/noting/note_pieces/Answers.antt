-- `soundness::noting::note_pieces` meets its contract: the ids of the files before the entry rise, and their pieces
-- are on the disk and noted. Assumes nothing.
use mathlib.Core.Bool.{◌&&◌}
use mathlib.Core.List.{List, ◌++◌, map}
use mathlib.Core.Path.{◌≡◌, ◌∙◌, ap, ap₂, refl, subst, sym}
use Prim.Native.Nat.{ℕ, ◌+◌, ◌<◌, ◌≤◌}
use native.Mathlib.Omega.{arith}
use lib.ListN.{get_or, length, length-append, take}
use lib.Seq.{take_all}
use Rattle.std.proofs.lemmas.List.{length-take}
use Rattle.section.specs.Limits.{height_count, most_files}
use Rattle.layout.specs.Layout.{all_pieces, file_pieces}
use Rattle.piece.specs.Packed.{seen}
use Rattle.piece.proofs.Seen.{seen-length}
use Rattle.piece_lists.proofs.EachItem.{each_get, each_take}
use Rattle.table.specs.Tables.{InPlaces, file_of, files_of, layout_of}
use Rattle.table.specs.declared.Entry.{Entry}
use Rattle.table.specs.declared.Table.{Table}
use Rattle.catalogue.specs.Reading.{every, sound_piece}
use Rattle.free_pieces.specs.Free.{free_of}
use Rattle.std.proofs.lemmas.Option.{IfSome_then}
use Rattle.section.proofs.Booleans.{false_and}
use Rattle.soundness.specs.Checking.{ids_rise}
use Rattle.soundness.specs.Counts.{Exact}
use Rattle.soundness.specs.Sharing.{Noted, most_pieces}
use Rattle.soundness.proofs.EveryPiece.{every_file, every_front, every_joined}
use Rattle.soundness.proofs.Joined.{blank_entry, file_pieces_more, files_to}
use Rattle.soundness.proofs.Points.{false_true, is_false}
use Rattle.soundness.proofs.Tested.{ids_fail, ids_hold, rising_more, rising_start, sound_id}
use Rattle.soundness.proofs.noting.note_pieces.Goals as goal

-- the entries of the files
abbrev entries : Table → List Entry
entries t = take t.count t.files

few_entries : (t : Table) → Exact t → length (entries t) ≤ most_files
few_entries t x = omega (arith, x.sized.files, length-take t.count t.files)

entry_few : (t : Table) → Exact t → (i : ℕ) → i < length (entries t) → InPlaces (get_or (entries t) i blank_entry)
entry_few t x i h = each_get {P = InPlaces} i blank_entry (each_take t.count x.sized.each) h

pub loop-entry-init : goal.loop-entry-init
unfolding every file_pieces
loop-entry-init c = (omega arith, refl, refl, c.requires.noted, rising_start (entries c.args.table.now))

pub returns-then-entry-last : goal.returns-then-entry-last
unfolding layout_of files_of
returns-then-entry-last c =
    let t = c.args.table.now in
    let i = c.loop-entry.entry-index in
    let some = sound_id (entries t) c.requires.table_value i c.loop-entry-test.true in
    let fails = ids_fail (entries t) i c.loop-entry.last c.loop-entry-test.true c.loop-entry.invariant.4 some
    c.if-entry-last.true in
    record {
      passed = sym (ap (λ b. b && every (sound_piece height_count t.blocks) (all_pieces (layout_of t))) fails);
      few = tt;
      end = tt;
      noted = tt;
    }

pub as_slice-requires : goal.as_slice-requires
as_slice-requires c = record {
  count_le_piece_places =
      entry_few c.args.table.now c.requires.exact.0 c.loop-entry.entry-index c.loop-entry-test.true;
}

pub note_list-requires : goal.note_list-requires
note_list-requires c =
    let t = c.args.table.now in
    let i = c.loop-entry.entry-index in
    let e = get_or (entries t) i blank_entry in
    let few = entry_few t c.requires.exact.0 i c.loop-entry-test.true in (
      omega (arith, ap length c.as_slice.ensures.words, length-take e.pieces.count e.pieces.items, few),
      omega (arith, c.loop-entry.invariant.0, c.loop-entry-test.true, few_entries t c.requires.exact.0),
    )

pub returns-in_err-at : goal.returns-in_err-at
unfolding layout_of files_of
returns-in_err-at c =
    let t = c.args.table.now in
    let p = sound_piece height_count t.blocks in
    let fails = c.in_err-at.ensures.disk ∙ ap (every p) c.as_slice.ensures.listed in
    let all = is_false (every p (all_pieces (layout_of t))) (λ e. false_true (fails
    ∙ every_file p (entries t) c.loop-entry.entry-index c.loop-entry-test.true
    (every_front p (file_pieces (files_of t)) (free_of t.free) e))) in
    rw c.from_residual.ensures record {
      passed = sym (false_and (ids_rise (files_of t)) all);
      few = tt;
      end = tt;
      noted = tt;
    }

pub loop-entry-preserved : goal.loop-entry-preserved
loop-entry-preserved c =
    let t = c.args.table.now in
    let i = c.loop-entry.entry-index in
    let v = c.loop-entry.invariant in
    let q = file_pieces (files_to i (entries t)) in
    let k = seen c.as_slice.result.now in
    let p = sound_piece height_count t.blocks in
    let r = c.in_ok-at.ensures in
    let z = c.note_list.new in
    let e = get_or (entries t) i blank_entry in
    let few = entry_few t c.requires.exact.0 i c.loop-entry-test.true in
    let more : file_pieces (files_to (i + 1) (entries t)) ≡ q ++ k =
    file_pieces_more (entries t) i c.loop-entry-test.true ∙ ap (λ x. q ++ x) (sym c.as_slice.ensures.listed) in (
      omega (arith, v.0, r.end, ap length c.as_slice.ensures.words, length-take e.pieces.count e.pieces.items, few),
      ap length more ∙ (length-append q k ∙ omega (arith, v.1, r.end, seen-length c.as_slice.result.now)),
      ap (every p) more ∙ (every_joined p q k v.2 ∙ sym r.disk),
      subst (λ x. Noted x z.firsts z.masks) (sym more) (r.noted q v.1 v.3),
      rising_more (entries t) i c.loop-entry.last v.4 c.if-entry-last.false,
    )

pub note_list-requires-2 : goal.note_list-requires-2
note_list-requires-2 c =
    (c.requires.exact.1, omega (arith, c.loop-entry.invariant.0, few_entries c.args.table.now c.requires.exact.0))

pub returns : goal.returns
unfolding layout_of files_of
returns c =
    let t = c.args.table.now in
    let i = c.loop-entry.entry-index in
    let v = c.loop-entry.invariant in
    let q = file_pieces (files_to i (entries t)) in
    let k = seen c.args.free.now in
    let p = sound_piece height_count t.blocks in
    let r = c.note_list-2.ensures in
    let z = c.note_list-2.new in
    let all : q ++ k ≡ all_pieces (layout_of t) =
    ap₂ (λ l f. file_pieces (map file_of l) ++ f) (take_all i (entries t) c.loop-entry-test.false)
    c.requires.exact.2 in
    let rise = ids_hold (entries t) i c.loop-entry.last c.loop-entry-test.false v.4 in
    record {
      passed =
          r.disk
          ∙ (sym (every_joined p q k v.2)
          ∙ (ap (every p) all ∙ sym (ap (λ y. y && every p (all_pieces (layout_of t))) rise)));
      few = IfSome_then _ {Q = λ n. n ≤ most_pieces} r.end
          (λ n e. omega (arith, e, v.0, c.requires.exact.1, few_entries t c.requires.exact.0));
      end = IfSome_then _ {Q = λ n. length (all_pieces (layout_of t)) ≡ n} r.end (λ n e. sym (ap length all)
          ∙ (length-append q k ∙ omega (arith, v.1, e, seen-length c.args.free.now)));
      noted = IfSome_then _ {Q = λ n. Noted (all_pieces (layout_of t)) z.firsts z.masks} (r.noted q v.1 v.3)
          (λ n h. subst (λ y. Noted y z.firsts z.masks) all h);
    }

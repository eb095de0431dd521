-- A table is sound exactly if its tests are passed. Assumes nothing.
use mathlib.Core.Bool.{Bool, false, not, true}
use mathlib.Core.List.{List}
use mathlib.Core.Path.{◌∙◌, ◌≡◌, ap₂, refl, sym}
use Prim.Native.Nat.{◌≤◌, ℕ}
use native.Mathlib.Omega.{arith}
use lib.Count.{ones}
use lib.Dec.{eqb, leb}
use lib.ListN.{length}
use borrow.Author.Tests.{eq-eqb, le-leb, leb-true}
use Rattle.catalogue.proofs.Tests.{and_intro}
use Rattle.catalogue.specs.Reading.{every, is_sound, sound_file, sound_free, sound_piece}
use Rattle.layout.proofs.Soundness.{free-few}
use Rattle.layout.specs.Layout.{Layout, all_pieces, block_count, file_blocks, free_blocks}
use Rattle.layout.specs.Lists.{sum_of}
use Rattle.section.proofs.Booleans.{and_true}
use Rattle.section.specs.Limits.{greatest_disk, most_files, height_count}
use Rattle.section.specs.declared.Section.{Section}
use Rattle.soundness.proofs.Ordered.{distinct, order_both, order_distinct, order_rises, rising}
use Rattle.soundness.proofs.Points.{false_true, is_false}
use Rattle.soundness.specs.Checking.{ids_rise, sums_agree}
use Rattle.soundness.specs.Counts.{Counted, Exact}
use Rattle.soundness.specs.Order.{in_order}
use Rattle.soundness.specs.Sharing.{none_shared}
use Rattle.piece_lists.specs.Few.{piece_places}
use Rattle.free_pieces.specs.Free.{free_of}
use Rattle.table.specs.Tables.{files_of, layout_of}
use Rattle.table.specs.declared.Table.{Table}

-- ---- the test of soundness, in its parts

abbrev on_disk : ℕ → List Section → Bool
on_disk c l = every (sound_piece height_count c) l

module _ (l : Layout) where
  abbrev pages : ℕ
  pages = sum_of file_blocks l.files

  abbrev Passed : Type 0
  Passed =
      (sums_agree l.blocks pages (block_count l.free) ≡ true) × (ids_rise l.files ≡ true)
      × (in_order l.free ≡ true) × (on_disk l.blocks (all_pieces l) ≡ true) × (none_shared (all_pieces l) ≡ true)

  passed_of : is_sound height_count l ≡ true → Passed
  unfolding is_sound sums_agree
  passed_of e =
      let a1 = and_true (leb 1 l.blocks) _ e in
      let a2 = and_true (leb l.blocks greatest_disk) _ a1.1 in
      let a3 = and_true (leb (length l.files) most_files) _ a2.1 in
      let a4 = and_true (ids_rise l.files) _ a3.1 in
      let a5 = and_true (every sound_file l.files) _ a4.1 in
      let a6 = and_true (leb pages l.blocks) _ a5.1 in
      let a7 = and_true (sound_free l) _ a6.1 in
      let a8 = and_true (on_disk l.blocks (all_pieces l)) (none_shared (all_pieces l)) a7.1 in
      let f1 = and_true (rising l.free) _ a7.0 in
      let f2 = and_true (distinct l.free) _ f1.1 in
      let f3 =
      and_true (eqb (block_count l.free) (free_blocks l)) (eqb (length l.free) (ones (free_blocks l)))
      f2.1 in (
        and_intro a1.0 (and_intro a2.0 (and_intro a6.0 f3.0)),
        a4.0,
        order_both l.free f1.0 f2.0,
        a8.0,
        a8.1,
      )

  of_passed : length l.files ≤ most_files → every sound_file l.files ≡ true
      → length l.free ≡ ones (free_blocks l) → Passed → is_sound height_count l ≡ true
  unfolding is_sound sums_agree
  of_passed few files count p =
      let a1 = and_true (leb 1 l.blocks) _ p.0 in
      let a2 = and_true (leb l.blocks greatest_disk) _ a1.1 in
      let a3 = and_true (leb pages l.blocks) (eqb (block_count l.free) (free_blocks l)) a2.1 in
      and_intro a1.0
      (and_intro a2.0
      (and_intro (le-leb (length l.files) most_files few)
      (and_intro p.1
      (and_intro files
      (and_intro a3.0
      (and_intro
      (and_intro (order_rises l.free p.2)
      (and_intro (order_distinct l.free p.2)
      (and_intro a3.1 (eq-eqb (length l.free) (ones (free_blocks l)) count))))
      (and_intro p.3 p.4)))))))

-- ---- a table that was read

module _ (t : Table) (sum free : ℕ) (x : Exact t) (y : Counted t sum free) where
  agree : sums_agree t.blocks sum free
      ≡ sums_agree t.blocks (sum_of file_blocks (files_of t)) (block_count (free_of t.free))
  agree = ap₂ (sums_agree t.blocks) y.pages_sum y.free_sum

  passed : is_sound height_count (layout_of t) ≡ true
      → (sums_agree t.blocks sum free ≡ true) × (ids_rise (files_of t) ≡ true) × (in_order (free_of t.free) ≡ true)
      × (on_disk t.blocks (all_pieces (layout_of t)) ≡ true) × (none_shared (all_pieces (layout_of t)) ≡ true)
  unfolding layout_of
  passed e = let p = passed_of (layout_of t) e in (agree ∙ p.0, p.1, p.2, p.3, p.4)

  pub sums_unsound : sums_agree t.blocks sum free ≡ false → is_sound height_count (layout_of t) ≡ false
  sums_unsound e = is_false _ (λ u. false_true (sym e ∙ (passed u).0))

  -- once the sums agree, the disk is one that may be
  pub sums_disk : sums_agree t.blocks sum free ≡ true → t.blocks ≤ greatest_disk
  unfolding sums_agree
  sums_disk e =
      leb-true t.blocks greatest_disk
      (and_true (leb t.blocks greatest_disk) _ (and_true (leb 1 t.blocks) _ e).1).0

  -- and the free pieces are few
  pub sums_free_few : sums_agree t.blocks sum free ≡ true → t.free.count ≤ piece_places
  unfolding layout_of
  sums_free_few e =
      omega (arith, x.free, free-few height_count (layout_of t) (omega arith) (sums_disk e) y.free_count)

  pub ids_unsound : ids_rise (files_of t) ≡ false → is_sound height_count (layout_of t) ≡ false
  ids_unsound e = is_false _ (λ u. false_true (sym e ∙ (passed u).1))

  pub free_unsound : in_order (free_of t.free) ≡ false → is_sound height_count (layout_of t) ≡ false
  free_unsound e = is_false _ (λ u. false_true (sym e ∙ (passed u).2))

  pub disk_unsound : on_disk t.blocks (all_pieces (layout_of t)) ≡ false → is_sound height_count (layout_of t) ≡ false
  disk_unsound e = is_false _ (λ u. false_true (sym e ∙ (passed u).3))

  pub shared_left : sums_agree t.blocks sum free ≡ true → ids_rise (files_of t) ≡ true
      → in_order (free_of t.free) ≡ true
      → on_disk t.blocks (all_pieces (layout_of t)) ≡ true
      → none_shared (all_pieces (layout_of t)) ≡ is_sound height_count (layout_of t)
  unfolding layout_of
  shared_left a b c d = go (none_shared (all_pieces (layout_of t))) refl
    where
      few : length (files_of t) ≤ most_files
      few = omega (arith, x.files, x.sized.files)

      go : (u : Bool) → none_shared (all_pieces (layout_of t)) ≡ u → u ≡ is_sound height_count (layout_of t)
      go true e =
          sym (of_passed (layout_of t) few y.sound_files y.free_count (sym agree ∙ a, b, c, d, e))
      go false e = sym (is_false _ (λ v. false_true (sym e ∙ (passed v).4)))

pub not-not : (b : Bool) → not (not b) ≡ b
not-not true = refl
not-not false = refl

-- In a whole layout the blocks of a buddy that files hold are those between the free pieces inside it, so that the
-- copies of a merge can be told from the free pieces alone. Assumes nothing.
use mathlib.Core.Bool.{Bool, cond, false, true}
use mathlib.Core.List.{List, []}
use mathlib.Core.Path.{◌∙◌, ◌≡◌, ap₂, refl, sym}
use Prim.Native.Nat.{◌+◌, ◌-◌, ◌<◌, ◌≤◌, suc, zero, ℕ}
use native.Mathlib.Omega.{arith}
use lib.Dec.{eqb, ltb}
use borrow.Author.Tests.{eqb-false, le-ltb, lt-ltb, ne_eqb}
use Rattle.layout.proofs.Lists.{each_all, each_imp, each_right, sum-append}
use Rattle.layout.proofs.MergeParts.{buddy-block}
use Rattle.layout.proofs.Ranges.{in_range-le-one}
use Rattle.layout.specs.Covering.{Rising}
use Rattle.layout.specs.Layout.{Layout, file_pieces, holds_block}
use Rattle.layout.specs.Lists.{sum_of}
use Rattle.layout.specs.Removing.{copies_from, copy_run, is_held, merge_copies}
use Rattle.section.proofs.Answers.{inside_iff}
use Rattle.section.specs.Sections.{buddy_of, end_of, length_of}
use Rattle.section.specs.declared.Section.{Section}
use Rattle.layout.proofs.FreeBuddies.{in_order}
use Rattle.free_pieces.proofs.GapRuns.{gaps_are}
use Rattle.layout.specs.Layout.{InOrder}
use Rattle.layout.specs.Moves.{MergeParts}
use Rattle.free_pieces.specs.Gaps.{free_copies, gap_copies}

one_or_other : (f k : ℕ) → f + k ≡ 1 → ltb 0 f ≡ eqb k 0
one_or_other f zero e = lt-ltb 0 f (omega arith)
one_or_other f (suc k) e = le-ltb 0 f (omega arith) ∙ sym (ne_eqb (suc k) 0 (λ z. omega arith))

module _ (c : ℕ) (w : Layout) (l u : Section) (r : List Section) (q : MergeParts c w l u r) (rise : Rising r) where
  -- the other free pieces end each before the next
  pub others_in_order : InOrder r
  others_in_order =
      in_order r rise
      (λ x. omega (
        arith,
        q.covers x,
        in_range-le-one x 0 c,
        sum-append (holds_block x) (file_pieces w.files) r,
      ))

  -- a block of the buddy is held by a file, or by a free piece other than the two
  held_or_free : ((buddy_of l).first ≡ u.first → ⊥) → (x : ℕ) → (buddy_of l).first ≤ x → x < end_of (buddy_of l)
      → is_held w.files x ≡ eqb (sum_of (holds_block x) r) 0
  held_or_free ne x lo hi =
      one_or_other (sum_of (holds_block x) (file_pieces w.files)) (sum_of (holds_block x) r)
      (buddy-block c w l u r q ne x lo hi)

  -- the copies of the merge are those of the runs between the free pieces
  pub held_between : merge_copies w.files l u ≡ free_copies l u r
  held_between = go (eqb (buddy_of l).first u.first) refl
    where
      start : u.first ≡ u.first + ((buddy_of l).first - (buddy_of l).first)
      start = omega arith

      size : length_of l ≡ end_of (buddy_of l) - (buddy_of l).first
      size = omega arith

      go : (t : Bool) → eqb (buddy_of l).first u.first ≡ t
          → cond t [] (copies_from (is_held w.files) (copy_run (buddy_of l).first u.first (length_of l)))
          ≡ cond t [] (gap_copies (buddy_of l) u.first (buddy_of l).first r)
      go true e = refl
      go false e =
          ap₂ (λ i j. copies_from (is_held w.files) (copy_run (buddy_of l).first i j)) start size
          ∙ gaps_are (is_held w.files) (buddy_of l) u.first (buddy_of l).first r (omega arith) (omega arith)
          others_in_order (each_imp (λ s m. m.0) (each_right (file_pieces w.files) r q.movable))
          (each_all r (λ s i. ((inside_iff s (buddy_of l)).0 i).0))
          (held_or_free (eqb-false (buddy_of l).first u.first e))

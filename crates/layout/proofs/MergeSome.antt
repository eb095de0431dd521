-- A merge copies at least one block unless the upper section is the buddy: its two are then the lowest, so the free
-- pieces inside the buddy are below its height and at most one of each, and cannot fill it. With
-- `buddies_copy_nothing`: a merge copies nothing exactly if its two are buddies. Assumes nothing.
use mathlib.Core.Bool.{Bool, cond, false, true}
use mathlib.Core.List.{List, [], ◌∷◌}
use mathlib.Core.Path.{◌∙◌, ◌≡◌, ap, refl, subst, sym}
use Prim.Native.Nat.{◌+◌, ◌-◌, ◌<◌, ◌^◌, ◌≤◌, suc, zero, ℕ}
use native.Mathlib.Decide.{dec_lt, ℕ_discrete}
use native.Mathlib.Omega.{arith}
use lib.ListN.{length}
use borrow.Author.Tests.{ltb-false}
use Rattle.layout.proofs.CopiesFrom.{none-counted}
use Rattle.layout.proofs.Cover.{sum_below_cong, sum_below_sections, sum_below_span}
use Rattle.layout.proofs.Lists.{each_imp, each_right}
use Rattle.layout.proofs.MergeHeld.{merge_number}
use Rattle.layout.proofs.MergePairs.{lowest_unless_buddies, lowest_two-lowest, merge_pair_is, LowestOf}
use Rattle.layout.proofs.MergePairs.{MergeableOf}
use Rattle.layout.proofs.MergeParts.{buddy-block, merge_parts}
use Rattle.layout.proofs.Merging.{within_height}
use Rattle.layout.proofs.Moving.{placed_off}
use Rattle.layout.proofs.Ranges.{Position, above, below, in_range_above, in_range_below, in_range_inside}
use Rattle.layout.proofs.Ranges.{position, within}
use Rattle.layout.proofs.Splitting.{at_most_one_small, count_none}
use Rattle.layout.specs.Choices.{Mergeable}
use Rattle.layout.specs.Covering.{Whole, count_of}
use Rattle.layout.specs.Layout.{Layout, file_pieces, holds_block, in_range, of_height}
use Rattle.layout.specs.Lists.{Each, done, more, sum_of}
use Rattle.layout.specs.Moves.{MergeParts}
use Rattle.layout.specs.Removing.{is_held, merge, merge_pair, pair}
use Rattle.section.proofs.Answers.{inside_iff}
use Rattle.section.specs.Nesting.{Placed}
use Rattle.section.specs.Sections.{buddy_of, end_of, is_inside, length_of}
use Rattle.section.specs.declared.Section.{Section}

-- ---- the pieces of a list that lie inside a section

unfoldable inside_of : Section → List Section → List Section
inside_of b [] = []
inside_of b (s ∷ l) = cond (is_inside s b) (s ∷ inside_of b l) (inside_of b l)

module _ (b : Section) where
  each_inside : {P : Section → Type 0} {l : List Section} → Each P l
      → Each (λ s. P s × (is_inside s b ≡ true)) (inside_of b l)
  unfolding inside_of
  each_inside {P} done = done
  each_inside {P} (more {a = s} {l = l} p e) = go (is_inside s b) refl (each_inside e)
    where
      go : (t : Bool) → is_inside s b ≡ t → Each (λ s. P s × (is_inside s b ≡ true)) (inside_of b l)
          → Each (λ s. P s × (is_inside s b ≡ true)) (cond t (s ∷ inside_of b l) (inside_of b l))
      go true q r = more {a = s} (p, q) r
      go false q r = r

  inside_fewer : (w : Section → ℕ) (l : List Section) → sum_of w (inside_of b l) ≤ sum_of w l
  unfolding inside_of
  inside_fewer w [] = omega arith
  inside_fewer w (s ∷ l) = go (is_inside s b) (inside_fewer w l)
    where
      go : (t : Bool) → sum_of w (inside_of b l) ≤ sum_of w l
          → sum_of w (cond t (s ∷ inside_of b l) (inside_of b l)) ≤ w s + sum_of w l
      go true q = omega arith
      go false q = omega arith

  -- they hold the blocks of the section that the whole list holds
  inside_holds : (x : ℕ) → b.first ≤ x → x < end_of b → {l : List Section}
      → Each (λ (s : Section). Placed s.first (length_of s) b.first (length_of b)) l
      → sum_of (holds_block x) (inside_of b l) ≡ sum_of (holds_block x) l
  unfolding inside_of
  inside_holds x lo hi done = refl
  inside_holds x lo hi (more {a = s} {l = l} p e) = go (is_inside s b) refl (inside_holds x lo hi e)
    where
      go : (t : Bool) → is_inside s b ≡ t → sum_of (holds_block x) (inside_of b l) ≡ sum_of (holds_block x) l
          → sum_of (holds_block x) (cond t (s ∷ inside_of b l) (inside_of b l)) ≡ holds_block x s + sum_of (holds_block x) l
      go true q r = ap (λ n. holds_block x s + n) r
      go false q r = omega (arith, placed_off s b p q x lo hi)

  -- and no block outside it
  inside_only : (x : ℕ) → in_range x b.first (length_of b) ≡ 0 → {l : List Section}
      → Each (λ (s : Section). is_inside s b ≡ true) l → sum_of (holds_block x) l ≡ 0
  inside_only x z done = refl
  inside_only x z (more {a = s} e r) =
      omega (arith, go (position x s.first (length_of s)) (position x b.first (length_of b)), inside_only x z r)
    where
      go : Position x s.first (length_of s) → Position x b.first (length_of b) → holds_block x s ≡ 0
      go (within p q) (within y v) =
          absurd (omega (arith, in_range_inside x b.first (length_of b) y v))
      go (within p q) (below y) = absurd (omega (arith, ((inside_iff s b).0 e).0))
      go (within p q) (above y) = absurd (omega (arith, ((inside_iff s b).0 e).1))
      go (below p) y = in_range_below x s.first (length_of s) p
      go (above p) y = in_range_above x s.first (length_of s) p

-- ---- a merge in a whole layout

module _ (c : ℕ) (w : Layout) (l u : Section) (r : List Section) (wh : Whole c w)
    (m : Mergeable l.height.value w.free l u r)
    (low : (j : ℕ) → j < l.height.value → count_of j w.free ≤ 1)
    (least : Each (λ (s : Section). s.height.value ≡ l.height.value → u.first ≤ s.first) r)
    (ne : (buddy_of l).first ≡ u.first → ⊥) where
  q : MergeParts c w l u r
  q = merge_parts c w l u r wh m

  abbrev in_buddy : List Section
  in_buddy = inside_of (buddy_of l) r

  -- a free piece inside the buddy is below its height: one of its height would be the buddy, and the second lowest
  lower_inside : (s : Section) → is_inside s (buddy_of l) ≡ true
      → (s.height.value ≡ l.height.value → u.first ≤ s.first) → s.height.value < l.height.value
  lower_inside s e f = go (ℕ_discrete s.height.value l.height.value)
    where
      i : ((buddy_of l).first ≤ s.first) × (end_of s ≤ end_of (buddy_of l))
      i = (inside_iff s (buddy_of l)).0 e

      go : Dec (s.height.value ≡ l.height.value) → s.height.value < l.height.value
      go (yes z) =
          let n = ap (λ k. 2 ^ k) z in
          absurd (ne (omega (arith, f z, i.0, i.1, q.below)))
      go (no z) = omega (arith, z, within_height l.height.value (buddy_of l).first s i)

  -- so they come to less than the buddy
  too_small : sum_of length_of in_buddy < 2 ^ l.height.value
  too_small = at_most_one_small c l.height.value heights thin
    where
      heights : Each (λ (s : Section). s.height.value < l.height.value) in_buddy
      heights = each_imp (λ s p. lower_inside s p.1 p.0) (each_inside (buddy_of l) least)

      thin : (j : ℕ) → count_of j in_buddy ≤ 1
      thin j = go (dec_lt j l.height.value)
        where
          go : Dec (j < l.height.value) → count_of j in_buddy ≤ 1
          go (yes p) = omega (arith, low j p, inside_fewer (buddy_of l) (of_height j) r, m.sum (of_height j))
          go (no p) = omega (arith, count_none j (each_imp (λ s x y. omega (arith, p)) heights))

  -- were no block of the buddy held, they would fill it
  filled : ((i : ℕ) → i < length_of l → is_held w.files ((buddy_of l).first + i) ≡ false)
      → sum_of length_of in_buddy ≡ length_of l
  filled none =
      sym (sum_below_sections c (each_imp (λ s p. p.0) (each_inside (buddy_of l) q.free)))
      ∙ (sum_below_cong c (λ x. sum_of (holds_block x) in_buddy) (λ x. in_range x (buddy_of l).first (length_of l))
      (λ x _. one x (position x (buddy_of l).first (length_of l)))
      ∙ sum_below_span c (buddy_of l).first (length_of l) q.buddy.within)
    where
      off : (x : ℕ) → in_range x (buddy_of l).first (length_of l) ≡ 0
          → sum_of (holds_block x) in_buddy ≡ in_range x (buddy_of l).first (length_of l)
      off x z =
          inside_only (buddy_of l) x z (each_imp (λ s p. p.1) (each_inside (buddy_of l) q.free)) ∙ sym z

      one : (x : ℕ) → Position x (buddy_of l).first (length_of l)
          → sum_of (holds_block x) in_buddy ≡ in_range x (buddy_of l).first (length_of l)
      one x (within lo hi) =
          let i : (buddy_of l).first + (x - (buddy_of l).first) ≡ x = omega arith in
          let free = ltb-false 0 (sum_of (holds_block x) (file_pieces w.files))
          (ap (is_held w.files) (sym i) ∙ none (x - (buddy_of l).first) (omega arith)) in
          inside_holds (buddy_of l) x lo hi (each_imp (λ s p. p.0) (each_right (file_pieces w.files) r q.movable))
          ∙ omega (
            arith,
            free,
            buddy-block c w l u r q ne x lo hi,
            in_range_inside x (buddy_of l).first (length_of l) lo hi,
          )
      one x (below p) = off x (in_range_below x (buddy_of l).first (length_of l) p)
      one x (above p) = off x (in_range_above x (buddy_of l).first (length_of l) p)

  some_copied : 1 ≤ length (merge l u r w).copies
  some_copied = go (length (merge l u r w).copies) refl
    where
      go : (n : ℕ) → length (merge l u r w).copies ≡ n → 1 ≤ n
      go zero e =
          absurd (omega (
            arith,
            too_small,
            filled (none-counted (is_held w.files) (length_of l) (buddy_of l).first
                (sym (merge_number c w l u r wh m) ∙ e)),
          ))
      go (suc n) e = omega arith

-- of two at the lowest height that has two
pub merge_copies_some : (c : ℕ) (w : Layout) (l u : Section) (r : List Section) → Whole c w
    → ((j : ℕ) → j < l.height.value → count_of j w.free ≤ 1)
    → merge_pair l.height.value w.free ≡ pair l u r → ((buddy_of l).first ≡ u.first → ⊥)
    → 1 ≤ length (merge l u r w).copies
merge_copies_some c w l u r wh low e ne =
    some_copied c w l u r wh
    (subst (MergeableOf l.height.value w.free) e (merge_pair_is l.height.value w.free wh.rising)) low
    (subst (LowestOf l.height.value) (lowest_unless_buddies l.height.value w.free e ne)
    (lowest_two-lowest l.height.value w.free wh.rising)) ne

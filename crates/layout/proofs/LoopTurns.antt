-- The loop of document 01 in a removal: at each height it merges at most once. Assumes nothing.
use mathlib.Core.List.{List, [], ◌++◌, ◌∷◌}
use mathlib.Core.Path.{◌≡◌, ap, refl, subst, sym}
use Prim.Native.Nat.{◌+◌, ◌≤◌, suc, zero, ℕ}
use native.Mathlib.Nat.{zero-add}
use native.Mathlib.Omega.{arith}
use lib.ListN.{length}
use Rattle.layout.proofs.LoopMerges.{below_suc, none_counts, pair_fewer}
use Rattle.layout.proofs.MergeOrder.{AtMostFrom, carry_on, released_two}
use Rattle.layout.proofs.MergePairs.{merge_pair_is, MergeableOf}
use Rattle.layout.proofs.MergeStep.{merge_keeps}
use Rattle.layout.proofs.Removed.{release_whole}
use Rattle.layout.specs.Covering.{Whole, count_of}
use Rattle.layout.specs.Layout.{File, Layout}
use Rattle.layout.specs.Loop.{merges_at, merges_from, merges_of_height}
use Rattle.layout.specs.Merges.{MergeKeeps}
use Rattle.layout.specs.Removals.{Find}
use Rattle.layout.specs.Removing.{Merge, MergePair, fewer, layout_after, merge, merge_pair, pair, release}
use Rattle.layout.specs.Sums.{SoundSums}

-- the layout after two runs of merges is that after the second from where the first ends
pub layout_after_append : (w : Layout) (a b : List Merge) → layout_after w (a ++ b) ≡ layout_after (layout_after w a) b
unfolding layout_after
layout_after_append w [] b = refl
layout_after_append w (m ∷ a) b = layout_after_append m.after a b

-- what a turn of the loop at height h does: at most one merge, and the heights up to h are done
record Turn (c h : ℕ) (w : Layout) (ms : List Merge) : Type 0 where
  once : length ms ≤ 1
  whole : Whole c (layout_after w ms)
  counts : AtMostFrom (suc h) (layout_after w ms)

module _ (c : ℕ) where
  -- a height that has at most one free piece is passed over
  idle : (h : ℕ) (w : Layout) → Whole c w → AtMostFrom h w → count_of h w.free ≤ 1 → Turn c h w []
  unfolding layout_after
  idle h w wh p q = record {
    once = omega arith;
    whole = wh;
    counts = record {
      low = below_suc h w p.low q;
      carried = omega (arith, p.high (suc h) (omega arith));
      high = λ j x. p.high j (omega arith);
    };
  }

  -- and merges nothing
  done_none : (n h : ℕ) (w : Layout) → Whole c w → count_of h w.free ≤ 1 → [] ≡ merges_at n h w
  unfolding merges_at
  done_none zero h w wh q = refl
  done_none (suc n) h w wh q =
      ap (λ t. elim t as (λ _. List Merge) [
        | pair l u r ↦ merge l u r w ∷ merges_at n h (merge l u r w).after
        | fewer ↦ []
      ])
      (sym (pair_fewer h w.free wh.rising q))

  -- a turn at h when the heights below are done
  turn : (n h : ℕ) (w : Layout) → Whole c w → AtMostFrom h w → length w.free ≤ n → Turn c h w (merges_at n h w)
  unfolding merges_at layout_after
  turn zero h w wh p a = idle h w wh p (none_counts h w.free a)
  turn (suc n) h w wh p a = go (merge_pair h w.free) (merge_pair_is h w.free wh.rising)
    where
      one : (m : Merge) → MergeKeeps c h w m → Turn c h w (m ∷ [])
      one m st = record { once = omega arith; whole = st.whole; counts = (carry_on p.low st p).1 }

      go : (t : MergePair) → MergeableOf h w.free t → Turn c h w (elim t as (λ _. List Merge) [
        | pair l u r ↦ merge l u r w ∷ merges_at n h (merge l u r w).after
        | fewer ↦ []
      ])
      go (pair l u r) q =
          let m : Merge = merge l u r w in
          let st : MergeKeeps c h w m = merge_keeps c h w l u r wh q in
          subst (λ z. Turn c h w (m ∷ z))
          (done_none n h m.after st.whole ((carry_on p.low st p).1.low h (omega arith))) (one m st)
      go fewer q = idle h w wh p q

  -- k turns from h up
  turns : (k h : ℕ) (w : Layout) → Whole c w → AtMostFrom h w
      → Whole c (layout_after w (merges_from k h w)) × AtMostFrom (h + k) (layout_after w (merges_from k h w))
  unfolding merges_from layout_after
  turns zero h w wh p = (wh, subst (λ z. AtMostFrom z w) (omega arith) p)
  turns (suc k) h w wh p =
      let t = turn (length w.free) h w wh p (omega arith) in
      let q = turns k (suc h) (layout_after w (merges_of_height h w)) t.whole t.counts in
      let e = sym
      (layout_after_append w (merges_of_height h w) (merges_from k (suc h) (layout_after w (merges_of_height h w)))) in (
        subst (Whole c) e q.0,
        subst (λ z. AtMostFrom z (layout_after w (merges_from (suc k) h w))) (omega arith)
            (subst (AtMostFrom (suc h + k)) e q.1),
      )

-- the layout when the loop of a removal comes to height h
abbrev pub at_height : ℕ → File → Layout → Layout
at_height h f l = layout_after (release f l) (merges_from h 0 (release f l))

-- the heights below h are then done, and h has at most three free pieces
pub at-height : (K i : ℕ) (l : Layout) (f : File) (r : List File) → SoundSums K l → Find i l.files f r → (h : ℕ)
    → Whole l.blocks (at_height h f l) × AtMostFrom h (at_height h f l)
at-height K i l f r g x h =
    let two : (j : ℕ) → count_of j (release f l).free ≤ 2 = released_two K i l f r g x in
    let p = turns l.blocks h 0 (release f l) (release_whole K i l f r g x)
    (record { low = λ j q. absurd (omega arith); carried = omega (arith, two 0); high = λ j q. two j }) in
    (p.0, subst (λ z. AtMostFrom z (at_height h f l)) (zero-add h) p.1)

-- and it merges at most once there
pub one_merge_a_turn : (K i : ℕ) (l : Layout) (f : File) (r : List File) → SoundSums K l → Find i l.files f r
    → (h : ℕ) → length (merges_of_height h (layout_after (release f l) (merges_from h 0 (release f l)))) ≤ 1
one_merge_a_turn K i l f r g x h =
    let p = at-height K i l f r g x h in
    (turn l.blocks (length (at_height h f l).free) h (at_height h f l) p.0 p.1 (omega arith)).once

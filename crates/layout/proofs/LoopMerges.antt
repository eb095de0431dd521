-- The loop of document 01 over the heights takes exactly the merges of `merge_all`. Assumes nothing.
use mathlib.Core.List.{List, [], ◌++◌, ◌∷◌}
use mathlib.Core.Path.{◌∙◌, ◌≡◌, ap, refl, subst, sym}
use Prim.Native.Nat.{◌+◌, ◌<◌, ◌^◌, ◌≤◌, suc, zero, ℕ}
use native.Mathlib.Decide.{ℕ_discrete}
use native.Mathlib.Nat.{zero-add}
use native.Mathlib.Omega.{arith}
use lib.ListN.{length}
use Rattle.layout.proofs.MergeAll.{merge_all_is, merged_thin}
use Rattle.layout.proofs.MergePairs.{merge_pair_is, MergeableOf}
use Rattle.layout.proofs.MergeStep.{merge_keeps}
use Rattle.layout.proofs.Removed.{release_whole}
use Rattle.layout.proofs.Splitting.{of_height_same}
use Rattle.layout.specs.Covering.{AtMostOne, Rising, Whole, count_of}
use Rattle.layout.specs.Layout.{File, Layout, of_height}
use Rattle.layout.specs.Loop.{merges_at, merges_from}
use Rattle.layout.specs.Merges.{MergeKeeps}
use Rattle.layout.specs.Removals.{Find}
use Rattle.layout.specs.Removing.{Merge, MergePair, Next, due, fewer, layout_after, merge, merge_all, merge_pair}
use Rattle.layout.specs.Removing.{next_merge, pair, release, removal, settled}
use Rattle.layout.specs.Sums.{SoundSums}
use Rattle.section.specs.declared.Section.{Section}

-- a height with at most one free piece has no two to merge
pub pair_fewer : (h : ℕ) (free : List Section) → Rising free → count_of h free ≤ 1 → merge_pair h free ≡ fewer
pair_fewer h free rise few = go (merge_pair h free) (merge_pair_is h free rise)
  where
    go : (t : MergePair) → MergeableOf h free t → t ≡ fewer
    go (pair l u r) q =
        absurd (omega (arith, q.sum (of_height h), of_height_same h l q.low, of_height_same h u q.high))
    go fewer q = refl

-- no pieces, and so none of a height
pub none_counts : (h : ℕ) (l : List Section) → length l ≤ 0 → count_of h l ≤ 1
none_counts h [] p = omega arith
none_counts h (s ∷ l) p = absurd (omega arith)

-- the heights below h have at most one free piece each
abbrev pub Below : ℕ → Layout → Type 0
Below h w = (j : ℕ) → j < h → count_of j w.free ≤ 1

-- a height more with at most one free piece
pub below_suc : (h : ℕ) (w : Layout) → Below h w → count_of h w.free ≤ 1 → Below (suc h) w
below_suc h w low q j p = go (ℕ_discrete j h)
  where
    go : Dec (j ≡ h) → count_of j w.free ≤ 1
    go (yes e) = subst (λ z. count_of z w.free ≤ 1) (sym e) q
    go (no n) = low j (omega (arith, n))

module _ (c K : ℕ) where
  -- the next merge is looked for from the first height that is not done
  skip_done : (h k : ℕ) (w : Layout) → Whole c w → h + k ≡ K → Below h w → next_merge K 0 w ≡ next_merge k h w
  unfolding next_merge
  skip_done zero k w wh e low = let z : K ≡ k = omega arith in ap (λ y. next_merge y 0 w) z
  skip_done (suc h) k w wh e low =
      skip_done h (suc k) w wh (omega arith) (λ j p. low j (omega arith))
      ∙ ap (λ t. elim t as (λ _. Next) [ pair l u r ↦ due (merge l u r w) | fewer ↦ next_merge k (suc h) w ])
      (pair_fewer h w.free wh.rising (low h (omega arith)))

  -- a merge at h leaves the heights below h as they were
  still_below : {h : ℕ} {w : Layout} {m : Merge} → MergeKeeps c h w m → Below h w → Below h m.after
  still_below st low j p = omega (arith, st.same j (λ e. omega arith) (λ e. omega arith), low j p)

  -- from height h on, with the heights below done, loop and merge_all agree
  abbrev Later : ℕ → ℕ → Type 0
  Later k h =
      (n : ℕ) (w : Layout) → Whole c w → Below h w → length w.free ≤ n → merges_from k h w ≡ merge_all n K w

  -- the merges of height h and then those from the next height up
  abbrev while_then : ℕ → ℕ → ℕ → Layout → List Merge
  while_then i k h w = merges_at i h w ++ merges_from k (suc h) (layout_after w (merges_at i h w))

  -- the same after one merge at h
  abbrev Then : ℕ → ℕ → ℕ → Layout → Type 0
  Then i k h w =
      (n : ℕ) (m : Merge) → MergeKeeps c h w m → length m.after.free ≤ n
      → while_then i k h m.after ≡ merge_all n K m.after

  -- and so before it
  one_then : (i k h n : ℕ) (w : Layout) → length w.free ≤ n → (m : Merge) → MergeKeeps c h w m
      → next_merge K 0 w ≡ due m → Then i k h w → m ∷ while_then i k h m.after ≡ merge_all n K w
  unfolding merge_all
  one_then i k h zero w z m st nx on = absurd (omega (arith, st.shorter))
  one_then i k h (suc n) w z m st nx on =
      ap (λ y. m ∷ y) (on n m st (omega (arith, st.shorter)))
      ∙ ap (λ t. elim t as (λ _. List Merge) [ due m ↦ m ∷ merge_all n K m.after | settled ↦ [] ]) (sym nx)

  -- by the fuel of the while: one merge more, or on to the next height
  while_then_lem : (i k h : ℕ) → h + suc k ≡ K → Later k (suc h) → (n : ℕ) (w : Layout) → Whole c w → Below h w
      → length w.free ≤ i → length w.free ≤ n → while_then i k h w ≡ merge_all n K w
  unfolding merges_at layout_after merge_all next_merge
  while_then_lem zero k h e later n w wh low a b = later n w wh (below_suc h w low (none_counts h w.free a)) b
  while_then_lem (suc i) k h e later n w wh low a b =
      go (merge_pair h w.free) refl (merge_pair_is h w.free wh.rising)
      (λ n m st x. while_then_lem i k h e later n m.after st.whole (still_below st low)
      (omega (arith, st.shorter)) x)
    where
      go : (t : MergePair) → merge_pair h w.free ≡ t → MergeableOf h w.free t → Then i k h w
          → (let ms : List Merge = elim t as (λ _. List Merge) [
            | pair l u r ↦ merge l u r w ∷ merges_at i h (merge l u r w).after
            | fewer ↦ []
          ] in
          ms ++ merges_from k (suc h) (layout_after w ms) ≡ merge_all n K w)
      go (pair l u r) q p on =
          one_then i k h n w b (merge l u r w) (merge_keeps c h w l u r wh p)
          (skip_done h (suc k) w wh e low
          ∙ ap (λ t. elim t as (λ _. Next) [ pair l u r ↦ due (merge l u r w) | fewer ↦ next_merge k (suc h) w ]) q)
          on
      go fewer q p on = later n w wh (below_suc h w low p) b

  -- with no height left to look at, merge_all ends
  settled_none : (n h : ℕ) (w : Layout) → next_merge K 0 w ≡ next_merge 0 h w → [] ≡ merge_all n K w
  unfolding merge_all next_merge
  settled_none zero h w q = refl
  settled_none (suc n) h w q =
      ap (λ t. elim t as (λ _. List Merge) [ due m ↦ m ∷ merge_all n K m.after | settled ↦ [] ]) (sym q)

  -- by the heights that are left
  loop_later : (k h : ℕ) → h + k ≡ K → Later k h
  unfolding merges_from
  loop_later zero h e n w wh low b = settled_none n h w (skip_done h 0 w wh e low)
  loop_later (suc k) h e n w wh low b =
      while_then_lem (length w.free) k h e (loop_later k (suc h) (omega arith)) n w wh low (omega arith) b

  -- document 01's loop over the heights takes exactly the merges of merge_all
  pub loop_is_merges : (w : Layout) → Whole c w → merges_from K 0 w ≡ merge_all (length w.free) K w
  loop_is_merges w wh =
      loop_later K 0 (zero-add K) (length w.free) w wh (λ j p. absurd (omega arith)) (omega arith)

  -- the while of a height ends because the height has fewer than two free pieces
  pub while_ends : (n h : ℕ) (w : Layout) → Whole c w → length w.free ≤ n
      → merge_pair h (layout_after w (merges_at n h w)).free ≡ fewer
  unfolding merges_at layout_after
  while_ends zero h w wh a = pair_fewer h w.free wh.rising (none_counts h w.free a)
  while_ends (suc n) h w wh a =
      go (merge_pair h w.free) refl (merge_pair_is h w.free wh.rising)
      (λ m st. while_ends n h m.after st.whole (omega (arith, st.shorter)))
    where
      go : (t : MergePair) → merge_pair h w.free ≡ t → MergeableOf h w.free t
          → ((m : Merge) → MergeKeeps c h w m
          → merge_pair h (layout_after m.after (merges_at n h m.after)).free ≡ fewer)
          → merge_pair h (layout_after w (elim t as (λ _. List Merge) [
            | pair l u r ↦ merge l u r w ∷ merges_at n h (merge l u r w).after
            | fewer ↦ []
          ])).free
          ≡ fewer
      go (pair l u r) q p on = on (merge l u r w) (merge_keeps c h w l u r wh p)
      go fewer q p on = q

  -- after the K heights no height at all has two free pieces: there is nothing to merge further up
  pub loop_ends : c < 2 ^ K → (w : Layout) → Whole c w → AtMostOne (layout_after w (merges_from K 0 w)).free
  loop_ends top w wh =
      subst (λ ms. AtMostOne (layout_after w ms).free) (sym (loop_is_merges w wh))
      (merged_thin (merge_all_is c K top (length w.free) w wh (omega arith)))

-- a removal makes the merges of the loop
pub removal_is_loop : (K i : ℕ) (l : Layout) (f : File) (r : List File) → SoundSums K l → Find i l.files f r
    → merges_from K 0 (release f l) ≡ removal K f l
unfolding removal
removal_is_loop K i l f r g x = loop_is_merges l.blocks K (release f l) (release_whole K i l f r g x)

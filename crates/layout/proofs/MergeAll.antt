-- Merging to the end: what it leaves. How many blocks it copies at most is in `CarryBound`. Assumes nothing.
use mathlib.Core.List.{List, [], ◌∷◌}
use mathlib.Core.Path.{◌∙◌, ◌≡◌, refl, subst, sym}
use Prim.Native.Nat.{◌+◌, ◌<◌, ◌^◌, ◌≤◌, suc, zero, ℕ}
use native.Mathlib.Decide.{dec_lt, ℕ_discrete}
use native.Mathlib.Nat.{not-le_of_lt, zero-add}
use native.Mathlib.Omega.{arith}
use lib.ListN.{length}
use Rattle.layout.proofs.Allocating.{height-lt}
use Rattle.layout.proofs.FilesMoved.{moved_refl, moved_trans}
use Rattle.layout.proofs.Lists.{each_append, each_imp, each_right}
use Rattle.layout.proofs.MergePairs.{merge_pair_is, MergeableOf}
use Rattle.layout.proofs.MergeStep.{merge_keeps}
use Rattle.layout.proofs.Splitting.{count_none, of_height_other, of_height_same}
use Rattle.layout.proofs.Zipped.{zipped_refl, zipped_trans}
use Rattle.layout.specs.Layout.{Layout, file_pieces}
use Rattle.layout.specs.Lists.{Each, Zipped, done}
use Rattle.layout.specs.Removing.{Merge, MergePair, Next, copies_of, due, fewer, layout_after, merge, merge_all}
use Rattle.layout.specs.Removing.{merge_pair, next_merge, pair, settled}
use Rattle.section.specs.declared.Section.{Section}
use Rattle.layout.specs.Merges.{InDisk, MergeKeeps, MergedAll, Moved, rest, step}
use Rattle.layout.specs.Covering.{AtMostOne, Whole, count_of}

abbrev pub NextIs : ℕ → ℕ → Layout → Next → Type 0
NextIs c K w (due m) = (h : ℕ) × (h < K) × ((j : ℕ) → j < h → count_of j w.free ≤ 1) × MergeKeeps c h w m
NextIs c K w settled = AtMostOne w.free

count_length : (j : ℕ) (l : List Section) → count_of j l ≤ length l
count_length j [] = omega arith
count_length j (s ∷ l) = go (ℕ_discrete s.height.value j) (count_length j l)
  where
    go : Dec (s.height.value ≡ j) → count_of j l ≤ length l → count_of j (s ∷ l) ≤ suc (length l)
    go (yes e) p = omega (arith, of_height_same j s e)
    go (no e) p = omega (arith, of_height_other j s e)

module _ (c K : ℕ) (top : c < 2 ^ K) where
  none_above : (w : Layout) → Whole c w → (j : ℕ) → K ≤ j → count_of j w.free ≡ 0
  none_above w wh j p =
      count_none j
      (each_imp (λ s d e. not-le_of_lt (height-lt c K top s d) (omega arith))
      (each_right (file_pieces w.files) w.free wh.disk))

  pub next_merge_is : (k h : ℕ) (w : Layout) → Whole c w → h + k ≡ K → ((j : ℕ) → j < h → count_of j w.free ≤ 1)
      → NextIs c K w (next_merge k h w)
  unfolding next_merge
  next_merge_is zero h w wh e low = λ j. go j (dec_lt j h)
    where
      go : (j : ℕ) → Dec (j < h) → count_of j w.free ≤ 1
      go j (yes p) = low j p
      go j (no p) = omega (arith, none_above w wh j (omega arith))
  next_merge_is (suc k) h w wh e low =
      go (merge_pair h w.free) (merge_pair_is h w.free wh.rising)
      (λ low'. next_merge_is k (suc h) w wh (omega arith) low')
    where
      go : (t : MergePair) → MergeableOf h w.free t
          → (((j : ℕ) → j < suc h → count_of j w.free ≤ 1) → NextIs c K w (next_merge k (suc h) w))
          → NextIs c K w
          (elim t as (λ _. Next) [ pair l u r ↦ due (merge l u r w) | fewer ↦ next_merge k (suc h) w ])
      go (pair l u r) q on = (h, omega arith, low, merge_keeps c h w l u r wh q)
      go fewer q on = on (λ j. below j (dec_lt j h))
        where
          below : (j : ℕ) → Dec (j < h) → j < suc h → count_of j w.free ≤ 1
          below j (yes x) y = low j x
          below j (no x) y = let z : j ≡ h = omega arith in subst (λ i. count_of i w.free ≤ 1) (sym z) q

  pub merge_all_is : (n : ℕ) (w : Layout) → Whole c w → length w.free ≤ n → MergedAll c K w (merge_all n K w)
  unfolding merge_all
  merge_all_is zero w wh p = rest wh (λ j. omega (arith, count_length j w.free))
  merge_all_is (suc n) w wh p =
      go (next_merge K 0 w) (next_merge_is K 0 w wh (zero-add K) (λ j x. absurd (omega arith)))
      (λ m h st. merge_all_is n m.after st.whole (omega (arith, st.shorter)))
    where
      go : (t : Next) → NextIs c K w t
          → ((m : Merge) (h : ℕ) → MergeKeeps c h w m → MergedAll c K m.after (merge_all n K m.after))
          → MergedAll c K w (elim t as (λ _. List Merge) [ due m ↦ m ∷ merge_all n K m.after | settled ↦ [] ])
      go (due m) (h, lt, low, st) on = step h lt wh low st (on m h st)
      go settled thin on = rest wh thin

-- What merges to the end keep.
module _ {c K : ℕ} where
  pub merged_whole : {w : Layout} {ms : List Merge} → MergedAll c K w ms → Whole c (layout_after w ms)
  unfolding layout_after
  merged_whole (rest wh t) = wh
  merged_whole (step h lt wh low st s) = merged_whole s

  pub merged_thin : {w : Layout} {ms : List Merge} → MergedAll c K w ms → AtMostOne (layout_after w ms).free
  unfolding layout_after
  merged_thin (rest wh t) = t
  merged_thin (step h lt wh low st s) = merged_thin s

  pub merged_blocks : {w : Layout} {ms : List Merge} → MergedAll c K w ms → (layout_after w ms).blocks ≡ w.blocks
  unfolding layout_after
  merged_blocks (rest wh t) = refl
  merged_blocks (step h lt wh low st s) = merged_blocks s ∙ st.blocks

  pub merged_reach : {w : Layout} {ms : List Merge} → MergedAll c K w ms → Each (InDisk c) (copies_of ms)
  unfolding copies_of
  merged_reach (rest wh t) = done
  merged_reach (step h lt wh low st s) = each_append st.reach (merged_reach s)

  pub merged_files : {w : Layout} {ms : List Merge} → MergedAll c K w ms
      → Zipped (Moved (copies_of ms)) w.files (layout_after w ms).files
  unfolding copies_of layout_after
  merged_files (rest {w = w} wh t) = zipped_refl moved_refl w.files
  merged_files (step {m = m} {ms = ms} h lt wh low st s) =
      zipped_trans (moved_trans m.copies (copies_of ms)) st.files (merged_files s)

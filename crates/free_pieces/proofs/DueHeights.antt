-- The lowest height that has two of a list: the pair of that height is the lowest pair, and there is none where no
-- height has two. Assumes nothing.
use Rattle.std.proofs.Common.{◌≡◌, ◌+◌, ◌<◌, ◌≤◌, ◌∙◌, add-one, ap, arith, refl, subst, sym, suc, zero, ℕ}
use Rattle.std.proofs.Common.{Bool, true, false, cond, List, Some, None}
use Rattle.std.specs.List.{count_by, find, range_with_len}
use Rattle.std.specs.Prelude.{nat_lt}
use Rattle.std.proofs.lemmas.Bool.{ltb-false, ltb-true}
use Rattle.std.proofs.lemmas.List.Recursion.{is_count_by}
use Rattle.layout.proofs.BuddyPairs.{buddy_pair_is}
use Rattle.layout.proofs.MergePairs.{merge_pair-lowest}
use Rattle.layout.proofs.Splitting.{of_height_same}
use Rattle.layout.proofs.Taking.{TakesOf, take_first_is, takes_height, takes_sum}
use Rattle.layout.specs.Adding.{Taken, nothing, take_first, taken}
use Rattle.layout.specs.Choices.{BuddiesOf, Takes}
use Rattle.layout.specs.Covering.{count_of}
use Rattle.layout.specs.Layout.{has_height, of_height}
use Rattle.layout.specs.Lists.{indicator}
use Rattle.layout.specs.Removing.{MergePair, buddy_pair, fewer, lowest_two, merge_pair, pair, second_of}
use Rattle.layout.specs.Removing.{with_lower}
use Rattle.piece.specs.Packed.{section_in, seen}
use Rattle.piece.specs.declared.Piece.{Piece}
use Rattle.section.specs.declared.Section.{Section}
use Rattle.free_pieces.specs.Free.{lowest_pair}

-- the pieces of a height are counted
pub count_seen : (h : ℕ) (l : List Piece) → count_of h (seen l) ≡ count_by (λ x. has_height h (section_in x)) l
unfolding of_height seen
count_seen h l =
    is_count_by (λ k. count_of h (seen k)) (λ x. has_height h (section_in x)) refl
    (λ x xs. elim (has_height h (section_in x)) as
    (λ b. indicator b + count_of h (seen xs) ≡ cond b (1 + count_of h (seen xs)) (count_of h (seen xs)))
    [ true ↦ refl | false ↦ omega arith ]) l

-- ---- no pair

few-lowest : (h : ℕ) (free : List Section) → count_of h free ≤ 1 → fewer ≡ lowest_two h free
unfolding lowest_two
few-lowest h free few = go (take_first (has_height h) free) (take_first_is (has_height h) free)
  where
    second : (l : Section) (r : List Section) → Takes (has_height h) free l r → (q : Taken)
        → TakesOf (has_height h) r q
        → fewer ≡ with_lower l q
    second l r p (taken u s) q =
        absurd (omega (
          arith,
          takes_sum (of_height h) p,
          takes_sum (of_height h) q,
          of_height_same h l (takes_height p),
          of_height_same h u (takes_height q),
        ))
    second l r p nothing q = refl

    go : (t : Taken) → TakesOf (has_height h) free t → fewer ≡ second_of h t
    go (taken l r) p = second l r p (take_first (has_height h) r) (take_first_is (has_height h) r)
    go nothing p = refl

few_buddies : (h : ℕ) (free : List Section) → count_of h free ≤ 1 → buddy_pair h free ≡ fewer
few_buddies h free few = go (buddy_pair h free) (buddy_pair_is h free)
  where
    go : (t : MergePair) → BuddiesOf h free t → t ≡ fewer
    go (pair l u r) q =
        absurd (omega (
          arith,
          takes_sum (of_height h) q.lower,
          takes_sum (of_height h) q.upper,
          of_height_same h l q.low,
          of_height_same h u (q.buddy.height ∙ q.low),
        ))
    go fewer q = refl

pub few_pair : (h : ℕ) (free : List Section) → count_of h free ≤ 1 → fewer ≡ merge_pair h free
few_pair h free few = few-lowest h free few ∙ sym (merge_pair-lowest h free (few_buddies h free few))

-- ---- the lowest height with two

-- the height i is the lowest, of k heights from h up
pub record DueAt (free : List Section) (k h i : ℕ) : Type 0 where
  pub most : i < h + k
  pub some : 1 < count_of i free
  pub here : (l u : Section) (r : List Section) → pair l u r ≡ merge_pair i free → pair l u r ≡ lowest_pair k h free

module _ (free : List Section) (two : ℕ → Bool) (is : (h : ℕ) → two h ≡ nat_lt 1 (count_of h free)) where
  or_above : ℕ → ℕ → MergePair → MergePair
  or_above k h t = elim t as (λ _. MergePair) [ pair l u r ↦ pair l u r | fewer ↦ lowest_pair k (suc h) free ]

  step : (k h : ℕ) → lowest_pair (suc k) h free ≡ or_above k h (merge_pair h free)
  unfolding lowest_pair or_above
  step k h = refl

  -- a height with fewer than two is passed
  passed : (k h : ℕ) → two h ≡ false → lowest_pair (suc k) h free ≡ lowest_pair k (h + 1) free
  unfolding or_above
  passed k h e =
      step k h
      ∙ ap (or_above k h) (sym (few_pair h free (ltb-false 1 (count_of h free) (sym (is h) ∙ e))))
      ∙ ap (λ z. lowest_pair k z free) (sym (add-one h))

  pub none_due : (k h : ℕ) → find two (range_with_len h k) ≡ None → lowest_pair k h free ≡ fewer
  unfolding lowest_pair
  none_due zero h e = refl
  none_due (suc k) h e = go (two h) refl e (none_due k (h + 1))
    where
      go : (b : Bool) → two h ≡ b → cond b (Some h) (find two (range_with_len (h + 1) k)) ≡ None
          → (find two (range_with_len (h + 1) k) ≡ None → lowest_pair k (h + 1) free ≡ fewer)
          → lowest_pair (suc k) h free ≡ fewer
      go true q e ih = cc
      go false q e ih = passed k h q ∙ ih e

  pub one_due : (k h i : ℕ) → find two (range_with_len h k) ≡ Some i → DueAt free k h i
  unfolding or_above
  one_due zero h i e = cc
  one_due (suc k) h i e = go (two h) refl e (one_due k (h + 1) i)
    where
      go : (b : Bool) → two h ≡ b → cond b (Some h) (find two (range_with_len (h + 1) k)) ≡ Some i
          → (find two (range_with_len (h + 1) k) ≡ Some i → DueAt free k (h + 1) i) → DueAt free (suc k) h i
      go true q e ih =
          let s : h ≡ i = cc in
          let d : DueAt free (suc k) h h = record {
            most = omega arith;
            some = ltb-true 1 (count_of h free) (sym (is h) ∙ q);
            here = λ l u r m. ap (or_above k h) m ∙ sym (step k h);
          } in
          subst (DueAt free (suc k) h) s d
      go false q e ih =
          let d = ih e in record {
            most = omega (arith, d.most);
            some = d.some;
            here = λ l u r m. d.here l u r m ∙ sym (passed k h q);
          }

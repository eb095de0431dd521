-- The next merge of a layout by the pair that `lowest_pair` answers. Assumes nothing.
use Rattle.std.specs.Prelude.{None, Some}
use mathlib.Core.List.{List}
use mathlib.Core.Path.{◌∙◌, ◌≡◌, ap, refl, subst, sym}
use Prim.Native.Nat.{◌+◌, ◌<◌, ◌≤◌, suc, zero, ℕ}
use native.Mathlib.Omega.{arith}
use Rattle.layout.specs.Choices.{Mergeable}
use Rattle.layout.specs.Covering.{Rising}
use Rattle.section.specs.Limits.{height_count}
use Rattle.layout.proofs.MergePairs.{merge_pair_is, MergeableOf}
use Rattle.layout.specs.Layout.{Layout}
use Rattle.layout.specs.Removing.{MergePair, Next, due, fewer, merge, merge_pair, next_merge, pair, settled}
use Rattle.section.specs.declared.Section.{Section}
use Rattle.free_pieces.specs.Free.{Pairs, free_of, lowest_pair}
use Rattle.free_pieces.specs.declared.Pair.{Pair}

-- the merge of a pair, if there is one
abbrev pub next_of : Layout → MergePair → Next
next_of w (pair l u others) = due (merge l u others w)
next_of w fewer = settled

pub next_is : (k h : ℕ) (w : Layout) → next_merge k h w ≡ next_of w (lowest_pair k h w.free)
unfolding next_merge lowest_pair
next_is zero h w = refl
next_is (suc k) h w = go (merge_pair h w.free) (next_is k (suc h) w)
  where
    go : (t : MergePair) → next_merge k (suc h) w ≡ next_of w (lowest_pair k (suc h) w.free)
        → elim t as (λ _. Next) [ pair l u others ↦ due (merge l u others w) | fewer ↦ next_merge k (suc h) w ]
        ≡ next_of w
        (elim t as (λ _. MergePair) [ pair l u others ↦ pair l u others | fewer ↦ lowest_pair k (suc h) w.free ])
    go (pair l u others) e = refl
    go fewer e = e

pub merge_due : (n : ℕ) (w : Layout) (p : Pair) → Pairs n (lowest_pair height_count 0 w.free) (Some p)
    → next_merge height_count 0 w ≡ due (merge p.lower p.upper (free_of p.others) w)
merge_due n w p ps = next_is height_count 0 w ∙ ap (next_of w) (sym ps.meaning)

pub merge_settled : (n : ℕ) (w : Layout) → Pairs n (lowest_pair height_count 0 w.free) None
    → next_merge height_count 0 w ≡ settled
merge_settled n w ps = next_is height_count 0 w ∙ ap (next_of w) (sym ps.meaning)

-- the two that are due, of k heights from h up
pub record Due (k h : ℕ) (free : List Section) (l u : Section) (r : List Section) : Type 0 where
  pub low : h ≤ l.height.value
  pub high : l.height.value < h + k
  pub mergeable : Mergeable l.height.value free l u r

abbrev pub DueOf : ℕ → ℕ → List Section → MergePair → Type 0
DueOf k h free (pair l u r) = Due k h free l u r
DueOf k h free fewer = Unit {0}

pub due_is : (k h : ℕ) (free : List Section) → Rising free → DueOf k h free (lowest_pair k h free)
unfolding lowest_pair
due_is zero h free rise = tt
due_is (suc k) h free rise =
    go (merge_pair h free) (merge_pair_is h free rise) (lowest_pair k (suc h) free) (due_is k (suc h) free rise)
  where
    later : (s : MergePair) → DueOf k (suc h) free s → DueOf (suc k) h free s
    later (pair l u r) d =
        record { low = omega (arith, d.low); high = omega (arith, d.high); mergeable = d.mergeable }
    later fewer d = d

    go : (t : MergePair) → MergeableOf h free t → (s : MergePair) → DueOf k (suc h) free s
        → DueOf (suc k) h free (elim t as (λ _. MergePair) [ pair l u others ↦ pair l u others | fewer ↦ s ])
    go (pair l u r) q s d = record {
      low = omega (arith, q.low);
      high = omega (arith, q.low);
      mergeable = subst (λ z. Mergeable z free l u r) (sym q.low) q;
    }
    go fewer q s d = later s d

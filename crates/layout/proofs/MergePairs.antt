-- The two free sections that a merge takes: two that are buddies, else the two lowest. Assumes nothing.
use mathlib.Core.Bool.{Bool}
use mathlib.Core.List.{List}
use mathlib.Core.Path.{◌∙◌, ◌≡◌, refl, subst, sym}
use Prim.Native.Nat.{◌≤◌, ℕ}
use native.Mathlib.Nat.{le_of_lt}
use native.Mathlib.Omega.{arith}
use Rattle.layout.proofs.BuddyPairs.{buddy_pair_is}
use Rattle.layout.proofs.Splitting.{count_none, of_height_same}
use Rattle.layout.proofs.Taking.{TakesOf, nothing_height, take_first_is, takes_each, takes_height, takes_lowest}
use Rattle.layout.proofs.Taking.{takes_rising, takes_sum}
use Rattle.layout.specs.Adding.{Taken, nothing, take_first, taken}
use Rattle.layout.specs.Choices.{BuddiesOf, Mergeable, Takes}
use Rattle.layout.specs.Covering.{Rising, count_of}
use Rattle.layout.specs.Layout.{has_height, of_height}
use Rattle.layout.specs.Lists.{Each}
use Rattle.layout.specs.Removing.{MergePair, buddy_pair, fewer, lowest_two, merge_pair, pair, second_of, with_lower}
use Rattle.section.specs.Sections.{buddy_of}
use Rattle.section.specs.declared.Section.{Section}

-- what is taken, or height h has fewer than two
abbrev pub MergeableOf : ℕ → List Section → MergePair → Type 0
MergeableOf h free (pair l u r) = Mergeable h free l u r
MergeableOf h free fewer = count_of h free ≤ 1

-- the upper one has the lowest first block of all others of its height
abbrev pub LowestOf : ℕ → MergePair → Type 0
LowestOf h (pair l u r) = Each (λ (s : Section). s.height.value ≡ h → u.first ≤ s.first) r
LowestOf h fewer = ◌≡◌ {A = ℕ} 0 0

mergeable : (h : ℕ) (free r r' : List Section) (l u : Section) → l.height.value ≡ h → u.height.value ≡ h
    → l.first ≤ u.first → Rising free
    → {p q : Section → Bool} → Takes p free l r → Takes q r u r' → Mergeable h free l u r'
mergeable h free r r' l u lh uh o rise p q = record {
  low = lh;
  high = uh;
  order = o;
  rising = takes_rising q (takes_rising p rise);
  sum = λ w. omega (arith, takes_sum w p, takes_sum w q);
  each = λ c e. let x = takes_each p e in let y = takes_each q x.1 in (x.0, y.0, y.1);
}

-- ---- the two lowest

pub lowest_two_is : (h : ℕ) (free : List Section) → Rising free → MergeableOf h free (lowest_two h free)
unfolding lowest_two
lowest_two_is h free rise = go (take_first (has_height h) free) (take_first_is (has_height h) free)
  where
    go2 : (l : Section) (r : List Section) → Takes (has_height h) free l r → (q : Taken) → TakesOf (has_height h) r q
        → MergeableOf h free (with_lower l q)
    go2 l r p (taken u r') q =
        mergeable h free r r' l u (takes_height p) (takes_height q)
        ((takes_each q (takes_lowest p rise)).0 (takes_height q)) rise p q
    go2 l r p nothing q =
        omega (arith, takes_sum (of_height h) p, of_height_same h l (takes_height p), count_none h (nothing_height q))

    go : (p : Taken) → TakesOf (has_height h) free p → MergeableOf h free (second_of h p)
    go (taken l r) p = go2 l r p (take_first (has_height h) r) (take_first_is (has_height h) r)
    go nothing p = omega (arith, count_none h (nothing_height p))

pub lowest_two-lowest : (h : ℕ) (free : List Section) → Rising free → LowestOf h (lowest_two h free)
unfolding lowest_two
lowest_two-lowest h free rise = go (take_first (has_height h) free) (take_first_is (has_height h) free)
  where
    go2 : (l : Section) (r : List Section) → Rising r → (q : Taken) → TakesOf (has_height h) r q
        → LowestOf h (with_lower l q)
    go2 l r up (taken u r') q = takes_lowest q up
    go2 l r up nothing q = refl

    go : (p : Taken) → TakesOf (has_height h) free p → LowestOf h (second_of h p)
    go (taken l r) p = go2 l r (takes_rising p rise) (take_first (has_height h) r) (take_first_is (has_height h) r)
    go nothing p = refl

-- ---- the choice

-- two that are buddies are taken
pub merge_pair_buddies : (h : ℕ) (free : List Section) {l u : Section} {r : List Section}
    → buddy_pair h free ≡ pair l u r → merge_pair h free ≡ pair l u r
unfolding merge_pair
merge_pair_buddies h free e = rw e

-- else the two lowest
pub merge_pair-lowest : (h : ℕ) (free : List Section) → buddy_pair h free ≡ fewer → merge_pair h free ≡ lowest_two h free
unfolding merge_pair
merge_pair-lowest h free e = rw e

pub merge_pair_is : (h : ℕ) (free : List Section) → Rising free → MergeableOf h free (merge_pair h free)
merge_pair_is h free rise = go (buddy_pair h free) refl (buddy_pair_is h free)
  where
    go : (t : MergePair) → buddy_pair h free ≡ t → BuddiesOf h free t → MergeableOf h free (merge_pair h free)
    go (pair l u r) e b =
        subst (MergeableOf h free) (sym (merge_pair_buddies h free e))
        (mergeable h free b.between r l u b.low (b.buddy.height ∙ b.low) (le_of_lt b.buddy.above) rise
        b.lower b.upper)
    go fewer e b = subst (MergeableOf h free) (sym (merge_pair-lowest h free e)) (lowest_two_is h free rise)

-- two that are no buddies are the two lowest
pub lowest_unless_buddies : (h : ℕ) (free : List Section) {l u : Section} {r : List Section}
    → merge_pair h free ≡ pair l u r → ((buddy_of l).first ≡ u.first → ⊥) → lowest_two h free ≡ pair l u r
lowest_unless_buddies h free {l} {u} {r} e ne = go (buddy_pair h free) refl
  where
    go : (t : MergePair) → buddy_pair h free ≡ t → lowest_two h free ≡ pair l u r
    go (pair l' u' r') q =
        let b = subst (BuddiesOf h free) (q ∙ (sym (merge_pair_buddies h free q) ∙ e)) (buddy_pair_is h free) in
        absurd (ne (sym b.buddy.first))
    go fewer q = sym (merge_pair-lowest h free q) ∙ e

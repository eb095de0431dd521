-- Sections that share no block and come to the size of the disk hold every block exactly once, and the converse.
-- Assumes nothing.
use mathlib.Core.List.{List}
use mathlib.Core.Logic.{inl, inr}
use mathlib.Core.Path.{◌∙◌, ◌≡◌, ap, ap₂, refl, sym}
use Prim.Native.Nat.{◌+◌, ◌-◌, ◌<◌, ◌^◌, ◌≤◌, min, suc, zero, ℕ}
use native.Mathlib.Decide.{dec_lt, ℕ_discrete}
use native.Mathlib.Omega.{arith}
use Rattle.layout.proofs.Lists.{each_imp}
use Rattle.layout.proofs.Ranges.{Position, above, below, in_range_above, in_range_below, in_range_inside}
use Rattle.layout.proofs.Ranges.{in_range-le-one, position, within}
use Rattle.layout.specs.Covering.{Covers, Disjoint}
use Rattle.layout.specs.Layout.{OnDisk, block_count, holds_block, in_range}
use Rattle.layout.specs.Lists.{Each, done, more, next, none, sum_of}
use Rattle.section.specs.Sections.{Apart, length_of}
use Rattle.section.specs.declared.Section.{Section}

-- the sum_below of g over the blocks below c
pub sum_below : ℕ → (ℕ → ℕ) → ℕ
sum_below zero g = 0
sum_below (suc c) g = sum_below c g + g c

pub sum_below_add : (c : ℕ) (g k : ℕ → ℕ) → sum_below c (λ x. g x + k x) ≡ sum_below c g + sum_below c k
unfolding sum_below
sum_below_add zero g k = refl
sum_below_add (suc c) g k = omega (arith, sum_below_add c g k)

pub sum_below_zero : (c : ℕ) → sum_below c (λ _. 0) ≡ 0
unfolding sum_below
sum_below_zero zero = refl
sum_below_zero (suc c) = omega (arith, sum_below_zero c)

pub sum_below_cong : (c : ℕ) (g k : ℕ → ℕ) → ((x : ℕ) → x < c → g x ≡ k x) → sum_below c g ≡ sum_below c k
unfolding sum_below
sum_below_cong zero g k e = refl
sum_below_cong (suc c) g k e = omega (arith, sum_below_cong c g k (λ x p. e x (omega arith)), e c (omega arith))

sum_below_range : (c a n : ℕ) → sum_below c (λ x. in_range x a n) ≡ min c (a + n) - min c a
unfolding sum_below
sum_below_range zero a n = omega arith
sum_below_range (suc c) a n = go (position c a n) (sum_below_range c a n)
  where
    go : Position c a n → sum_below c (λ x. in_range x a n) ≡ min c (a + n) - min c a
        → sum_below c (λ x. in_range x a n) + in_range c a n ≡ min (suc c) (a + n) - min (suc c) a
    go (within p q) e = omega (arith, in_range_inside c a n p q)
    go (below p) e = omega (arith, in_range_below c a n p)
    go (above p) e = omega (arith, in_range_above c a n p)

pub sum_below_span : (c a n : ℕ) → a + n ≤ c → sum_below c (λ x. in_range x a n) ≡ n
sum_below_span c a n p = omega (arith, sum_below_range c a n)

pub sum_below_sections : (c : ℕ) {l : List Section} → Each (OnDisk c) l
    → sum_below c (λ x. sum_of (holds_block x) l) ≡ sum_of length_of l
sum_below_sections c done = sum_below_zero c
sum_below_sections c (more {a = s} {l = l} p e) =
    sum_below_add c (λ x. holds_block x s) (λ x. sum_of (holds_block x) l)
    ∙ ap₂ (λ y z. y + z) (sum_below_span c s.first (2 ^ s.height.value) p.within) (sum_below_sections c e)

pub covers_size : (c : ℕ) {l : List Section} → Each (OnDisk c) l → Covers c l → sum_of length_of l ≡ c
covers_size c {l} d cov =
    sym (sum_below_sections c d)
    ∙ (sum_below_cong c (λ x. sum_of (holds_block x) l) (λ x. in_range x 0 c) (λ x _. cov x)
    ∙ sum_below_span c 0 c (omega arith))

-- numbers of at most 1 that come to c are all 1
sum_below_le : (c : ℕ) (g : ℕ → ℕ) → ((x : ℕ) → g x ≤ 1) → sum_below c g ≤ c
unfolding sum_below
sum_below_le zero g b = omega arith
sum_below_le (suc c) g b = omega (arith, sum_below_le c g b, b c)

pub sum_below_full : (c : ℕ) (g : ℕ → ℕ) → ((x : ℕ) → g x ≤ 1) → sum_below c g ≡ c → (x : ℕ) → x < c → g x ≡ 1
unfolding sum_below
sum_below_full zero g b e x p = absurd (omega arith)
sum_below_full (suc c) g b e x p =
    go (ℕ_discrete x c) (λ q. sum_below_full c g b (omega (arith, sum_below_le c g b, b c)) x q)
  where
    go : Dec (x ≡ c) → (x < c → g x ≡ 1) → g x ≡ 1
    go (yes q) r = ap g q ∙ omega (arith, sum_below_le c g b, b c)
    go (no q) r = r (omega arith)

off_hits : (x : ℕ) (a b : Section) → Apart a.first (2 ^ a.height.value) b.first (2 ^ b.height.value)
    → holds_block x a ≡ 1 → holds_block x b ≡ 0
off_hits x a b o e = go (position x a.first (2 ^ a.height.value)) o
  where
    go : Position x a.first (2 ^ a.height.value)
        → Apart a.first (2 ^ a.height.value) b.first (2 ^ b.height.value) → holds_block x b ≡ 0
    go (within p q) (inl r) = in_range_below x b.first (2 ^ b.height.value) (omega arith)
    go (within p q) (inr r) = in_range_above x b.first (2 ^ b.height.value) (omega arith)
    go (below p) r = absurd (omega (arith, in_range_below x a.first (2 ^ a.height.value) p))
    go (above p) r = absurd (omega (arith, in_range_above x a.first (2 ^ a.height.value) p))

total_none : (x : ℕ) {l : List Section} → Each (λ s. holds_block x s ≡ 0) l → sum_of (holds_block x) l ≡ 0
total_none x done = refl
total_none x (more {a = a} p e) = omega (arith, total_none x e)

pub disjoint_le : (x : ℕ) {l : List Section} → Disjoint l → sum_of (holds_block x) l ≤ 1
disjoint_le x none = omega arith
disjoint_le x (next {a = a} {l = l} e d) = go (ℕ_discrete (holds_block x a) 1) (disjoint_le x d)
  where
    go : Dec (holds_block x a ≡ 1) → sum_of (holds_block x) l ≤ 1 → holds_block x a + sum_of (holds_block x) l ≤ 1
    go (yes p) h = omega (arith, total_none x (each_imp (λ b o. off_hits x a b o p) e))
    go (no p) h = omega (arith, in_range-le-one x a.first (2 ^ a.height.value))

outside : (c x : ℕ) → c ≤ x → {l : List Section} → Each (OnDisk c) l → sum_of (holds_block x) l ≡ 0
outside c x p done = refl
outside c x p (more {a = a} q e) =
    omega (arith, in_range_above x a.first (2 ^ a.height.value) (omega (arith, q.within)), outside c x p e)

pub disjoint_covers : (c : ℕ) {l : List Section} → Each (OnDisk c) l → Disjoint l → sum_of length_of l ≡ c
    → Covers c l
disjoint_covers c {l} d dis block_count x = go (dec_lt x c)
  where
    go : Dec (x < c) → sum_of (holds_block x) l ≡ in_range x 0 c
    go (yes p) =
        sum_below_full c (λ y. sum_of (holds_block y) l) (λ y. disjoint_le y dis)
        (sum_below_sections c d ∙ block_count) x p
        ∙ sym (in_range_inside x 0 c (omega arith) (omega arith))
    go (no p) = outside c x (omega arith) d ∙ sym (in_range_above x 0 c (omega arith))

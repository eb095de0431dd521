-- One piece for each 1 of n, as long as its place value: such pieces sum to n, are as many as the ones of n, and no
-- two of them are equally long. With lists in literal numbers that are such and that are not. Assumes nothing.
use mathlib.Core.List.{List, [], ◌∷◌}
use mathlib.Core.Path.{◌∙◌, ◌≡◌, ap, refl, sym}
use Prim.Native.Nat.{◌%◌, ◌*◌, ◌+◌, ◌/◌, ◌<◌, ◌^◌, ◌≤◌, suc, zero, ℕ}
use native.Mathlib.Nat.{mod-eq_of_lt, mod-lt}
use native.Mathlib.Omega.{arith}
use lib.Count.{ones}
use lib.ListN.{length}
use lib.Pow.{pow_mono}
use Rattle.layout.proofs.Allocating.{mod-digit}
use Rattle.layout.proofs.Ones.{at_most_one_distinct, at_most_one_ones, distinct-ones}
use Rattle.layout.specs.Layout.{OnePiecePerOne, block_count, digit, of_height}
use Rattle.layout.specs.Lists.{Pairwise, done, more, next, none, sum_of}
use Rattle.section.proofs.Multiples.{length_double}
use Rattle.section.specs.Sections.{length_of, section}
use Rattle.section.specs.declared.Section.{Section}

-- ---- binary digits determine the number

pub below_power : (n : ℕ) → n < 2 ^ n
below_power zero = omega arith
below_power (suc n) = omega (arith, below_power n, length_double n)

same_below : (m n : ℕ) → ((h : ℕ) → digit h m ≡ digit h n) → (k : ℕ) → m % 2 ^ k ≡ n % 2 ^ k
same_below m n e zero = omega arith
same_below m n e (suc k) =
    omega (arith, mod-digit m k, mod-digit n k, ap (λ d. d * 2 ^ k) (e k), same_below m n e k)

same_digits : (m n : ℕ) → ((h : ℕ) → digit h m ≡ digit h n) → m ≡ n
same_digits m n e =
    let top-m : m < 2 ^ (m + n) = omega (arith, below_power m, pow_mono {i = m} {j = m + n} (omega arith)) in
    let top-n : n < 2 ^ (m + n) = omega (arith, below_power n, pow_mono {i = n} {j = m + n} (omega arith)) in
    sym (mod-eq_of_lt top-m) ∙ (same_below m n e (m + n) ∙ mod-eq_of_lt top-n)

-- ---- one piece for each 1

module _ (n : ℕ) (l : List Section) (per : OnePiecePerOne n l) where
  at_most_one : (h : ℕ) → sum_of (of_height h) l ≤ 1
  at_most_one h = omega (arith, per h, mod-lt (n / 2 ^ h) {m = 2} (omega arith))

  -- no two are equally long
  pub per_one_distinct : Pairwise (λ (s t : Section). length_of s ≡ length_of t → ⊥) l
  per_one_distinct = at_most_one_distinct l at_most_one

  -- they sum to n
  pub per_one_sum : block_count l ≡ n
  per_one_sum = same_digits (block_count l) n (λ h. sym (distinct-ones (block_count l) l per_one_distinct refl h) ∙ per h)

  -- they are as many as the ones of n
  pub per_one_count : length l ≡ ones n
  per_one_count = at_most_one_ones l at_most_one ∙ ap ones per_one_sum

-- ---- in literal numbers

-- 32 blocks are one section of height 5, and seven are three
pub per_one_of_cases : OnePiecePerOne 32 (section 0 5 ∷ [])
    × OnePiecePerOne 7 (section 0 2 ∷ section 14 1 ∷ section 13 0 ∷ [])
per_one_of_cases = (
  distinct-ones 32 (section 0 5 ∷ []) (next done none) refl,
  distinct-ones 7 (section 0 2 ∷ section 14 1 ∷ section 13 0 ∷ [])
      (next {a = section 0 2} (more {a = section 14 1} (λ e. omega arith) (more {a = section 13 0} (λ e. omega arith) done))
      (next {a = section 14 1} (more {a = section 13 0} (λ e. omega arith) done) (next done none)))
      refl,
)

-- they are not two of height 4, nor none
pub not_per_one_of_cases : (OnePiecePerOne 32 (section 0 4 ∷ section 16 4 ∷ []) → ⊥) × (OnePiecePerOne 32 [] → ⊥)
unfolding of_height
not_per_one_of_cases = (λ p. omega (arith, p 5), λ p. omega (arith, p 5))

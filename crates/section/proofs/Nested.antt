-- Two sections are nested or apart. Assumes nothing.
use mathlib.Core.Path.{◌≡◌}
use mathlib.Core.Logic.{◌⊎◌, inl, inr, ⊎_elim}
use Prim.Native.Nat.{ℕ, ◌+◌, ◌%◌, ◌^◌, ◌<◌, ◌≤◌}
use native.Mathlib.Omega.{arith}
use lib.Pow.{pow_pos}
use Rattle.section.specs.Nesting.{Placed, after, before, inside}
use Rattle.section.specs.Sections.{Apart, Within}
use Rattle.section.proofs.Multiples.{below_or_not, multiple_gap, multiple_sum, length_multiple}
use Rattle.section.proofs.Multiples.{aligned_lower}

-- a section is inside one that is no lower, or before it, or after it
pub nested_or_apart : (h i a b : ℕ) → h ≤ i → a % 2 ^ h ≡ 0 → b % 2 ^ i ≡ 0 → Placed a (2 ^ h) b (2 ^ i)
nested_or_apart h i a b l ha hb =
    let hb' = aligned_lower h i b l hb in
    let he = multiple_sum (2 ^ h) b (2 ^ i) hb' (length_multiple h i l) in
    elim (below_or_not a b) [
      | inl u ↦ before (multiple_gap (2 ^ h) a b ha hb' u)
      | inr u ↦ elim (below_or_not a (b + 2 ^ i)) [
        | inl v ↦ inside u (multiple_gap (2 ^ h) a (b + 2 ^ i) ha he v)
        | inr v ↦ after v
      ]
    ]

pub apart_sym : (a n b m : ℕ) → Apart a n b m → Apart b m a n
apart_sym a n b m = ⊎_elim inr inl

-- what is within one of two that lie apart lies apart from the other
pub within_apart : (a n b m e k : ℕ) → Within a n b m → Apart b m e k → Apart a n e k
within_apart a n b m e k w = ⊎_elim (λ l. inl (omega arith)) (λ l. inr (omega arith))

-- a and b of height h are inside p of height j. A section x of height i that meets b and not a, and is no higher
-- than b or no lower than p, lies inside b. With j = h + 1 and b the buddy of a, every i is such a height.
pub meets_inside : (h i j a b p x : ℕ) → h ≤ j → (i ≤ h) ⊎ (j ≤ i) → a % 2 ^ h ≡ 0 → b % 2 ^ h ≡ 0 → p % 2 ^ j ≡ 0
    → x % 2 ^ i ≡ 0 → Within a (2 ^ h) p (2 ^ j) → Within b (2 ^ h) p (2 ^ j)
    → x < b + 2 ^ h → b < x + 2 ^ i → Apart x (2 ^ i) a (2 ^ h) → Within x (2 ^ i) b (2 ^ h)
meets_inside h i j a b p x hj height ha hb hp hx wa wb m₁ m₂ apart =
    let na = pow_pos h in
    elim height [
      | inl ih ↦ elim (nested_or_apart i h x b ih hx hb) [
        | before u ↦ absurd (omega arith)
        | inside u v ↦ (u, v)
        | after u ↦ absurd (omega arith)
      ]
      | inr ji ↦ elim (nested_or_apart j i p x ji hp hx) [
        | before u ↦ absurd (omega arith)
        | inside u v ↦ elim apart [ inl w ↦ absurd (omega arith) | inr w ↦ absurd (omega arith) ]
        | after u ↦ absurd (omega arith)
      ]
    ]

-- Pieces of distinct lengths are the ones of the number that they sum to. Assumes nothing.
use mathlib.Core.List.{List, [], ◌∷◌}
use mathlib.Core.Path.{◌∙◌, ◌≡◌, ap, refl, sym}
use Prim.Native.Nat.{◌*◌, ◌+◌, ◌-◌, ◌<◌, ◌^◌, ◌≤◌, suc, ℕ}
use native.Mathlib.Decide.{ℕ_discrete}
use native.Mathlib.Nat.{le_of_lt, le_trans}
use native.Mathlib.Omega.{arith}
use lib.Count.{ones, ones_cat, ones_in}
use lib.ListN.{length}
use borrow.Author.Tests.{leb-false, leb-true}
use Rattle.layout.proofs.Allocating.{falling_thin}
use Rattle.layout.proofs.Breaks.{breaks_most}
use Rattle.layout.proofs.Digits.{counts_are_digits, heights_below}
use Rattle.layout.proofs.Lists.{each_and, each_imp, length_sort, sort_sorted, sum_ge_all, sum_sort}
use Rattle.layout.proofs.Splitting.{at_most_one_small, count_none, of_height_other, of_height_same}
use Rattle.layout.specs.Covering.{AtMostOne, Falling, count_of}
use Rattle.layout.specs.Layout.{OnePiecePerOne, block_count, breaks_of, by_length, digit, of_height}
use Rattle.layout.specs.Lists.{Pairwise, done, next, none, sort_by, sum_of}
use Rattle.section.proofs.Lengths.{length_unique}
use Rattle.section.specs.Sections.{length_of, section}
use Rattle.section.specs.declared.Section.{Section}

ones-zero : ones 0 ≡ 0
unfolding ones ones_in
ones-zero = refl

ones-one : ones 1 ≡ 1
unfolding ones ones_in
ones-one = refl

-- in page order
pub falling-ones : {l : List Section} → Falling l → length l ≡ ones (block_count l)
falling-ones none = sym ones-zero
falling-ones (next {a = s} {l = l} e f) =
    let rest = at_most_one_small 0 s.height.value e (falling_thin f) in
    let cat = ones_cat s.height.value 1 (block_count l) rest in
    let one : 2 ^ s.height.value + block_count l ≡ 1 * 2 ^ s.height.value + block_count l = omega arith in
    omega (arith, falling-ones f, cat, ones-one, ap ones one)

-- a power of two has a single 1
pub ones_power : (h : ℕ) → ones (2 ^ h) ≡ 1
ones_power h = sym (falling-ones (next {a = section 0 h} done none) ∙ ap ones (omega arith))

-- by falling height, and no height twice
sorted-falling : {l : List Section} → Pairwise (λ (s t : Section). t.height.value ≤ s.height.value) l
    → AtMostOne l → Falling l
sorted-falling none thin = none
sorted-falling (next {a = s} {l = l} e p) thin =
    next (each_imp (λ t q. strict t q.0 q.1) (each_and e (sum_ge_all of_height l)))
    (sorted-falling p (λ h. omega (arith, thin h)))
  where
    strict : (t : Section) → t.height.value ≤ s.height.value → ((h : ℕ) → of_height h t ≤ sum_of (of_height h) l)
        → t.height.value < s.height.value
    strict t q share = go (ℕ_discrete t.height.value s.height.value)
      where
        go : Dec (t.height.value ≡ s.height.value) → t.height.value < s.height.value
        go (yes e) = absurd (omega (
          arith,
          thin s.height.value,
          share s.height.value,
          of_height_same s.height.value s refl,
          of_height_same s.height.value t e,
        ))
        go (no n) = omega (arith, n)

by_length-sorted : (l : List Section)
    → Pairwise (λ (s t : Section). t.height.value ≤ s.height.value) (sort_by by_length l)
by_length-sorted =
    sort_sorted by_length (λ s t. t.height.value ≤ s.height.value)
    (λ s t. leb-true t.height.value s.height.value)
    (λ s t e. le_of_lt (leb-false t.height.value s.height.value e)) (λ s t u p q. le_trans q p)

-- in any order
pub at_most_one_ones : (l : List Section) → AtMostOne l → length l ≡ ones (block_count l)
at_most_one_ones l thin =
    sym (length_sort by_length l)
    ∙ (falling-ones
    (sorted-falling (by_length-sorted l) (λ h. omega (arith, thin h, sum_sort (of_height h) by_length l)))
    ∙ ap ones (sum_sort length_of by_length l))

-- no two lengths are equal exactly if no height has two
pub distinct_at_most_one : {l : List Section} → Pairwise (λ (s t : Section). length_of s ≡ length_of t → ⊥) l
    → AtMostOne l
distinct_at_most_one none h = omega arith
distinct_at_most_one (next {a = s} {l = l} e p) h = go (ℕ_discrete s.height.value h) (distinct_at_most_one p h)
  where
    go : Dec (s.height.value ≡ h) → count_of h l ≤ 1 → of_height h s + count_of h l ≤ 1
    go (yes q) r =
        omega (arith, of_height_same h s q, count_none h (each_imp (λ t n z. n (ap (λ i. 2 ^ i) (q ∙ sym z))) e))
    go (no q) r = omega (arith, of_height_other h s q)

pub at_most_one_distinct : (l : List Section) → AtMostOne l
    → Pairwise (λ (s t : Section). length_of s ≡ length_of t → ⊥) l
at_most_one_distinct [] thin = none
at_most_one_distinct (s ∷ l) thin =
    next
    (each_imp (λ t q e. clash t q (length_unique s.height.value t.height.value e)) (sum_ge_all of_height l))
    (at_most_one_distinct l (λ h. omega (arith, thin h)))
  where
    clash : (t : Section) → ((h : ℕ) → of_height h t ≤ sum_of (of_height h) l) → s.height.value ≡ t.height.value
        → ⊥
    clash t share e = omega (
      arith,
      thin s.height.value,
      share s.height.value,
      of_height_same s.height.value s refl,
      of_height_same s.height.value t (sym e),
    )

-- distinct powers of two that sum to n are exactly the ones of n
pub distinct-ones : (n : ℕ) (l : List Section) → Pairwise (λ (s t : Section). length_of s ≡ length_of t → ⊥) l
    → block_count l ≡ n → OnePiecePerOne n l
distinct-ones n l p e h =
    let k : ℕ = suc (sum_of (λ (s : Section). s.height.value) l) in
    counts_are_digits 2 (omega arith) k (heights_below k l (omega arith))
    (λ j. omega (arith, distinct_at_most_one p j)) h
    ∙ ap (digit h) e

-- the breaks of a file are at most the ones of n less one
pub breaks-ones : {l : List Section} → Falling l → breaks_of l ≤ ones (block_count l) - 1
breaks-ones {l} f = omega (arith, breaks_most l, falling-ones f)

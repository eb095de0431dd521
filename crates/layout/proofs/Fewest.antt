-- The fewest pieces among powers of two: the ones of n are the smallest number of pieces into which n blocks can be
-- divided, for every n, and pieces of which there is one for each 1 of n are the fewest. Assumes nothing.
use mathlib.Core.List.{List, [], ◌∷◌, map}
use mathlib.Core.Path.{◌∙◌, ◌≡◌, ap, refl, subst, sym}
use Prim.Native.Nat.{◌+◌, ◌-◌, ◌^◌, ◌≤◌, suc, ℕ}
use native.Mathlib.Decide.{ℕ_discrete}
use native.Mathlib.Omega.{arith}
use lib.Count.{ones, ones-ones, ones_in}
use lib.Dec.{eqb}
use lib.ListN.{length, length-map}
use borrow.Author.Tests.{eq-eqb, ne_eqb}
use Rattle.layout.proofs.Breaks.{indicator_most}
use Rattle.layout.proofs.Divisions.{heights_divide, lengths_divide, thin_fewest}
use Rattle.layout.proofs.FreshPieces.{fresh_pieces}
use Rattle.layout.proofs.Lists.{each_imp, pairwise_map}
use Rattle.layout.proofs.Ones.{ones_power}
use Rattle.layout.proofs.PerOne.{below_power, per_one_count, per_one_distinct, per_one_sum}
use Rattle.layout.specs.Divisions.{Divides, Fewest, SmallestNumber, lengths_of}
use Rattle.layout.specs.Layout.{OnePiecePerOne, block_count, fresh_layout}
use Rattle.layout.specs.Lists.{Each, Pairwise, done, indicator, more, next, none, sum_of, times_in}
use Rattle.section.specs.Sections.{length_of}
use Rattle.section.specs.declared.Section.{Section}

-- ---- numbers that differ stand once each

absent_none : (x : ℕ) {l : List ℕ} → Each (λ y. y ≡ x → ⊥) l → times_in x l ≡ 0
absent_none x done = refl
absent_none x (more {a = y} n e) = omega (arith, ap indicator (ne_eqb y x n), absent_none x e)

distinct_once : (x : ℕ) {l : List ℕ} → Pairwise (λ y z. y ≡ z → ⊥) l → times_in x l ≤ 1
distinct_once x none = omega arith
distinct_once x (next {a = y} {l = l} e p) = go (ℕ_discrete y x) (distinct_once x p)
  where
    go : Dec (y ≡ x) → times_in x l ≤ 1 → indicator (eqb y x) + times_in x l ≤ 1
    go (yes q) r =
        omega (arith, ap indicator (eq-eqb y x q), absent_none x (each_imp (λ z n s. n (q ∙ sym s)) e))
    go (no q) r = omega (arith, ap indicator (ne_eqb y x q))

-- ---- one piece for each 1

-- pieces of n blocks divide them
pieces_divide : (n : ℕ) (l : List Section) → block_count l ≡ n → Divides 2 n (lengths_of l)
pieces_divide n l = lengths_divide 2 n length_of l (λ s. (s.height.value, refl))

-- of all divisions of n blocks none has fewer pieces than there are, if there is one for each 1 of n
pub per_one_fewest : (n : ℕ) (l : List Section) → OnePiecePerOne n l → Fewest 2 n (lengths_of l)
per_one_fewest n l per =
    thin_fewest 2 (pieces_divide n l (per_one_sum n l per))
    (λ x. omega (arith, distinct_once x (pairwise_map length_of (per_one_distinct n l per))))

-- ---- the ones of n

-- the free pieces of a fresh disk of n blocks are a division of n into as many pieces as n has ones
ones_division : (n : ℕ)
    → Fewest 2 n (lengths_of (fresh_layout n n).free) × (length (lengths_of (fresh_layout n n).free) ≡ ones n)
ones_division n =
    let per = (fresh_pieces n n (below_power n)).ones in
    let l : List Section = (fresh_layout n n).free in
    (per_one_fewest n l per, length-map l length_of ∙ per_one_count n l per)

-- no list of powers of two that sums to n has fewer members than n has ones
pub ones_fewest : (n : ℕ) (others : List ℕ) → Divides 2 n others → ones n ≤ length others
ones_fewest n others d = let p = ones_division n in omega (arith, p.1, p.0.none_fewer others d)

-- the quoted number is the smallest there is
pub smallest_number : (n : ℕ) → SmallestNumber 2 n (ones n)
smallest_number n = let p = ones_division n in record {
  lengths = lengths_of (fresh_layout n n).free;
  fewest = p.0;
  number = p.1;
}

-- k breaks, within the limit of n blocks, are k + 1 reads: at most as many as any division has pieces
pub reads_fewest : (n k : ℕ) (others : List ℕ) → 1 ≤ n → k ≤ ones n - 1 → Divides 2 n others → suc k ≤ length others
reads_fewest n k [] some most d = absurd (omega (arith, d.sum))
reads_fewest n k (x ∷ others) some most d = omega (arith, ones_fewest n (x ∷ others) d)

-- the same with each power of two given by its height
pub reads_no_more : (n k : ℕ) → 1 ≤ n → k ≤ ones n - 1 → (hs : List ℕ) → sum_of (λ h. 2 ^ h) hs ≡ n → suc k ≤ length hs
reads_no_more n k some most hs e = omega (
  arith,
  length-map hs (λ h. 2 ^ h),
  reads_fewest n k (map (λ h. 2 ^ h) hs) some most (heights_divide 2 n hs e),
)

-- ---- in literal numbers

pub smallest_numbers :
    SmallestNumber 2 0 0 × SmallestNumber 2 1 1 × SmallestNumber 2 2 1 × SmallestNumber 2 3 2 × SmallestNumber 2 7 3
    × SmallestNumber 2 10 2 × SmallestNumber 2 261 3
unfolding ones ones_in
smallest_numbers = (
  smallest_number 0,
  smallest_number 1,
  smallest_number 2,
  smallest_number 3,
  smallest_number 7,
  smallest_number 10,
  smallest_number 261,
)

-- 7 blocks are not two pieces
pub not-two-of-seven : SmallestNumber 2 7 2 → ⊥
unfolding ones ones_in
not-two-of-seven s = omega (arith, s.number, ones_fewest 7 s.lengths s.fewest.divides)

-- at the greatest disks of both versions, and a block below
pub greatest_smallest_numbers :
    SmallestNumber 2 4095 12 × SmallestNumber 2 4096 1 × SmallestNumber 2 1048575 20 × SmallestNumber 2 1048576 1
greatest_smallest_numbers = (
  subst (SmallestNumber 2 4095) (ones-ones 12) (smallest_number 4095),
  subst (SmallestNumber 2 4096) (ones_power 12) (smallest_number 4096),
  subst (SmallestNumber 2 1048575) (ones-ones 20) (smallest_number 1048575),
  subst (SmallestNumber 2 1048576) (ones_power 20) (smallest_number 1048576),
)

-- with powers of four 24 blocks are 16, 4 and 4
pub fewest_by_four : Fewest 4 24 (16 ∷ 4 ∷ 4 ∷ [])
fewest_by_four =
    thin_fewest 4 (record { powers = more (2, refl) (more (1, refl) (more (1, refl) done)); sum = refl })
    (λ x. omega (arith, indicator_most (eqb 16 x), indicator_most (eqb 4 x)))

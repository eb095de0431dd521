-- What exclusive or, masks and a shift do to block numbers, in sums of powers of two. Assumes nothing.
use mathlib.Core.Path.{◌≡◌, subst, sym, ap, ap₂, ◌∙◌}
use mathlib.Core.Bool.{◌&&◌, false}
use mathlib.Core.Logic.{inl, inr}
use Prim.Native.Nat.{ℕ, ◌+◌, ◌-◌, ◌*◌, ◌/◌, ◌%◌, ◌^◌, ◌<◌, ◌≤◌}
use native.Mathlib.Nat.{add-mul, add-zero, mod-eq_of_lt, mod-lt, one-mul, zero-lt-suc}
use native.Mathlib.Omega.{arith}
use lib.Bits.{and_high, and_le_l, and_le_r, and_mask, bit_and, bit_or, bit_xor, differ, or_add_and, or_comm}
use lib.Bits.{xor_add_and, xor_block, xor_comm, xor_lt, xor_self, xor_shr, xor_step, xor_zero_r}
use lib.Dec.{eqb, leb, ltb}
use lib.Pow.{high, le_ones, pow_mono, pow_pos, pow-lt, shr_lt, split}
use borrow.Author.Tests.{eq-eqb, le-leb, le-ltb, lt-leb, lt-ltb, ne_eqb}
use Rattle.section.specs.Nesting.{Placed, after, before, inside}
use Rattle.section.specs.Sections.{buddy_first}
use Rattle.section.proofs.Booleans.{and-swap, false_and}
use Rattle.section.proofs.Multiples.{below_or_not, multiple_whole}
use Rattle.section.proofs.Nested.{nested_or_apart}

-- the lowest bit flipped
xor_one_even : (q : ℕ) → q % 2 ≡ 0 → bit_xor q 1 ≡ q + 1
xor_one_even q e =
    xor_step q 1 ∙ ap₂ (λ (x y : ℕ). x * 2 + differ y 1) (xor_zero_r (q / 2)) e ∙ omega arith

xor_one_odd : (q : ℕ) → q % 2 ≡ 1 → bit_xor q 1 + 1 ≡ q
xor_one_odd q e =
    ap (λ (x : ℕ). x + 1) (xor_step q 1 ∙ ap₂ (λ (x y : ℕ). x * 2 + differ y 1) (xor_zero_r (q / 2)) e)
    ∙ omega arith

-- the bit of a length flipped: the bits below stay
xor_length_parts : (h a : ℕ) → bit_xor a (2 ^ h) ≡ bit_xor (a / 2 ^ h) 1 * 2 ^ h + a % 2 ^ h
xor_length_parts h a =
    ap₂ bit_xor (sym (split a h)) (sym (add-zero (1 * 2 ^ h) ∙ one-mul (2 ^ h)))
    ∙ xor_block h (a / 2 ^ h) 1 (a % 2 ^ h) 0 (mod-lt a (pow_pos h)) (pow_pos h)
    ∙ ap (λ (x : ℕ). bit_xor (a / 2 ^ h) 1 * 2 ^ h + x) (xor_zero_r (a % 2 ^ h))

pub xor_length : (h a : ℕ) → bit_xor a (2 ^ h) ≡ buddy_first h a
unfolding buddy_first
xor_length h a =
    let e = xor_length_parts h a in
    let s = split a h in
    let q = a / 2 ^ h in
    elim (below_or_not (q % 2) 1) [
      | inl u ↦ (let z : q % 2 ≡ 0 = omega arith in
          simp
          (eq-eqb (q % 2) 0 z)
          (omega (arith, ap (λ (x : ℕ). x * 2 ^ h) (xor_one_even q z), add-mul q 1 (2 ^ h), one-mul (2 ^ h))))
      | inr u ↦ (let z : q % 2 ≡ 1 = omega (arith, mod-lt q (zero-lt-suc 1)) in
          simp
          (ne_eqb (q % 2) 0 (λ w. omega arith))
          (omega (
            arith,
            ap (λ (x : ℕ). x * 2 ^ h) (xor_one_odd q z),
            add-mul (bit_xor q 1) 1 (2 ^ h),
            one-mul (2 ^ h),
          )))
    ]

-- one shifted left within 32 bits
pub one_shifted : (h : ℕ) → h < 32 → 1 * 2 ^ h % 2 ^ 32 ≡ 2 ^ h
one_shifted h l = ap (λ (x : ℕ). x % 2 ^ 32) (one-mul (2 ^ h)) ∙ mod-eq_of_lt (pow-lt l)

-- ---- two block numbers that differ only below the bit of a length

xor_none : (x y : ℕ) → bit_xor x y ≡ 0 → x ≡ y
xor_none x y e = omega (arith, xor_add_and x y, and_le_l x y, and_le_r x y)

xor_low : (k a b : ℕ) → a / 2 ^ k ≡ b / 2 ^ k → bit_xor a b < 2 ^ k
xor_low k a b e =
    let q : bit_xor a b / 2 ^ k ≡ 0 =
    xor_shr a b k ∙ (ap (λ (x : ℕ). bit_xor x (b / 2 ^ k)) e ∙ xor_self (b / 2 ^ k)) in
    omega (arith, split (bit_xor a b) k, ap (λ (x : ℕ). x * 2 ^ k) q, mod-lt (bit_xor a b) (pow_pos k))

low_xor : (k a b : ℕ) → bit_xor a b < 2 ^ k → a / 2 ^ k ≡ b / 2 ^ k
low_xor k a b l =
    let e : k ≡ 0 + k = omega arith in
    let q : bit_xor a b / 2 ^ k ≡ 0 =
    omega (arith, shr_lt {n = bit_xor a b} 0 k (subst (λ (z : ℕ). bit_xor a b < 2 ^ z) e l)) in
    xor_none (a / 2 ^ k) (b / 2 ^ k) (sym (xor_shr a b k) ∙ q)

quotient_within : (k a b : ℕ) → b % 2 ^ k ≡ 0 → b ≤ a → a < b + 2 ^ k → a / 2 ^ k ≡ b / 2 ^ k
quotient_within k a b m l u =
    let whole = multiple_whole (2 ^ k) b m in
    let e : a ≡ b / 2 ^ k * 2 ^ k + (a - b) = omega (arith, whole) in
    ap (λ (x : ℕ). x / 2 ^ k) e ∙ high (b / 2 ^ k) k {lo = a - b} (omega arith)

within_quotient : (k a b : ℕ) → b % 2 ^ k ≡ 0 → a / 2 ^ k ≡ b / 2 ^ k → (b ≤ a) × (a < b + 2 ^ k)
within_quotient k a b m e =
    let whole = multiple_whole (2 ^ k) b m in
    let same = ap (λ (x : ℕ). x * 2 ^ k) e in (
      omega (arith, split a k),
      omega (arith, split a k, mod-lt a (pow_pos k)),
    )

-- the mask of the longer one has that of the shorter
mask-or : (g h : ℕ) → g ≤ h → bit_or (2 ^ g - 1) (2 ^ h - 1) ≡ 2 ^ h - 1
mask-or g h l =
    let less : 2 ^ g - 1 < 2 ^ h = omega (arith, pow_mono l, pow_pos g) in
    let both = and_mask (2 ^ g - 1) h ∙ mod-eq_of_lt less in
    omega (arith, or_add_and (2 ^ g - 1) (2 ^ h - 1))

shared_by_longer : (g h a b : ℕ) → g ≤ h → a % 2 ^ g ≡ 0 → b % 2 ^ h ≡ 0
    → leb (bit_xor a b) (2 ^ h - 1) ≡ (ltb a (b + 2 ^ h) && ltb b (a + 2 ^ g))
shared_by_longer g h a b l ha hb = go (nested_or_apart g h a b l ha hb)
  where
    far : ((b ≤ a) × (a < b + 2 ^ h) → ⊥) → leb (bit_xor a b) (2 ^ h - 1) ≡ false
    far out = elim (below_or_not (bit_xor a b) (2 ^ h)) [
      | inl x ↦ absurd (out (within_quotient h a b hb (low_xor h a b x)))
      | inr x ↦ lt-leb (bit_xor a b) (2 ^ h - 1) (omega (arith, pow_pos h))
    ]

    go : Placed a (2 ^ g) b (2 ^ h) → leb (bit_xor a b) (2 ^ h - 1) ≡ (ltb a (b + 2 ^ h) && ltb b (a + 2 ^ g))
    go (before u) =
        far (λ x. omega (arith, x.0, pow_pos g)) ∙ sym (false_and (ltb a (b + 2 ^ h)) (le-ltb b (a + 2 ^ g) u))
    go (inside u v) =
        le-leb (bit_xor a b) (2 ^ h - 1)
        (le_ones h (xor_low h a b (quotient_within h a b hb u (omega (arith, pow_pos g)))))
        ∙ sym (ap₂ (λ x y. x && y) (lt-ltb a (b + 2 ^ h) (omega (arith, pow_pos g)))
        (lt-ltb b (a + 2 ^ g) (omega (arith, pow_pos g))))
    go (after u) =
        far (λ x. omega (arith, x.1)) ∙ sym (ap (λ x. x && ltb b (a + 2 ^ g)) (le-ltb a (b + 2 ^ h) u))

-- a number of w bits has none from the bit k on where it is no greater than the mask of that bit
none_above : (w k x : ℕ) → k ≤ w → x < 2 ^ w → eqb (bit_and x (2 ^ w - 1 - (2 ^ k - 1))) 0 ≡ leb x (2 ^ k - 1)
none_above w k x l u =
    let e : w ≡ w - k + k = omega arith in
    let mask : 2 ^ w - 1 - (2 ^ k - 1) ≡ 2 ^ (w - k + k) - 2 ^ k =
    omega (arith, ap (λ (z : ℕ). 2 ^ z) e, pow_pos k, pow_mono l) in
    let above : bit_and x (2 ^ w - 1 - (2 ^ k - 1)) ≡ x / 2 ^ k * 2 ^ k =
    ap (bit_and x) mask
    ∙ (and_high x (w - k) k
    ∙ ap (λ (z : ℕ). z * 2 ^ k) (mod-eq_of_lt (shr_lt {n = x} (w - k) k (subst (λ (z : ℕ). x < 2 ^ z) e u)))) in
    elim (below_or_not x (2 ^ k)) [
      | inl s ↦ eq-eqb (bit_and x (2 ^ w - 1 - (2 ^ k - 1))) 0 (above ∙ omega (arith, split x k, mod-eq_of_lt s))
          ∙ sym (le-leb x (2 ^ k - 1) (le_ones k s))
      | inr s ↦ ne_eqb (bit_and x (2 ^ w - 1 - (2 ^ k - 1))) 0
          (λ z. omega (arith, above, split x k, mod-lt x (pow_pos k)))
          ∙ sym (lt-leb x (2 ^ k - 1) (omega (arith, pow_pos k)))
    ]

-- two aligned sections share a block where their first blocks, of w bits, are the same from the longer one's bit on
pub shared_by_masks : (w g h a b : ℕ) → g ≤ w → h ≤ w → a < 2 ^ w → b < 2 ^ w → a % 2 ^ g ≡ 0 → b % 2 ^ h ≡ 0
    → eqb (bit_and (bit_xor a b) (2 ^ w - 1 - bit_or (2 ^ g - 1) (2 ^ h - 1))) 0
    ≡ (ltb a (b + 2 ^ h) && ltb b (a + 2 ^ g))
shared_by_masks w g h a b lg lh la lb ha hb =
    elim (below_or_not g h) [
      | inl x ↦ above h (mask-or g h (omega arith)) lh ∙ shared_by_longer g h a b (omega arith) ha hb
      | inr x ↦ above g (or_comm (2 ^ g - 1) (2 ^ h - 1) ∙ mask-or h g x) lg
          ∙ (ap (λ (z : ℕ). leb z (2 ^ g - 1)) (xor_comm a b)
          ∙ (shared_by_longer h g b a x hb ha ∙ and-swap (ltb b (a + 2 ^ g)) (ltb a (b + 2 ^ h))))
    ]
  where
    above : (k : ℕ) → bit_or (2 ^ g - 1) (2 ^ h - 1) ≡ 2 ^ k - 1 → k ≤ w
        → eqb (bit_and (bit_xor a b) (2 ^ w - 1 - bit_or (2 ^ g - 1) (2 ^ h - 1))) 0 ≡ leb (bit_xor a b) (2 ^ k - 1)
    above k e l =
        ap (λ (z : ℕ). eqb (bit_and (bit_xor a b) (2 ^ w - 1 - z)) 0) e
        ∙ none_above w k (bit_xor a b) l (xor_lt w a b la lb)

-- Lengths and heights determine each other, and what is no power up to the greatest is no length. Assumes nothing.
use mathlib.Core.Path.{◌≡◌, refl, sym, ap, ◌∙◌}
use mathlib.Core.Logic.{inl, inr}
use Prim.Native.Nat.{ℕ, zero, suc, ◌^◌, ◌<◌, ◌≤◌}
use native.Mathlib.Decide.{ℕ_discrete}
use native.Mathlib.Omega.{arith}
use lib.Pow.{pow-lt, pow_mono}
use borrow.Author.Tests.{eq-eqb, ne_eqb}
use Rattle.section.specs.Limits.{greatest_height, greatest_disk}
use Rattle.section.specs.Heights.{height_of, height_up_to}
use Rattle.section.proofs.Multiples.{below_or_not}
use Rattle.section.specs.declared.Height.{Height}
use Rattle.std.specs.Prelude.{Some, None}

-- the greatest length is the whole of the greatest disk
pub length-greatest : 2 ^ greatest_height ≡ greatest_disk
length-greatest = refl

-- a length has one height
pub length_unique : (h i : ℕ) → 2 ^ h ≡ 2 ^ i → h ≡ i
length_unique h i e =
    elim (below_or_not h i) [
      | inl l ↦ absurd (omega (arith, pow-lt l))
      | inr l ↦ elim (below_or_not i h) [ inl m ↦ absurd (omega (arith, pow-lt m)) | inr m ↦ omega arith ]
    ]

-- the shorter one has the lower height
pub pow_lt_inv : (h i : ℕ) → 2 ^ h < 2 ^ i → h < i
pow_lt_inv h i p =
    elim (below_or_not h i) [ inl l ↦ l | inr l ↦ absurd (omega (arith, pow_mono {i = i} {j = h} l)) ]

-- each power up to 2 ^ m is found
pub height_up_to_lem : (m h : ℕ) → h ≤ m → height_up_to m (2 ^ h) ≡ Some (record { value = h })
height_up_to_lem zero h l =
    let e : h ≡ 0 = omega arith in
    rw e refl
height_up_to_lem (suc m) h l =
    elim (ℕ_discrete h (suc m)) [
      | yes e ↦ rw e (simp (eq-eqb (2 ^ suc m) (2 ^ suc m) refl))
      | no n ↦ simp
          (ne_eqb (2 ^ h) (2 ^ suc m) (λ e. omega (arith, pow-lt {i = h} {j = suc m} (omega arith))))
          (height_up_to_lem m h (omega arith))
    ]

-- each length has its height
pub height-of-length : (h : ℕ) → h ≤ greatest_height → height_of (2 ^ h) ≡ Some (record { value = h })
unfolding height_of
height-of-length h l = height_up_to_lem greatest_height h l

-- and nothing else is
pub length_up_to : (m n : ℕ) (h : Height) → height_up_to m n ≡ Some h
    → (h.value ≤ m) × (n ≡ 2 ^ h.value)
length_up_to zero n h e =
    elim (ℕ_discrete n 1) [
      | yes p ↦ (let q : h ≡ record { value = 0 } = cc (simp (eq-eqb n 1 p) at e) in
          let v : h.value ≡ 0 = ap (λ (x : Height). x.value) q in
          (omega arith, p ∙ sym (ap (λ (x : ℕ). 2 ^ x) v)))
      | no p ↦ (let z : ◌≡◌ {A = ℕ} 0 1 = cc (simp (ne_eqb n 1 p) at e) in absurd (omega arith))
    ]
length_up_to (suc m) n h e =
    elim (ℕ_discrete n (2 ^ suc m)) [
      | yes p ↦ (let q : h ≡ record { value = suc m } = cc (simp (eq-eqb n (2 ^ suc m) p) at e) in
          let v : h.value ≡ suc m = ap (λ (x : Height). x.value) q in
          (omega arith, p ∙ sym (ap (λ (x : ℕ). 2 ^ x) v)))
      | no p ↦ (let w = length_up_to m n h (simp (ne_eqb n (2 ^ suc m) p) at e) in (omega arith, w.1))
    ]

-- what has a height is that height's length, and no height is above the greatest
pub length-of-height : (n : ℕ) (h : Height) → height_of n ≡ Some h
    → (h.value ≤ greatest_height) × (n ≡ 2 ^ h.value)
unfolding height_of
length-of-height n h e = length_up_to greatest_height n h e

-- ---- what is no length

-- what is no length is none of the powers
pub no_length_no_power : (n h : ℕ) → height_of n ≡ None → h ≤ greatest_height → n ≡ 2 ^ h → ⊥
no_length_no_power n h e l p =
    let z : ◌≡◌ {A = ℕ} 0 1 = cc (e, height-of-length h l, ap height_of p) in
    omega arith

-- n is none of the lengths up to 2 ^ m: what a `match` on them knows in its last arm
abbrev pub NoneUpTo : ℕ → ℕ → Type 0
NoneUpTo zero n = Unit {0} × (n ≡ 1 → ⊥)
NoneUpTo (suc m) n = NoneUpTo m n × (n ≡ 2 ^ suc m → ⊥)

none_up_to : (m n : ℕ) → NoneUpTo m n → height_up_to m n ≡ None
none_up_to zero n r = simp (ne_eqb n 1 r.1)
none_up_to (suc m) n r = simp (ne_eqb n (2 ^ suc m) r.1) (none_up_to m n r.0)

pub no_length_of_match : (n : ℕ) → NoneUpTo greatest_height n → height_of n ≡ None
unfolding height_of
no_length_of_match n r = none_up_to greatest_height n r

no_power_none : (m n : ℕ) → ((h : ℕ) → h ≤ m → n ≡ 2 ^ h → ⊥) → NoneUpTo m n
no_power_none zero n p = (tt, p 0 (omega arith))
no_power_none (suc m) n p = (no_power_none m n (λ h l. p h (omega arith)), p (suc m) (omega arith))

-- and what is none of the powers is no length
pub no_length_of_no_power : (n : ℕ) → ((h : ℕ) → h ≤ greatest_height → n ≡ 2 ^ h → ⊥)
    → height_of n ≡ None
no_length_of_no_power n p = no_length_of_match n (no_power_none greatest_height n p)

-- more than the greatest disk is no length
pub no_length_above : (n : ℕ) → greatest_disk < n → height_of n ≡ None
no_length_above n l =
    no_length_of_no_power n (λ h m e. omega (arith, pow_mono {i = h} {j = greatest_height} m, length-greatest))

-- Multiples of a length, and powers of two as lengths. Assumes nothing.
use mathlib.Core.Path.{◌≡◌, sym, ap, ◌∙◌}
use mathlib.Core.Logic.{◌⊎◌, inl, inr}
use Prim.Native.Nat.{ℕ, suc, ◌+◌, ◌-◌, ◌*◌, ◌/◌, ◌%◌, ◌^◌, ◌<◌, ◌≤◌}
use native.Mathlib.Decide.{dec_lt}
use native.Mathlib.Nat.{
  div-add-mod',
  dvd-add,
  dvd_of_mod-eq-zero,
  dvd-sub,
  lt_of_mul-lt-mul_right,
  mod-eq-zero_of_dvd,
  mod-mod_of_dvd,
  mul-le-mul_right,
  mul-mod_left,
  suc-mul,
  two-pow-succ,
  zero-mod,
}
use native.Mathlib.Omega.{arith}
use lib.Pow.{pow-add}

pub below_or_not : (a b : ℕ) → (a < b) ⊎ (b ≤ a)
below_or_not a b = elim (dec_lt a b) [ yes h ↦ inl h | no n ↦ inr (omega arith) ]

-- ---- multiples of any n

pub multiple_whole : (n a : ℕ) → a % n ≡ 0 → a / n * n ≡ a
multiple_whole n a h = omega (arith, div-add-mod' a n)

-- of two multiples the upper one starts no lower than n past the lower one
pub multiple_gap : (n a b : ℕ) → a % n ≡ 0 → b % n ≡ 0 → a < b → a + n ≤ b
multiple_gap n a b ha hb l =
    let p = multiple_whole n a ha in
    let q = multiple_whole n b hb in
    let r : a / n * n < b / n * n = omega arith in
    let s : suc (a / n) * n ≤ b / n * n = mul-le-mul_right n (lt_of_mul-lt-mul_right n r) in
    omega (arith, suc-mul (a / n) n)

pub multiple_sum : (n a b : ℕ) → a % n ≡ 0 → b % n ≡ 0 → (a + b) % n ≡ 0
multiple_sum n a b ha hb =
    mod-eq-zero_of_dvd n (dvd-add n (dvd_of_mod-eq-zero n ha) (dvd_of_mod-eq-zero n hb))

pub multiple_difference : (n a b : ℕ) → a % n ≡ 0 → b % n ≡ 0 → (a - b) % n ≡ 0
multiple_difference n a b ha hb =
    mod-eq-zero_of_dvd n (dvd-sub n (dvd_of_mod-eq-zero n ha) (dvd_of_mod-eq-zero n hb))

-- ---- powers of two

pub length_double : (h : ℕ) → 2 ^ suc h ≡ 2 * 2 ^ h
length_double h = omega (arith, two-pow-succ h)

-- a length is a multiple of every smaller one
pub length_multiple : (h i : ℕ) → h ≤ i → 2 ^ i % 2 ^ h ≡ 0
length_multiple h i l =
    ap (λ (x : ℕ). 2 ^ x % 2 ^ h) (omega arith)
    ∙ ap (λ (x : ℕ). x % 2 ^ h) (pow-add 2 (i - h) h)
    ∙ mul-mod_left (2 ^ (i - h)) (2 ^ h)

-- what is aligned for a height is aligned for every lower one
pub aligned_lower : (h i a : ℕ) → h ≤ i → a % 2 ^ i ≡ 0 → a % 2 ^ h ≡ 0
aligned_lower h i a l e =
    sym (mod-mod_of_dvd (2 ^ h) a (dvd_of_mod-eq-zero (2 ^ h) (length_multiple h i l)))
    ∙ ap (λ (x : ℕ). x % 2 ^ h) e
    ∙ zero-mod (2 ^ h)

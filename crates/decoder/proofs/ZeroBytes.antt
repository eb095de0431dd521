-- Zero bytes, gathered one after another by bitwise or. Assumes nothing.
use mathlib.Core.Bool.{Bool, ◌&&◌, false, true}
use mathlib.Core.List.{List, [], ◌∷◌}
use mathlib.Core.Path.{◌∙◌, ◌≡◌, ap, refl, sym}
use Prim.Native.Nat.{suc, zero, ℕ}
use native.Mathlib.Omega.{arith}
use lib.Bits.{and_le_l, and_le_r, bit_or, or_add_and}
use lib.Dec.{eqb}
use borrow.Author.Tests.{ne_eqb}
use Rattle.std.specs.List.{fold}
use Rattle.catalogue.specs.Reading.{every}
use Rattle.decoder.specs.Loading.{all_zero}

-- the bits of two numbers together are none where each has none
or-zero : (a b : ℕ) → eqb (bit_or a b) 0 ≡ (eqb a 0 && eqb b 0)
or-zero zero b =
    let e : bit_or 0 b ≡ b = omega (arith, or_add_and 0 b, and_le_l 0 b) in
    ap (λ x. eqb x 0) e
or-zero (suc a) b =
    ne_eqb (bit_or (suc a) b) 0 (λ e. omega (arith, or_add_and (suc a) b, and_le_r (suc a) b))
    ∙ sym (ap (λ z. z && eqb b 0) (ne_eqb (suc a) 0 (λ e. omega arith)))

-- bytes gathered in a number
gathered-zero : (a : ℕ) (l : List ℕ) → eqb (fold bit_or a l) 0 ≡ (eqb a 0 && all_zero l)
unfolding every
gathered-zero a [] = by (eqb a 0)
  where
    by : (z : Bool) → z ≡ (z && true)
    by true = refl
    by false = refl
gathered-zero a (b ∷ l) = gathered-zero (bit_or a b) l ∙ (ap (λ z. z && all_zero l) (or-zero a b) ∙ by (eqb a 0))
  where
    by : (z : Bool) → ((z && eqb b 0) && all_zero l) ≡ (z && all_zero (b ∷ l))
    by true = refl
    by false = refl

-- the bytes have no bit together where each is zero
pub none_gathered : (l : List ℕ) → eqb (fold bit_or 0 l) 0 ≡ all_zero l
none_gathered l = gathered-zero 0 l

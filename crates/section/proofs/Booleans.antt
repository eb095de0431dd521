-- Conjunctions of tests. Assumes nothing.
use mathlib.Core.Path.{◌≡◌, refl}
use mathlib.Core.Bool.{Bool, true, false, ◌&&◌}
use mathlib.Core.Logic.{◌⊎◌, inl, inr}

-- both are true
pub and_true : (a b : Bool) → a && b ≡ true → (a ≡ true) × (b ≡ true)
and_true true true e = (refl, refl)
and_true true false e = (refl, e)
and_true false true e = (e, refl)
and_true false false e = (e, e)

-- one of the two is false
pub and_false : (a b : Bool) → a && b ≡ false → (a ≡ false) ⊎ (b ≡ false)
and_false true true e = inl e
and_false true false e = inr refl
and_false false true e = inl refl
and_false false false e = inl refl

pub false_and : (a : Bool) {b : Bool} → b ≡ false → a && b ≡ false
false_and true e = e
false_and false e = refl

pub and_true_right : (a : Bool) {b : Bool} → b ≡ true → a && b ≡ a
and_true_right true e = e
and_true_right false e = refl

pub and-swap : (a b : Bool) → a && b ≡ b && a
and-swap true true = refl
and-swap true false = refl
and-swap false true = refl
and-swap false false = refl

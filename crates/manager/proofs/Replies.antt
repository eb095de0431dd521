-- Replies are told apart by their kind and their number. Assumes nothing.
use mathlib.Core.Path.{◌≡◌}
use Prim.Native.Nat.{ℕ}
use native.Mathlib.Omega.{arith}
use Rattle.manager.specs.Conditions.{answered, refused}

pub refused_answered : (n k : ℕ) → refused n ≡ answered k → ⊥
refused_answered n k e = let z : ◌≡◌ {A = ℕ} 0 1 = cc in omega arith

pub answered_same : (n k : ℕ) → answered n ≡ answered k → n ≡ k
answered_same n k e = cc

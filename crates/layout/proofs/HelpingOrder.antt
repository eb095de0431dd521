-- The order of the candidates, fewest copied blocks first and equal counts by lower id: what its test says.
-- Assumes nothing.
use mathlib.Core.Bool.{Bool, ◌&&◌, ◌||◌, false, true}
use mathlib.Core.Path.{◌≡◌, refl, sym}
use Prim.Native.Nat.{◌≤◌, ℕ}
use native.Mathlib.Omega.{arith}
use lib.Dec.{eqb, leb, ltb}
use borrow.Author.Tests.{eqb-false, eqb-true, leb-false, leb-true, ltb-false, ltb-true}
use Rattle.layout.specs.Helping.{Candidate, by_copies}

-- not more copies, and of equally many not a higher id
pub record NotAfter (a b : Candidate) : Type 0 where
  pub fewer : a.copies ≤ b.copies
  pub equal : a.copies ≡ b.copies → a.id ≤ b.id

pub order_holds : (a b : Candidate) → by_copies a b ≡ true → NotAfter a b
order_holds a b = go (ltb a.copies b.copies) (eqb a.copies b.copies) (leb a.id b.id) refl refl refl
  where
    go : (t u v : Bool) → ltb a.copies b.copies ≡ t → eqb a.copies b.copies ≡ u → leb a.id b.id ≡ v
        → t || (u && v) ≡ true → NotAfter a b
    go true u v p q r e =
        let x = ltb-true a.copies b.copies p in
        record { fewer = omega arith; equal = λ s. omega arith }
    go false true true p q r e =
        let x = eqb-true a.copies b.copies q in
        let y = leb-true a.id b.id r in
        record { fewer = omega arith; equal = λ s. y }
    go false true false p q r e = absurd (let z : ◌≡◌ {A = ℕ} 0 1 = cc in omega arith)
    go false false v p q r e = absurd (let z : ◌≡◌ {A = ℕ} 0 1 = cc in omega arith)

pub order_fails : (a b : Candidate) → by_copies a b ≡ false → NotAfter b a
order_fails a b = go (ltb a.copies b.copies) (eqb a.copies b.copies) (leb a.id b.id) refl refl refl
  where
    go : (t u v : Bool) → ltb a.copies b.copies ≡ t → eqb a.copies b.copies ≡ u → leb a.id b.id ≡ v
        → t || (u && v) ≡ false → NotAfter b a
    go true u v p q r e = absurd (let z : ◌≡◌ {A = ℕ} 0 1 = cc in omega arith)
    go false true true p q r e = absurd (let z : ◌≡◌ {A = ℕ} 0 1 = cc in omega arith)
    go false true false p q r e =
        let x = ltb-false a.copies b.copies p in
        let y = leb-false a.id b.id r in
        record { fewer = x; equal = λ s. omega arith }
    go false false v p q r e =
        let x = ltb-false a.copies b.copies p in
        let y = eqb-false a.copies b.copies q in
        record { fewer = x; equal = λ s. absurd (y (sym s)) }

pub order_trans : (a b c : Candidate) → NotAfter a b → NotAfter b c → NotAfter a c
order_trans a b c x y = record {
  fewer = omega arith;
  equal = λ s. let p = x.equal (omega arith) in let q = y.equal (omega arith) in omega arith;
}

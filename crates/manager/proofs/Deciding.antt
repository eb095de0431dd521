-- Tests that tell whether a statement holds, built from smaller ones. Assumes nothing.
use mathlib.Core.Bool.{Bool, ◌||◌, false, not, true}
use mathlib.Core.Logic.{◌⊎◌, inl, inr}
use mathlib.Core.Path.{◌≡◌, ap, refl}
use Prim.Native.Nat.{◌<◌, ◌≤◌, ℕ}
use native.Mathlib.Decide.{ℕ_discrete}
use native.Mathlib.Omega.{arith}
use lib.Dec.{eqb, leb, ltb}
use borrow.Author.Tests.{eqb-false, eqb-true, leb-false, leb-true, ltb-false, ltb-true, not-false, not-true}

-- the test b is true only if A holds, and false only if A does not
pub record Decides (A : Type 0) (b : Bool) : Type 0 where
  pub holds : b ≡ true → A
  pub fails : b ≡ false → A → ⊥

-- a test of numbers being equal
pub decides_equal : (m n : ℕ) → Decides (m ≡ n) (eqb m n)
decides_equal m n = record { holds = eqb-true m n; fails = eqb-false m n }

-- numbers that cannot differ are equal
pub equal_if_never_unequal : (m n : ℕ) → ((m ≡ n → ⊥) → ⊥) → m ≡ n
equal_if_never_unequal m n h = go (ℕ_discrete m n)
  where
    go : Dec (m ≡ n) → m ≡ n
    go (yes e) = e
    go (no u) = absurd (h u)

-- a test of numbers being in order
pub decides_below : (m n : ℕ) → Decides (m < n) (ltb m n)
decides_below m n = record { holds = ltb-true m n; fails = λ e h. omega (arith, ltb-false m n e) }

-- a test of numbers being in order or equal
pub decides_at_most : (m n : ℕ) → Decides (m ≤ n) (leb m n)
decides_at_most m n = record { holds = leb-true m n; fails = λ e h. omega (arith, leb-false m n e) }

-- the same test for the same statement in other words
pub decides_same : {A B : Type 0} {b : Bool} → (A → B) → (B → A) → Decides A b → Decides B b
decides_same f g t = record { holds = λ e. f (t.holds e); fails = λ e y. t.fails e (g y) }

-- the opposite of a test decides the opposite statement
pub decides_not : {A : Type 0} {b : Bool} → Decides A b → Decides (A → ⊥) (not b)
decides_not {b} t = record {
  holds = λ e. t.fails (not-true b e);
  fails = λ e h. h (t.holds (not-false b e));
}

-- a test whose opposite decides a statement decides the opposite statement
pub decides_opposite : {A : Type 0} (b : Bool) → Decides A (not b) → Decides (A → ⊥) b
decides_opposite b t = record {
  holds = λ e. t.fails (ap not e);
  fails = λ e n. n (t.holds (ap not e));
}

-- a test that is always passed
pub decides_true : {A : Type 0} → A → Decides A true
decides_true a = record { holds = λ e. a; fails = λ e. absurd (let z : ◌≡◌ {A = ℕ} 0 1 = cc in omega arith) }

-- a test that is never passed
pub decides_false : {A : Type 0} → (A → ⊥) → Decides A false
decides_false n = record { holds = λ e. absurd (let z : ◌≡◌ {A = ℕ} 0 1 = cc in omega arith); fails = λ e. n }

-- one of two statements
pub decides_or : {A B : Type 0} {a b : Bool} → Decides A a → Decides B b → Decides (A ⊎ B) (a || b)
decides_or {A} {B} {a} {b} s t = go a b s t
  where
    go : (a b : Bool) → Decides A a → Decides B b → Decides (A ⊎ B) (a || b)
    go true b s t = decides_true (inl (s.holds refl))
    go false true s t = decides_true (inr (t.holds refl))
    go false false s t = decides_false (elim [ inl x ↦ s.fails refl x | inr y ↦ t.fails refl y ])

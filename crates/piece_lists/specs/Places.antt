-- Places in a list: where the first stands that passes a test, one more and one fewer at a place. Definitions only.
use Rattle.std.specs.Prelude.{Bool, false, true, List, [], ◌++◌, ◌∷◌, suc, ℕ, drop, take}

-- how many stand before the first that passes the test
unfoldable pub first_place : {A : Type 0} → (A → Bool) → List A → ℕ
first_place p [] = 0
first_place p (a ∷ l) = elim (p a) as (λ _. ℕ) [ true ↦ 0 | false ↦ suc (first_place p l) ]

-- without the one at place i
unfoldable pub without_at : {A : Type 0} → ℕ → List A → List A
without_at i l = take i l ++ drop (suc i) l

-- with one more, at place i
unfoldable pub with_at : {A : Type 0} → ℕ → A → List A → List A
with_at i a l = take i l ++ (a ∷ drop i l)

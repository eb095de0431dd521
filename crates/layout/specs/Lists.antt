-- Lists: sums over a list, insertion and sorting, properties of every element and of every two, two lists place by
-- place. Definitions only.
use Rattle.std.specs.Prelude.{ℕ, ◌+◌, Bool, true, false, List, [], ◌∷◌, eqb}

-- the sum of a measure over a list
abbrev pub sum_of {ℓ} : {A : Type ℓ} → (A → ℕ) → List A → ℕ
sum_of w [] = 0
sum_of w (a ∷ l) = w a + sum_of w l

-- the sum of a measure over each element and the one right after it
abbrev pub sum_next : {A : Type 0} → (A → A → ℕ) → List A → ℕ
sum_next w [] = 0
sum_next w (a ∷ []) = 0
sum_next w (a ∷ b ∷ l) = w a b + sum_next w (b ∷ l)

-- 1 for a test that is passed, else 0: a sum of these counts
abbrev pub indicator : Bool → ℕ
indicator true = 1
indicator false = 0

-- how often a number stands in a list
abbrev pub times_in : ℕ → List ℕ → ℕ
times_in i l = sum_of (λ x. indicator (eqb x i)) l

-- a put before the first element that it is not above, in the order le
unfoldable pub insert_by {ℓ} : {A : Type ℓ} → (A → A → Bool) → A → List A → List A
insert_by {A} le a [] = a ∷ []
insert_by {A} le a (b ∷ l) = elim (le a b) as (λ _. List A) [ true ↦ a ∷ b ∷ l | false ↦ b ∷ insert_by le a l ]

unfoldable pub sort_by {ℓ} : {A : Type ℓ} → (A → A → Bool) → List A → List A
sort_by le [] = []
sort_by le (a ∷ l) = insert_by le a (sort_by le l)

-- every element has P
pub data Each {ℓ κ} {A : Type ℓ} (P : A → Type κ) : List A → Type (ℓ ⊔ κ) where
  done : Each P []
  more : {a : A} {l : List A} → P a → Each P l → Each P (a ∷ l)

-- every element has R to each one after it
pub data Pairwise {ℓ κ} {A : Type ℓ} (R : A → A → Type κ) : List A → Type (ℓ ⊔ κ) where
  none : Pairwise R []
  next : {a : A} {l : List A} → Each (R a) l → Pairwise R l → Pairwise R (a ∷ l)

-- two lists agree place by place
pub data Zipped {A B : Type 0} (R : A → B → Type 0) : List A → List B → Type 0 where
  ends : Zipped R [] []
  both : {a : A} {b : B} {l : List A} {m : List B} → R a b → Zipped R l m → Zipped R (a ∷ l) (b ∷ m)

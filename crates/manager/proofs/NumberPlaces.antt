-- Numbers in a list: which are listed, at which place each stands, and that in a rising list a lower number stands
-- before a higher one. Assumes nothing.
use mathlib.Core.Bool.{Bool, ◌||◌, cond, false, true}
use mathlib.Core.List.{List, [], ◌∷◌}
use mathlib.Core.Logic.{◌⊎◌, inl, inr}
use mathlib.Core.Path.{◌∙◌, ◌≡◌, ap, refl, sym}
use Prim.Native.Nat.{◌<◌, suc, ℕ}
use native.Mathlib.Decide.{ℕ_discrete}
use native.Mathlib.Omega.{arith}
use lib.Dec.{eqb, ltb}
use lib.ListN.{get_or}
use borrow.Author.Tests.{eq-eqb, eqb-false, eqb-true, ltb-true, ne_eqb}
use Rattle.manager.specs.Table.{is_listed, is_rising, place_in}
use Rattle.section.proofs.Booleans.{and_true}

-- ---- listed numbers

pub none_listed : (n : ℕ) → is_listed n [] ≡ true → ⊥
none_listed n e = let z : ◌≡◌ {A = ℕ} 0 1 = cc in omega arith

-- one of a longer list is the first number or one of the others
pub listed_cases : (n m : ℕ) (ns : List ℕ) → is_listed n (m ∷ ns) ≡ true
    → (n ≡ m) ⊎ ((n ≡ m → ⊥) × (is_listed n ns ≡ true))
listed_cases n m ns e = go (eqb n m) refl e
  where
    go : (t : Bool) → eqb n m ≡ t → t || is_listed n ns ≡ true → (n ≡ m) ⊎ ((n ≡ m → ⊥) × (is_listed n ns ≡ true))
    go true q x = inl (eqb-true n m q)
    go false q x = inr (eqb-false n m q, x)

pub listed_first : (n : ℕ) (ns : List ℕ) → is_listed n (n ∷ ns) ≡ true
listed_first n ns = ap (λ t. t || is_listed n ns) (eq-eqb n n refl)

pub listed_later : (n m : ℕ) (ns : List ℕ) → is_listed n ns ≡ true → is_listed n (m ∷ ns) ≡ true
listed_later n m ns e = go (eqb n m)
  where
    go : (t : Bool) → t || is_listed n ns ≡ true
    go true = refl
    go false = e

-- n is one of these numbers
abbrev pub Among : ℕ → List ℕ → Type 0
Among n [] = ⊥
Among n (m ∷ ns) = (n ≡ m) ⊎ Among n ns

pub listed_among : (n : ℕ) (ns : List ℕ) → is_listed n ns ≡ true → Among n ns
listed_among n [] e = none_listed n e
listed_among n (m ∷ ns) e = elim (listed_cases n m ns e) [
  | inl q ↦ inl q
  | inr w ↦ inr (listed_among n ns w.1)
]

-- ---- places

pub place_first : (n m : ℕ) (ns : List ℕ) → n ≡ m → place_in (m ∷ ns) n ≡ 0
place_first n m ns e = ap (λ t. cond t 0 (suc (place_in ns n))) (eq-eqb n m e)

place_later : (n m : ℕ) (ns : List ℕ) → (n ≡ m → ⊥) → place_in (m ∷ ns) n ≡ suc (place_in ns n)
place_later n m ns u = ap (λ t. cond t 0 (suc (place_in ns n))) (ne_eqb n m u)

-- what stands before b, and is not the first number, stands before b among the others
pub place_before : (a b m : ℕ) (ns : List ℕ) → (a ≡ m → ⊥) → place_in (m ∷ ns) a < place_in (m ∷ ns) b
    → place_in ns a < place_in ns b
place_before a b m ns u h = go (ℕ_discrete b m)
  where
    go : Dec (b ≡ m) → place_in ns a < place_in ns b
    go (yes e) = absurd (omega (arith, place_first b m ns e))
    go (no w) = omega (arith, place_later a m ns u, place_later b m ns w)

-- a listed number stands at its place
at_place : (n : ℕ) (ns : List ℕ) → is_listed n ns ≡ true → get_or ns (place_in ns n) 0 ≡ n
at_place n [] e = absurd (none_listed n e)
at_place n (m ∷ ns) e = elim (listed_cases n m ns e) [
  | inl q ↦ ap (λ k. get_or (m ∷ ns) k 0) (place_first n m ns q) ∙ sym q
  | inr w ↦ ap (λ k. get_or (m ∷ ns) k 0) (place_later n m ns w.0) ∙ at_place n ns w.1
]

-- so that two of them stand at two places
pub place_unique : (a b : ℕ) (ns : List ℕ) → is_listed a ns ≡ true → is_listed b ns ≡ true
    → place_in ns a ≡ place_in ns b → a ≡ b
place_unique a b ns s t e = sym (at_place a ns s) ∙ (ap (λ k. get_or ns k 0) e ∙ at_place b ns t)

-- ---- rising lists

rising-rest : (m : ℕ) (ns : List ℕ) → is_rising (m ∷ ns) ≡ true → is_rising ns ≡ true
rising-rest m [] e = refl
rising-rest m (k ∷ ns) e = (and_true (ltb m k) (is_rising (k ∷ ns)) e).1

-- the first number is below the others
rising_below : (m : ℕ) (ns : List ℕ) → is_rising (m ∷ ns) ≡ true → (n : ℕ) → is_listed n ns ≡ true → m < n
rising_below m [] e n l = absurd (none_listed n l)
rising_below m (k ∷ ns) e n l =
    let both = and_true (ltb m k) (is_rising (k ∷ ns)) e in
    let first_two = ltb-true m k both.0 in
    elim (listed_cases n k ns l) [
      | inl q ↦ omega arith
      | inr w ↦ omega (arith, rising_below k ns both.1 n w.1)
    ]

-- the lower of two numbers stands before the other
pub lower_before : (ns : List ℕ) → is_rising ns ≡ true → (a b : ℕ) → is_listed a ns ≡ true → is_listed b ns ≡ true
    → a < b → place_in ns a < place_in ns b
lower_before [] r a b s t h = absurd (none_listed a s)
lower_before (m ∷ ns) r a b s t h =
    go (listed_cases a m ns s) (listed_cases b m ns t) λ x y. lower_before ns (rising-rest m ns r) a b x y h
  where
    go : (a ≡ m) ⊎ ((a ≡ m → ⊥) × (is_listed a ns ≡ true)) → (b ≡ m) ⊎ ((b ≡ m → ⊥) × (is_listed b ns ≡ true))
        → (is_listed a ns ≡ true → is_listed b ns ≡ true → place_in ns a < place_in ns b)
        → place_in (m ∷ ns) a < place_in (m ∷ ns) b
    go (inl p) (inl q) k = absurd (omega arith)
    go (inl p) (inr y) k = omega (arith, place_first a m ns p, place_later b m ns y.0)
    go (inr x) (inl q) k = absurd (omega (arith, rising_below m ns r a x.1))
    go (inr x) (inr y) k =
        omega (arith, k x.1 y.1, place_later a m ns x.0, place_later b m ns y.0)

-- and what stands before is lower
pub before_lower : (ns : List ℕ) → is_rising ns ≡ true → (a b : ℕ) → is_listed a ns ≡ true → is_listed b ns ≡ true
    → place_in ns a < place_in ns b → a < b
before_lower ns r a b s t h =
    let apart : (a ≡ b → ⊥) = λ e. omega (arith, ap (place_in ns) e) in
    let not-higher : (b < a → ⊥) = λ x. omega (arith, lower_before ns r b a t s x) in
    omega (arith, apart, not-higher)

-- Sums over lists and properties of their elements: what insertion, sorting and mapping keep. Assumes nothing.
use mathlib.Core.Bool.{Bool, false, true}
use mathlib.Core.List.{List, [], ◌++◌, ◌∷◌, map}
use mathlib.Core.Path.{◌∙◌, ◌≡◌, ap, ap₂, refl, sym}
use Prim.Native.Nat.{◌+◌, ◌≤◌, suc, ℕ}
use native.Mathlib.Omega.{arith}
use lib.ListN.{length}
use Rattle.layout.specs.Lists.{Each, Pairwise, done, insert_by, more, next, none, sort_by, sum_of}

module _ {ℓ} {A : Type ℓ} where
  pub sum-append : (w : A → ℕ) (l m : List A) → sum_of w (l ++ m) ≡ sum_of w l + sum_of w m
  sum-append w [] m = omega arith
  sum-append w (a ∷ l) m = omega (arith, sum-append w l m)

  pub sum_insert : (w : A → ℕ) (le : A → A → Bool) (a : A) (l : List A)
      → sum_of w (insert_by le a l) ≡ w a + sum_of w l
  unfolding insert_by
  sum_insert w le a [] = refl
  sum_insert w le a (b ∷ l) =
      elim (le a b) as (λ t. sum_of w (elim t as (λ _. List A) [ true ↦ a ∷ b ∷ l | false ↦ b ∷ insert_by le a l ])
      ≡ w a + (w b + sum_of w l))
      [ true ↦ refl | false ↦ omega (arith, sum_insert w le a l) ]

  pub sum_sort : (w : A → ℕ) (le : A → A → Bool) (l : List A) → sum_of w (sort_by le l) ≡ sum_of w l
  unfolding sort_by
  sum_sort w le [] = refl
  sum_sort w le (a ∷ l) = sum_insert w le a (sort_by le l) ∙ ap (λ n. w a + n) (sum_sort w le l)

  pub sum_cong : (w v : A → ℕ) {l : List A} → Each (λ a. w a ≡ v a) l → sum_of w l ≡ sum_of v l
  sum_cong w v done = refl
  sum_cong w v (more p e) = ap₂ (λ m n. m + n) p (sum_cong w v e)

  pub each_imp {κ κ'} : {P : A → Type κ} {Q : A → Type κ'} {l : List A} → ((a : A) → P a → Q a) → Each P l
      → Each Q l
  each_imp f done = done
  each_imp f (more p e) = more (f _ p) (each_imp f e)

  -- each element's share is at most the whole
  pub sum_ge : (w : A → ℕ) (l : List A) → Each (λ a. w a ≤ sum_of w l) l
  sum_ge w [] = done
  sum_ge w (a ∷ l) = more {a = a} (omega arith) (each_imp (λ b h. omega arith) (sum_ge w l))

  pub sum_ge_all {κ} : {X : Type κ} (w : X → A → ℕ) (l : List A) → Each (λ a. (x : X) → w x a ≤ sum_of (w x) l) l
  sum_ge_all w [] = done
  sum_ge_all w (a ∷ l) = more {a = a} (λ x. omega arith) (each_imp (λ b h x. omega (arith, h x)) (sum_ge_all w l))

  pub each_and {κ κ'} : {P : A → Type κ} {Q : A → Type κ'} {l : List A} → Each P l → Each Q l
      → Each (λ a. P a × Q a) l
  each_and done q = done
  each_and (more p e) (more x y) = more (p, x) (each_and e y)

  pub each_all {κ} : {P : A → Type κ} (l : List A) → ((a : A) → P a) → Each P l
  each_all [] f = done
  each_all (a ∷ l) f = more (f a) (each_all l f)

  pub each_append {κ} : {P : A → Type κ} {l m : List A} → Each P l → Each P m → Each P (l ++ m)
  each_append done q = q
  each_append (more p e) q = more p (each_append e q)

  pub each_head {κ} : {P : A → Type κ} {a : A} {l : List A} → Each P (a ∷ l) → P a
  each_head (more p e) = p

  pub each_tail {κ} : {P : A → Type κ} {a : A} {l : List A} → Each P (a ∷ l) → Each P l
  each_tail (more p e) = e

  pub each_left {κ} : {P : A → Type κ} (l m : List A) → Each P (l ++ m) → Each P l
  each_left [] m p = done
  each_left (a ∷ l) m (more p e) = more p (each_left l m e)

  pub each_right {κ} : {P : A → Type κ} (l m : List A) → Each P (l ++ m) → Each P m
  each_right [] m p = p
  each_right (a ∷ l) m (more p e) = each_right l m e

  -- what holds under a condition that no element is in
  pub each_given {κ κ'} : {X : Type κ'} {P : A → Type κ} (l : List A) → (X → Each P l) → Each (λ a. X → P a) l
  each_given [] f = done
  each_given (a ∷ l) f = more (λ x. each_head (f x)) (each_given l (λ x. each_tail (f x)))

  -- of every two, the other way round
  pub each_swap {κ} : {R : A → A → Type κ} (m : List A) {l : List A} → Each (λ a. Each (R a) m) l
      → Each (λ b. Each (λ a. R a b) l) m
  each_swap m done = each_all m (λ b. done)
  each_swap m (more p e) = each_imp (λ b q. more q.0 q.1) (each_and p (each_swap m e))

  pub each_insert {κ} : {P : A → Type κ} (le : A → A → Bool) (a : A) {l : List A} → P a → Each P l
      → Each P (insert_by le a l)
  unfolding insert_by
  each_insert le a p done = more p done
  each_insert {P} le a p (more {a = b} {l = l} q e) =
      elim (le a b) as (λ t. Each P (elim t as (λ _. List A) [ true ↦ a ∷ b ∷ l | false ↦ b ∷ insert_by le a l ]))
      [ true ↦ more p (more q e) | false ↦ more q (each_insert le a p e) ]

  pub each_sort {κ} : {P : A → Type κ} (le : A → A → Bool) {l : List A} → Each P l → Each P (sort_by le l)
  unfolding sort_by
  each_sort le done = done
  each_sort le (more p e) = each_insert le _ p (each_sort le e)

pub sum-map {ℓ κ} : {A : Type ℓ} {B : Type κ} (w : B → ℕ) (f : A → B) (l : List A)
    → sum_of w (map f l) ≡ sum_of (λ a. w (f a)) l
sum-map w f [] = refl
sum-map w f (a ∷ l) = ap (λ n. w (f a) + n) (sum-map w f l)

pub map-append {ℓ} : {A B : Type ℓ} (f : A → B) (l m : List A) → map f (l ++ m) ≡ map f l ++ map f m
map-append f [] m = refl
map-append f (a ∷ l) m = ap (λ z. f a ∷ z) (map-append f l m)

pub each_map {ℓ κ ν} : {A : Type ℓ} {B : Type κ} {P : B → Type ν} (f : A → B) {l : List A} → Each (λ a. P (f a)) l
    → Each P (map f l)
each_map f done = done
each_map f (more p e) = more p (each_map f e)

pub map_insert {ℓ κ} : {A : Type ℓ} {B : Type κ} (g : A → B) (le : A → A → Bool) (le' : B → B → Bool)
    → ((a b : A) → le a b ≡ le' (g a) (g b)) → (a : A) (l : List A)
    → map g (insert_by le a l) ≡ insert_by le' (g a) (map g l)
unfolding insert_by
map_insert g le le' e a [] = refl
map_insert {A} {B} g le le' e a (b ∷ l) = go (le a b) (le' (g a) (g b)) (e a b) (map_insert g le le' e a l)
  where
    go : (t t' : Bool) → t ≡ t' → map g (insert_by le a l) ≡ insert_by le' (g a) (map g l)
        → map g (elim t as (λ _. List A) [ true ↦ a ∷ b ∷ l | false ↦ b ∷ insert_by le a l ])
        ≡ elim t' as (λ _. List B) [ true ↦ g a ∷ g b ∷ map g l | false ↦ g b ∷ insert_by le' (g a) (map g l) ]
    go true true q r = refl
    go false false q r = ap (λ z. g b ∷ z) r
    go true false q r = absurd (let z : ◌≡◌ {A = ℕ} 0 1 = cc in omega arith)
    go false true q r = absurd (let z : ◌≡◌ {A = ℕ} 0 1 = cc in omega arith)

pub length_insert {ℓ} : {A : Type ℓ} (le : A → A → Bool) (a : A) (l : List A)
    → length (insert_by le a l) ≡ suc (length l)
unfolding insert_by
length_insert le a [] = refl
length_insert {A} le a (b ∷ l) =
    elim (le a b) as
    (λ t. length {A = A} (elim t as (λ _. List A) [ true ↦ a ∷ b ∷ l | false ↦ b ∷ insert_by le a l ])
    ≡ suc (suc (length l)))
    [ true ↦ refl | false ↦ ap suc (length_insert le a l) ]

pub each_unmap {ℓ κ ν} : {A : Type ℓ} {B : Type κ} {P : B → Type ν} (f : A → B) (l : List A) → Each P (map f l)
    → Each (λ a. P (f a)) l
each_unmap f [] e = done
each_unmap f (a ∷ l) (more p e) = more p (each_unmap f l e)

pub pairwise_imp {ℓ κ ν} : {A : Type ℓ} {R : A → A → Type κ} {S : A → A → Type ν} {l : List A}
    → ((a b : A) → R a b → S a b) → Pairwise R l → Pairwise S l
pairwise_imp f none = none
pairwise_imp f (next {a = a} e p) = next (each_imp (λ b q. f a b q) e) (pairwise_imp f p)

pub pairwise_map {ℓ κ ν} : {A : Type ℓ} {B : Type κ} {R : B → B → Type ν} (f : A → B) {l : List A}
    → Pairwise (λ a b. R (f a) (f b)) l → Pairwise R (map f l)
pairwise_map f none = none
pairwise_map f (next e p) = next (each_map f e) (pairwise_map f p)

pub pairwise_unmap {ℓ κ ν} : {A : Type ℓ} {B : Type κ} {R : B → B → Type ν} (f : A → B) (l : List A)
    → Pairwise R (map f l) → Pairwise (λ a b. R (f a) (f b)) l
pairwise_unmap f [] p = none
pairwise_unmap f (a ∷ l) (next e p) = next (each_unmap f l e) (pairwise_unmap f l p)

-- insertion and sorting in an order le, whose answers say R one way or the other
module _ {ℓ} {A : Type ℓ} (le : A → A → Bool) (R : A → A → Type 0) (holds : (a b : A) → le a b ≡ true → R a b)
    (fails : (a b : A) → le a b ≡ false → R b a) (trans : (a b c : A) → R a b → R b c → R a c) where
  pub insert_sorted : (a : A) {l : List A} → Pairwise R l → Pairwise R (insert_by le a l)
  unfolding insert_by
  insert_sorted a none = next done none
  insert_sorted a (next {a = b} {l = l} q qs) = go (le a b) refl (insert_sorted a qs)
    where
      go : (t : Bool) → le a b ≡ t → Pairwise R (insert_by le a l)
          → Pairwise R (elim t as (λ _. List A) [ true ↦ a ∷ b ∷ l | false ↦ b ∷ insert_by le a l ])
      go true e r = let h = holds a b e in next (more h (each_imp (λ c x. trans a b c h x) q)) (next q qs)
      go false e r = next (each_insert le a (fails a b e) q) r

  pub sort_sorted : (l : List A) → Pairwise R (sort_by le l)
  unfolding sort_by
  sort_sorted [] = none
  sort_sorted (a ∷ l) = insert_sorted a (sort_sorted l)

pub length-sum {ℓ} : {A : Type ℓ} (l : List A) → length l ≡ sum_of (λ _. 1) l
length-sum [] = refl
length-sum (a ∷ l) = omega (arith, length-sum l)

pub length_sort {ℓ} : {A : Type ℓ} (le : A → A → Bool) (l : List A) → length (sort_by le l) ≡ length l
length_sort le l = length-sum (sort_by le l) ∙ (sum_sort (λ _. 1) le l ∙ sym (length-sum l))

-- Every two of a list: what sorting keeps of them, and that one strict order and the same members make one list.
-- Assumes nothing.
use mathlib.Core.Bool.{Bool, false, true}
use mathlib.Core.List.Memᴰ
use mathlib.Core.List.{List, Memᴰ, ◌∷◌}
use mathlib.Core.Logic.{◌⊎◌, inl, inr}
use mathlib.Core.Path.{◌∙◌, ◌≡◌, ap₂, refl, subst, sym}
use Rattle.layout.proofs.Lists.{each_and, each_head, each_imp, each_insert, each_sort}
use Rattle.layout.specs.Lists.{Each, Pairwise, done, insert_by, more, next, none, sort_by}

module _ {ℓ} {A : Type ℓ} where
  pub pairwise_and : {R S : A → A → Type 0} {l : List A} → Pairwise R l → Pairwise S l
      → Pairwise (λ a b. R a b × S a b) l
  pairwise_and none none = none
  pairwise_and (next p q) (next x y) = next (each_and p x) (pairwise_and q y)

  -- what every element has both of any two have
  pub pairwise_each : {P : A → Type 0} {l : List A} → Each P l → Pairwise (λ a b. P a × P b) l
  pairwise_each done = none
  pairwise_each (more p e) = next (each_imp (λ b q. (p, q)) e) (pairwise_each e)

  -- what every element has a member has
  pub each_member : {P : A → Type 0} {a : A} {l : List A} → Each P l → Memᴰ a l → P a
  each_member {P} (more p e) (Memᴰ.head s) = subst P (sym s) p
  each_member (more p e) (Memᴰ.tail m) = each_member e m
  each_member {P = P} {a = a} done m = elim m [ ]

  -- what holds of every two in both orders still holds when they are sorted
  module _ {R : A → A → Type 0} (both : (a b : A) → R a b → R b a) (le : A → A → Bool) where
    pub pairwise_insert : (a : A) {l : List A} → Each (R a) l → Pairwise R l → Pairwise R (insert_by le a l)
    unfolding insert_by
    pairwise_insert a done none = next done none
    pairwise_insert a (more {a = b} {l = l} x xs) (next p q) =
        elim (le a b) as
        (λ t. Pairwise R (elim t as (λ _. List A) [ true ↦ a ∷ b ∷ l | false ↦ b ∷ insert_by le a l ])) [
          | true ↦ next (more x xs) (next p q)
          | false ↦ next (each_insert le a (both a b x) p) (pairwise_insert a xs q)
        ]

    pub pairwise_sort : {l : List A} → Pairwise R l → Pairwise R (sort_by le l)
    unfolding sort_by
    pairwise_sort none = none
    pairwise_sort (next {a = a} p q) = pairwise_insert a (each_sort le p) (pairwise_sort q)

  -- a strict order and the same members leave one list only
  module _ (R : A → A → Type 0) (strict : (a b : A) → R a b → R b a → ⊥) where
    -- the first of the two is the same
    first_same : {a b : A} {l m : List A} → Each (R a) l → Each (R b) m → (a ≡ b) ⊎ Memᴰ a m
        → (b ≡ a) ⊎ Memᴰ b l → a ≡ b
    first_same p q (inl e) y = e
    first_same p q (inr x) (inl e) = sym e
    first_same {a} {b} p q (inr x) (inr y) = absurd (strict a b (each_member p y) (each_member q x))

    -- members of the other list behind its first
    rest_members : {a b : A} {l m : List A} → a ≡ b → Each (R a) l → Each (λ c. Memᴰ c (b ∷ m)) l
        → Each (λ c. Memᴰ c m) l
    rest_members {a} {b} {l} {m} s p x = each_imp (λ c h. go c h.0 (Memᴰ.cases_cons h.1)) (each_and p x)
      where
        go : (c : A) → R a c → (c ≡ b) ⊎ Memᴰ c m → Memᴰ c m
        go c r (inl e) = let t = subst (λ z. R a z) (e ∙ sym s) r in absurd (strict a a t t)
        go c r (inr y) = y

    pub sorted_same : {l m : List A} → Pairwise R l → Pairwise R m → Each (λ a. Memᴰ a m) l
        → Each (λ a. Memᴰ a l) m → l ≡ m
    sorted_same none none done done = refl
    sorted_same none (next p q) done y = absurd (Memᴰ.not-nil (each_head y))
    sorted_same (next p q) none x done = absurd (Memᴰ.not-nil (each_head x))
    sorted_same (next p q) (next r s) (more x xs) (more y ys) =
        let e = first_same p r (Memᴰ.cases_cons x) (Memᴰ.cases_cons y) in
        ap₂ (λ a l. a ∷ l) e (sorted_same q s (rest_members e p xs) (rest_members (sym e) r ys))

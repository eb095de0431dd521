-- Sorting by first block and back by length, and the other way round. Assumes nothing.
use mathlib.Core.Bool.{Bool, false, true}
use mathlib.Core.List.{List, [], ◌∷◌}
use mathlib.Core.Path.{◌∙◌, ◌≡◌, ap, refl, sym}
use Prim.Native.Nat.{◌<◌, ℕ}
use native.Mathlib.Nat.{le_of_lt}
use native.Mathlib.Omega.{arith}
use lib.Dec.{leb}
use borrow.Author.Tests.{le-leb, leb-false, leb-true}
use Rattle.layout.proofs.Lists.{each_imp, each_sort, pairwise_imp}
use Rattle.layout.specs.Layout.{by_first, by_length}
use Rattle.layout.specs.Lists.{Each, Pairwise, done, insert_by, more, next, none, sort_by}
use Rattle.section.specs.declared.Section.{Section}

-- Two orders: a list in the order le, sorted in another order and back.
module _ (le : Section → Section → Bool) (tr : (a b c : Section) → le a b ≡ true → le b c ≡ true → le a c ≡ true)
    (tot : (a b : Section) → le a b ≡ false → le b a ≡ true) where
  first_of : (a b : Section) (l : List Section) → le a b ≡ true → insert_by le a (b ∷ l) ≡ a ∷ b ∷ l
  unfolding insert_by
  first_of a b l p = rw (p, insert_by)

  later_of : (a b : Section) (l : List Section) → le a b ≡ false → insert_by le a (b ∷ l) ≡ b ∷ insert_by le a l
  unfolding insert_by
  later_of a b l p = rw (p, insert_by)

  -- not both ways
  abbrev pub Unlike : Section → Section → Type 0
  Unlike a b = le a b ≡ true → le b a ≡ true → ⊥

  flip : (a b : Section) → Unlike a b → le a b ≡ true → le b a ≡ false
  flip a b n p = go (le b a) refl
    where
      go : (t : Bool) → le b a ≡ t → t ≡ false
      go true q = absurd (n p q)
      go false q = refl

  clash : (a b c : Section) → le a c ≡ false → le b c ≡ true → le a b ≡ true → ⊥
  clash a b c p q r = let x = tr a b c r q in let z : ◌≡◌ {A = ℕ} 0 1 = cc in omega arith

  insert_comm : (a b : Section) → Unlike a b → (l : List Section)
      → insert_by le a (insert_by le b l) ≡ insert_by le b (insert_by le a l)
  unfolding insert_by
  insert_comm a b ne [] = go (le a b) refl
    where
      go : (t : Bool) → le a b ≡ t → insert_by le a (b ∷ []) ≡ insert_by le b (a ∷ [])
      go true p = first_of a b [] p ∙ sym (later_of b a [] (flip a b ne p))
      go false p = later_of a b [] p ∙ sym (first_of b a [] (tot a b p))
  insert_comm a b ne (c ∷ l) = go (le a c) refl (le b c) refl (le a b) refl (insert_comm a b ne l)
    where
      go : (s : Bool) → le a c ≡ s → (t : Bool) → le b c ≡ t → (r : Bool) → le a b ≡ r
          → insert_by le a (insert_by le b l) ≡ insert_by le b (insert_by le a l)
          → insert_by le a (insert_by le b (c ∷ l)) ≡ insert_by le b (insert_by le a (c ∷ l))
      go false p false q r x ih =
          ap (insert_by le a) (later_of b c l q)
          ∙ (later_of a c (insert_by le b l) p
          ∙ (ap (λ z. c ∷ z) ih
          ∙ (sym (later_of b c (insert_by le a l) q) ∙ sym (ap (insert_by le b) (later_of a c l p)))))
      go false p true q true x ih = absurd (clash a b c p q x)
      go false p true q false x ih =
          ap (insert_by le a) (first_of b c l q)
          ∙ (later_of a b (c ∷ l) x
          ∙ (ap (λ z. b ∷ z) (later_of a c l p)
          ∙ (sym (first_of b c (insert_by le a l) q) ∙ sym (ap (insert_by le b) (later_of a c l p)))))
      go true p false q true x ih =
          ap (insert_by le a) (later_of b c l q)
          ∙ (first_of a c (insert_by le b l) p
          ∙ (ap (λ z. a ∷ z) (sym (later_of b c l q))
          ∙ (sym (later_of b a (c ∷ l) (flip a b ne x)) ∙ sym (ap (insert_by le b) (first_of a c l p)))))
      go true p false q false x ih = absurd (clash b a c q p (tot a b x))
      go true p true q false x ih =
          ap (insert_by le a) (first_of b c l q)
          ∙ (later_of a b (c ∷ l) x
          ∙ (ap (λ z. b ∷ z) (first_of a c l p)
          ∙ (sym (first_of b a (c ∷ l) (tot a b x)) ∙ sym (ap (insert_by le b) (first_of a c l p)))))
      go true p true q true x ih =
          ap (insert_by le a) (first_of b c l q)
          ∙ (first_of a b (c ∷ l) x
          ∙ (ap (λ z. a ∷ z) (sym (first_of b c l q))
          ∙ (sym (later_of b a (c ∷ l) (flip a b ne x)) ∙ sym (ap (insert_by le b) (first_of a c l p)))))

  sort_insert : (lf : Section → Section → Bool) (a : Section) {l : List Section} → Each (Unlike a) l
      → sort_by le (insert_by lf a l) ≡ insert_by le a (sort_by le l)
  unfolding sort_by insert_by
  sort_insert lf a done = refl
  sort_insert lf a (more {a = b} {l = l} p e) = go (lf a b) (sort_insert lf a e)
    where
      go : (t : Bool) → sort_by le (insert_by lf a l) ≡ insert_by le a (sort_by le l)
          → sort_by le (elim t as (λ _. List Section) [ true ↦ a ∷ b ∷ l | false ↦ b ∷ insert_by lf a l ])
          ≡ insert_by le a (insert_by le b (sort_by le l))
      go true ih = refl
      go false ih = ap (insert_by le b) ih ∙ sym (insert_comm a b p (sort_by le l))

  -- in the order le, and no two alike
  abbrev pub Strict : List Section → Type 0
  Strict l = Pairwise (λ (a b : Section). (le a b ≡ true) × Unlike a b) l

  sort_strict : {l : List Section} → Strict l → sort_by le l ≡ l
  unfolding sort_by insert_by
  sort_strict none = refl
  sort_strict (next {a = a} {l = l} e f) = ap (insert_by le a) (sort_strict f) ∙ go l e
    where
      go : (m : List Section) → Each (λ b. (le a b ≡ true) × Unlike a b) m → insert_by le a m ≡ a ∷ m
      go [] e = refl
      go (b ∷ m) (more p e) = first_of a b m p.0

  pub sort_there_and_back : (lf : Section → Section → Bool) {l : List Section} → Strict l
      → sort_by le (sort_by lf l) ≡ l
  unfolding sort_by
  sort_there_and_back lf f = twice f ∙ sort_strict f
    where
      twice : {l : List Section} → Strict l → sort_by le (sort_by lf l) ≡ sort_by le l
      twice none = refl
      twice (next {a = a} {l = l} e f) =
          sort_insert lf a (each_sort lf (each_imp (λ b p. p.1) e)) ∙ ap (insert_by le a) (twice f)

leb_trans : (a b c : ℕ) → leb a b ≡ true → leb b c ≡ true → leb a c ≡ true
leb_trans a b c p q = le-leb a c (omega (arith, leb-true a b p, leb-true b c q))

leb_total : (a b : ℕ) → leb a b ≡ false → leb b a ≡ true
leb_total a b p = le-leb b a (omega (arith, leb-false a b p))

-- by first block, and back by length
pub sort_back : {l : List Section} → Pairwise (λ (s t : Section). t.height.value < s.height.value) l
    → sort_by by_length (sort_by by_first l) ≡ l
sort_back f =
    sort_there_and_back by_length
    (λ a b c p q. leb_trans c.height.value b.height.value a.height.value q p)
    (λ a b p. leb_total b.height.value a.height.value p) by_first
    (pairwise_imp (λ a b p. (
      le-leb b.height.value a.height.value (le_of_lt p),
      λ x y. omega (arith, leb-true a.height.value b.height.value y),
    )) f)

-- by length, and back by first block
pub firsts_back : {l : List Section} → Pairwise (λ (s t : Section). s.first < t.first) l
    → sort_by by_first (sort_by by_length l) ≡ l
firsts_back f =
    sort_there_and_back by_first (λ a b c. leb_trans a.first b.first c.first)
    (λ a b. leb_total a.first b.first) by_length
    (pairwise_imp
    (λ a b p. (le-leb a.first b.first (le_of_lt p), λ x y. omega (arith, leb-true b.first a.first y)))
    f)

-- Tests on every element of an array's first places, and on every two of them, by their places. Assumes nothing.
use mathlib.Core.Bool.{Bool, ◌&&◌, false, true}
use mathlib.Core.List.{List, [], ◌∷◌}
use mathlib.Core.Path.{◌∙◌, ◌≡◌, ap, refl, sym}
use Prim.Native.Nat.{◌+◌, ◌<◌, ◌≤◌, suc, zero, ℕ}
use native.Mathlib.Omega.{arith}
use native.Mathlib.Numerals.{add-one}
use lib.ListN.{drop, drop_of_length-le, get_or, length}
use lib.Seq.{drop-cons}
use borrow.Author.Count.{below_more}
use Rattle.catalogue.proofs.Tests.{and_intro}
use Rattle.catalogue.specs.Reading.{every, pairwise}
use Rattle.section.proofs.Booleans.{and_true}
use Rattle.section.specs.Sections.{section}
use Rattle.section.specs.declared.Section.{Section}

pub is_false : (b : Bool) → (b ≡ true → ⊥) → b ≡ false
is_false true n = absurd (n refl)
is_false false n = refl

pub false_true : {A : Type 0} → false ≡ true → A
false_true e = absurd (let z : ◌≡◌ {A = ℕ} 0 1 = cc in omega arith)

module _ {ℓ} {A : Type ℓ} where
  every_points : (p : A → Bool) (l : List A) (d : A) → ((i : ℕ) → i < length l → p (get_or l i d) ≡ true)
      → every p l ≡ true
  unfolding every
  every_points p [] d h = refl
  every_points p (a ∷ l) d h = and_intro (h 0 (omega arith)) (every_points p l d (λ i q. h (suc i) (omega arith)))

  pub every_at : (p : A → Bool) (l : List A) (d : A) → every p l ≡ true → (i : ℕ) → i < length l
      → p (get_or l i d) ≡ true
  unfolding every
  every_at p [] d e i h = absurd (omega arith)
  every_at p (a ∷ l) d e zero h = (and_true (p a) (every p l) e).0
  every_at p (a ∷ l) d e (suc i) h = every_at p l d (and_true (p a) (every p l) e).1 i (omega arith)

  -- whether all from the place i on pass: the first of them, and the later ones
  pub every-next : (p : A → Bool) (l : List A) (i : ℕ) (d : A) → i < length l
      → every p (drop i l) ≡ p (get_or l i d) && every p (drop (i + 1) l)
  unfolding every
  every-next p l i d h =
      ap (every p) (drop-cons l i d h) ∙ ap (λ n. p (get_or l i d) && every p (drop n l)) (sym (add-one i))

  pub every-none : (p : A → Bool) (l : List A) (i : ℕ) → length l ≤ i → every p (drop i l) ≡ true
  unfolding every
  every-none p l i h = ap (every p) (drop_of_length-le l {i = i} h)

  pub pairwise_points : (r : A → A → Bool) (l : List A) (d : A)
      → ((i j : ℕ) → i < j → j < length l → r (get_or l i d) (get_or l j d) ≡ true) → pairwise r l ≡ true
  unfolding pairwise
  pairwise_points r [] d h = refl
  pairwise_points r (a ∷ l) d h =
      and_intro (every_points (r a) l d (λ i q. h 0 (suc i) (omega arith) (omega arith)))
      (pairwise_points r l d (λ i j p q. h (suc i) (suc j) (omega arith) (omega arith)))

  pairwise_at : (r : A → A → Bool) (l : List A) (d : A) → pairwise r l ≡ true → (i j : ℕ) → i < j → j < length l
      → r (get_or l i d) (get_or l j d) ≡ true
  unfolding pairwise
  pairwise_at r [] d e i j p q = absurd (omega arith)
  pairwise_at r (a ∷ l) d e i zero p q = absurd (omega arith)
  pairwise_at r (a ∷ l) d e zero (suc j) p q =
      every_at (r a) l d (and_true (every (r a) l) (pairwise r l) e).0 j (omega arith)
  pairwise_at r (a ∷ l) d e (suc i) (suc j) p q =
      pairwise_at r l d (and_true (every (r a) l) (pairwise r l) e).1 i j (omega arith) (omega arith)

  -- each place before i passes with each one after it that stands before m
  abbrev pub Rows : List A → ℕ → A → (A → A → Bool) → ℕ → Type 0
  Rows l m d r i = (a : ℕ) → a < i → (b : ℕ) → a < b → b < m → r (get_or l a d) (get_or l b d) ≡ true

  -- the place i passes with those after it that stand before j
  abbrev pub Row : List A → A → (A → A → Bool) → ℕ → ℕ → Type 0
  Row l d r i j = (b : ℕ) → b < j → i < b → r (get_or l i d) (get_or l b d) ≡ true

  pub pair_fails : (r : A → A → Bool) (l : List A) (d : A) (i j : ℕ) → i < j → j < length l
      → r (get_or l i d) (get_or l j d) ≡ false → pairwise r l ≡ false
  pair_fails r l d i j p q e = is_false (pairwise r l) (λ t. false_true (sym e ∙ pairwise_at r l d t i j p q))

  module _ (l : List A) (m : ℕ) (d : A) (r : A → A → Bool) where
    pub row_start : (i : ℕ) → Row l d r i (i + 1)
    row_start i b p q = absurd (omega arith)

    pub rows_none : Rows l m d r 0
    rows_none a p b q k = absurd (omega arith)

    pub rows_more : (i j : ℕ) → m ≤ j → Rows l m d r i → Row l d r i j → Rows l m d r (i + 1)
    rows_more i j q fs f =
        below_more (λ a. (b : ℕ) → a < b → b < m → r (get_or l a d) (get_or l b d) ≡ true) i fs
        (λ b p k. f b (omega arith) p)

-- what stands where there is no section
abbrev pub blank : Section
blank = section 0 0

-- A piece compared with a group of those after it, which may reach past the last one. Assumes nothing.
use mathlib.Core.Bool.{Bool, ◌||◌, false, not, true}
use mathlib.Core.List.{List}
use mathlib.Core.Logic.{◌⊎◌, inl, inr, ⊎_elim}
use mathlib.Core.Path.{◌∙◌, ◌≡◌, ap, ap₂, refl, subst, sym}
use Prim.Native.Nat.{◌+◌, ◌-◌, ◌<◌, ◌≤◌, suc, zero, ℕ}
use native.Mathlib.Numerals.{add-one}
use native.Mathlib.Omega.{arith}
use lib.ListN.{get_or-eq_default, get_or, length}
use Rattle.section.proofs.Answers.{apart_iff}
use Rattle.section.proofs.Multiples.{below_or_not}
use Rattle.section.specs.Limits.{greatest_disk}
use Rattle.section.specs.Sections.{end_of, shares_block}
use Rattle.section.specs.declared.Section.{Section}
use Rattle.soundness.proofs.Points.{Row, Rows, false_true, pair_fails, pairwise_points}
use Rattle.soundness.specs.Sharing.{Ends, far, none_shared, shares_among}

-- the two share no block
abbrev pub apart : Section → Section → Bool
apart s t = not (shares_block s t)

or_false : (a b : Bool) → (a || b) ≡ false → (a ≡ false) × (b ≡ false)
or_false true b e = (e, false_true (sym e))
or_false false b e = (refl, e)

or_true : (a b : Bool) → (a || b) ≡ true → (a ≡ true) ⊎ (b ≡ true)
or_true true b e = inl refl
or_true false b e = inr e

module _ (s : Section) (l : List Section) (at : ℕ) where
  -- nothing is shared with no piece
  pub among_none : false ≡ shares_among s l at 0
  unfolding shares_among
  among_none = refl

  -- what was found of the first k, and with the next piece
  pub among_more : (found shares : Bool) (k : ℕ) → found ≡ shares_among s l at k
      → shares ≡ shares_block s (get_or l (at + k) far)
      → (found || shares) ≡ shares_among s l at (k + 1)
  unfolding shares_among
  among_more found shares k e f = ap₂ (λ x y. x || y) e f ∙ sym (ap (shares_among s l at) (add-one k))

  -- a group in which nothing is shared: each of its pieces is apart
  none-among : (n : ℕ) → shares_among s l at n ≡ false → (k : ℕ) → k < n
      → shares_block s (get_or l (at + k) far) ≡ false
  unfolding shares_among
  none-among zero e k h = absurd (omega arith)
  none-among (suc n) e k h =
      let w = or_false (shares_among s l at n) (shares_block s (get_or l (at + n) far)) e in
      ⊎_elim (λ q. none-among n w.0 k q)
      (λ q. subst (λ z. shares_block s (get_or l (at + z) far) ≡ false) (omega arith) w.1) (below_or_not k n)

  -- a group in which a block is shared: one of its pieces has it
  one-among : (n : ℕ) → shares_among s l at n ≡ true
      → (k : ℕ) × (k < n) × (shares_block s (get_or l (at + k) far) ≡ true)
  unfolding shares_among
  one-among zero e = false_true e
  one-among (suc n) e =
      ⊎_elim (λ q. let w = one-among n q in (w.0, omega (arith, w.1), w.2)) (λ q. (n, omega arith, q))
      (or_true (shares_among s l at n) (shares_block s (get_or l (at + n) far)) e)

-- a section of a disk shares no block with what is noted after the last piece
far_apart : (s : Section) → end_of s ≤ greatest_disk → shares_block s far ≡ false
far_apart s h = (apart_iff s far).1 (inl h)

module _ (l : List Section) (i j n : ℕ) where
  -- a row goes on by a group in which nothing is shared
  pub row_group : Row l far apart i j → shares_among (get_or l i far) l j n ≡ false → Row l far apart i (j + n)
  row_group f e b p q =
      ⊎_elim (λ h. f b h q)
      (λ h.
      let r : j + (b - j) ≡ b = omega arith in
      ap not (subst (λ z. shares_block (get_or l i far) (get_or l z far) ≡ false) r
      (none-among (get_or l i far) l j n e (b - j) (omega arith))))
      (below_or_not b j)

module _ (l : List Section) (count : ℕ) (exact : length l ≡ count) where
  -- when every row is through, no two pieces share a block
  pub rows_through : (i : ℕ) → count ≤ i → Rows l count far apart i → none_shared l ≡ true
  rows_through i h f = pairwise_points apart l far (λ a b p q. f a (omega (arith, exact)) b p (omega (arith, exact)))

  -- a block is shared in a group: two pieces of the list share one
  pub group_fails : Ends l → (i j n : ℕ) → i < j → i < count → shares_among (get_or l i far) l j n ≡ true
      → none_shared l ≡ false
  group_fails ends i j n p q e =
      let w = one-among (get_or l i far) l j n e in
      ⊎_elim
      (λ h. pair_fails apart l far i (j + w.0) (omega arith) (omega (arith, exact)) (ap not w.2))
      (λ h.
      let past : get_or l (j + w.0) far ≡ far = get_or-eq_default l far (omega (arith, exact)) in
      false_true (sym (far_apart (get_or l i far) (ends i (omega (arith, exact))))
      ∙ (sym (ap (shares_block (get_or l i far)) past) ∙ w.2)))
      (below_or_not (j + w.0) count)

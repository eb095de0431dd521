-- Those of some copies whose source passes a test: what holds of them, and how many of a run they are. Assumes
-- nothing.
use mathlib.Core.Bool.{Bool, false, true}
use mathlib.Core.List.{List, [], ◌++◌, ◌∷◌}
use mathlib.Core.Path.{◌∙◌, ◌≡◌, ap, ap₂, refl, subst, sym}
use Prim.Native.Nat.{◌+◌, ◌<◌, ◌≤◌, suc, zero, ℕ}
use native.Mathlib.Omega.{arith}
use lib.ListN.{length}
use Rattle.layout.specs.Layout.{block_run}
use Rattle.layout.specs.Lists.{Each, done, indicator, more}
use Rattle.layout.specs.Merges.{counted_in}
use Rattle.layout.specs.Removing.{Copy, copies_from, copy_run}

module _ (p : ℕ → Bool) where
  pub from_none : copies_from p [] ≡ []
  unfolding copies_from
  from_none = refl

  pub from_passed : (c : Copy) (l : List Copy) → p c.source ≡ true → copies_from p (c ∷ l) ≡ c ∷ copies_from p l
  unfolding copies_from
  from_passed c l e =
      ap (λ t. elim t as (λ _. List Copy) [ true ↦ c ∷ copies_from p l | false ↦ copies_from p l ]) e

  pub from_failed : (c : Copy) (l : List Copy) → p c.source ≡ false → copies_from p (c ∷ l) ≡ copies_from p l
  unfolding copies_from
  from_failed c l e =
      ap (λ t. elim t as (λ _. List Copy) [ true ↦ c ∷ copies_from p l | false ↦ copies_from p l ]) e

  pub from_append : (a b : List Copy) → copies_from p (a ++ b) ≡ copies_from p a ++ copies_from p b
  from_append [] b = ap (λ l. l ++ copies_from p b) (sym from_none)
  from_append (c ∷ a) b = go (p c.source) refl (from_append a b)
    where
      go : (t : Bool) → p c.source ≡ t → copies_from p (a ++ b) ≡ copies_from p a ++ copies_from p b
          → copies_from p (c ∷ (a ++ b)) ≡ copies_from p (c ∷ a) ++ copies_from p b
      go true e ih =
          from_passed c (a ++ b) e ∙ (ap (λ l. c ∷ l) ih ∙ ap (λ l. l ++ copies_from p b) (sym (from_passed c a e)))
      go false e ih = from_failed c (a ++ b) e ∙ (ih ∙ ap (λ l. l ++ copies_from p b) (sym (from_failed c a e)))

  -- what holds of copies holds of those that pass, and of these the test too
  pub each_from : {P : Copy → Type 0} {l : List Copy} → Each P l
      → Each (λ (c : Copy). P c × (p c.source ≡ true)) (copies_from p l)
  each_from {P} done = subst (Each (λ (c : Copy). P c × (p c.source ≡ true))) (sym from_none) done
  each_from {P} (more {a = c} {l = l} q e) = go (p c.source) refl (each_from e)
    where
      go : (t : Bool) → p c.source ≡ t → Each (λ (c : Copy). P c × (p c.source ≡ true)) (copies_from p l)
          → Each (λ (c : Copy). P c × (p c.source ≡ true)) (copies_from p (c ∷ l))
      go true z r =
          subst (Each (λ (c : Copy). P c × (p c.source ≡ true))) (sym (from_passed c l z)) (more {a = c} (q, z) r)
      go false z r = subst (Each (λ (c : Copy). P c × (p c.source ≡ true))) (sym (from_failed c l z)) r

  -- the copies of a run are as many as its blocks that pass
  pub count_from_lem : (n b u : ℕ) → length (copies_from p (copy_run b u n)) ≡ counted_in p n b
  unfolding copy_run block_run
  count_from_lem zero b u = ap length from_none
  count_from_lem (suc n) b u = go (p b) refl (count_from_lem n (suc b) (suc u))
    where
      go : (t : Bool) → p b ≡ t → length (copies_from p (copy_run (suc b) (suc u) n)) ≡ counted_in p n (suc b)
          → length (copies_from p ((record { source = b; target = u }) ∷ copy_run (suc b) (suc u) n))
          ≡ indicator (p b) + counted_in p n (suc b)
      go true e ih =
          let c : Copy = record { source = b; target = u } in
          omega (arith, ih, ap length (from_passed c (copy_run (suc b) (suc u) n) e), ap indicator e)
      go false e ih =
          let c : Copy = record { source = b; target = u } in
          omega (arith, ih, ap length (from_failed c (copy_run (suc b) (suc u) n) e), ap indicator e)

  pub counted-le : (n b : ℕ) → counted_in p n b ≤ n
  unfolding block_run
  counted-le zero b = omega arith
  counted-le (suc n) b = go (p b) (counted-le n (suc b))
    where
      go : (t : Bool) → counted_in p n (suc b) ≤ n → indicator t + counted_in p n (suc b) ≤ suc n
      go true q = omega arith
      go false q = omega arith

  pub counted_none : (n b : ℕ) → ((i : ℕ) → i < n → p (b + i) ≡ false) → counted_in p n b ≡ 0
  unfolding block_run
  counted_none zero b f = refl
  counted_none (suc n) b f =
      let x : b + 0 ≡ b = omega arith in
      let y : (i : ℕ) → suc b + i ≡ b + suc i = λ i. omega arith in
      ap₂ (λ i j. i + j) (ap indicator (sym (ap p x) ∙ f 0 (omega arith)))
      (counted_none n (suc b) (λ i q. ap p (y i) ∙ f (suc i) (omega arith)))

  pub none-counted : (n b : ℕ) → counted_in p n b ≡ 0 → (i : ℕ) → i < n → p (b + i) ≡ false
  unfolding block_run
  none-counted zero b e i q = absurd (omega arith)
  none-counted (suc n) b e i q = go (p b) refl e i q (λ f j x. none-counted n (suc b) f j x)
    where
      go : (t : Bool) → p b ≡ t → indicator t + counted_in p n (suc b) ≡ 0 → (i : ℕ) → i < suc n
          → (counted_in p n (suc b) ≡ 0 → (j : ℕ) → j < n → p (suc b + j) ≡ false) → p (b + i) ≡ false
      go true s f i q ih = absurd (omega arith)
      go false s f zero q ih = let x : b + 0 ≡ b = omega arith in ap p x ∙ s
      go false s f (suc i) q ih =
          let x : b + suc i ≡ suc b + i = omega arith in ap p x ∙ ih (omega arith) i (omega arith)

-- The first of a list that passes a test, by its place: it is what taking the first takes. Assumes nothing.
use Rattle.std.proofs.Common.{◌≡◌, ◌+◌, ◌<◌, ◌∙◌, ap, arith, sym, subst, suc, zero, ℕ, Bool, true, false, List}
use Rattle.std.proofs.Common.{[], ◌∷◌, ◌≤◌, drop, get_or, length, refl}
use Rattle.section.specs.Sections.{section}
use Rattle.section.specs.declared.Section.{Section}
use Rattle.layout.proofs.Taking.{take_first_behind, take_first_here, take_first-none}
use Rattle.layout.specs.Adding.{keeping, nothing, take_first, taken}
use Rattle.layout.specs.Lists.{done}
use Rattle.piece_lists.specs.Places.{first_place, without_at}

-- the first of l that passes stands at place i
pub record FirstAt (q : Section → Bool) (l : List Section) (i : ℕ) : Type 0 where
  pub below : i < length l
  pub here : q (get_or l i (section 0 0)) ≡ true
  pub before : (k : ℕ) → k < i → q (get_or l k (section 0 0)) ≡ false

module _ (q : Section → Bool) where
  behind : (a : Section) (l : List Section) (i : ℕ) → FirstAt q (a ∷ l) (suc i) → FirstAt q l i
  behind a l i f = record {
    below = omega (arith, f.below);
    here = f.here;
    before = λ k lt. f.before (suc k) (omega arith);
  }

  ahead : (a : Section) (l : List Section) (i : ℕ) → q a ≡ false → FirstAt q l i → FirstAt q (a ∷ l) (suc i)
  ahead a l i e f = record { below = omega (arith, f.below); here = f.here; before = before }
    where
      before : (k : ℕ) → k < suc i → q (get_or (a ∷ l) k (section 0 0)) ≡ false
      before zero lt = e
      before (suc k) lt = f.before k (omega arith)

  -- what is taken stands at the first place that passes the test
  pub take_at : (l : List Section) (i : ℕ) → FirstAt q l i
      → take_first q l ≡ taken (get_or l i (section 0 0)) (without_at i l)
  unfolding without_at
  take_at [] i f = absurd (omega (arith, f.below))
  take_at (a ∷ l) zero f = take_first_here q a l f.here
  take_at (a ∷ l) (suc i) f =
      take_first_behind q a l (f.before 0 (omega arith)) ∙ ap (keeping a) (take_at l i (behind a l i f))

  pub take_none : (l : List Section) → ((k : ℕ) → k < length l → q (get_or l k (section 0 0)) ≡ false)
      → take_first q l ≡ nothing
  take_none [] e = take_first-none q done
  take_none (a ∷ l) e =
      take_first_behind q a l (e 0 (omega arith))
      ∙ ap (keeping a) (take_none l (λ k lt. e (suc k) (omega arith)))

  -- once the first is out, the next one behind it stands a place lower
  pub first-next : (l : List Section) (i j : ℕ) → FirstAt q l i → FirstAt q (drop (i + 1) l) j
      → FirstAt q (without_at i l) (i + j)
  unfolding without_at
  first-next [] i j f g = absurd (omega (arith, f.below))
  first-next (a ∷ l) zero j f g = let z : 0 + j ≡ j = omega arith in subst (FirstAt q l) (sym z) g
  first-next (a ∷ l) (suc i) j f g =
      let z : suc i + j ≡ suc (i + j) = omega arith in
      let y : suc i + 1 ≡ suc (i + 1) = omega arith in
      let r : FirstAt q (drop (i + 1) l) j = subst (λ n. FirstAt q (drop n (a ∷ l)) j) y g in
      subst (FirstAt q (a ∷ without_at i l)) (sym z)
      (ahead a (without_at i l) (i + j) (f.before 0 (omega arith)) (first-next l i j (behind a l i f) r))

  -- nothing passes once the first is out, if nothing behind it does
  pub none-next : (l : List Section) (i : ℕ) → FirstAt q l i → nothing ≡ take_first q (drop (i + 1) l)
      → take_first q (without_at i l) ≡ nothing
  unfolding without_at
  none-next [] i f e = absurd (omega (arith, f.below))
  none-next (a ∷ l) zero f e = sym e
  none-next (a ∷ l) (suc i) f e =
      let y : suc i + 1 ≡ suc (i + 1) = omega arith in
      take_first_behind q a (without_at i l) (f.before 0 (omega arith))
      ∙ ap (keeping a) (none-next l i (behind a l i f) (e ∙ ap (λ n. take_first q (drop n (a ∷ l))) y))

  -- where one passes, the first stands at the first place
  pub first_place-at : (l : List Section) → first_place q l < length l → FirstAt q l (first_place q l)
  unfolding first_place
  first_place-at [] p = absurd (omega arith)
  first_place-at (a ∷ l) p = go (q a) refl p (first_place-at l)
    where
      after : Bool → ℕ
      after t = elim t as (λ _. ℕ) [ true ↦ 0 | false ↦ suc (first_place q l) ]

      go : (t : Bool) → q a ≡ t → after t < suc (length l)
          → (first_place q l < length l → FirstAt q l (first_place q l)) → FirstAt q (a ∷ l) (after t)
      go true e p ih = record { below = omega arith; here = e; before = λ k lt. absurd (omega arith) }
      go false e p ih = ahead a l (first_place q l) e (ih (omega arith))

  -- and where none does, nothing is taken
  pub first_place-none : (l : List Section) → length l ≤ first_place q l → take_first q l ≡ nothing
  unfolding first_place
  first_place-none [] p = take_none [] (λ k lt. absurd (omega arith))
  first_place-none (a ∷ l) p = go (q a) refl p (first_place-none l)
    where
      go : (t : Bool) → q a ≡ t → suc (length l) ≤ elim t as (λ _. ℕ) [ true ↦ 0 | false ↦ suc (first_place q l) ]
          → (length l ≤ first_place q l → take_first q l ≡ nothing) → take_first q (a ∷ l) ≡ nothing
      go true e p ih = absurd (omega arith)
      go false e p ih = take_first_behind q a l e ∙ ap (keeping a) (ih (omega arith))

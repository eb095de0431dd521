-- A refusal that applies is given if none of those that the call checks before it applies, and only the first that
-- applies is given. Assumes nothing.
use mathlib.Core.Bool.{Bool, ◌&&◌, ◌||◌, false, true}
use mathlib.Core.List.{List, [], ◌∷◌, map}
use mathlib.Core.Logic.{inl, inr}
use mathlib.Core.Path.{◌≡◌, refl, subst, sym}
use Prim.Native.Nat.{◌<◌, ℕ}
use native.Mathlib.Omega.{arith}
use lib.Dec.{eqb}
use borrow.Author.Tests.{eqb-true}
use Rattle.catalogue.specs.Encoding.{Bytes}
use Rattle.layout.specs.Lists.{Each, done, more}
use Rattle.manager.proofs.ConditionLists.{number_unique}
use Rattle.manager.proofs.FirstRefusal.{first_refusal_lem}
use Rattle.manager.proofs.NumberPlaces.{listed_cases, none_listed, place_before, place_first}
use Rattle.manager.specs.Call.{Call}
use Rattle.manager.specs.Changes.{Gives}
use Rattle.manager.specs.Table.{By, First, GivenIf, Refusal, is_listed, number_of, numbers_of, place_in}
use Rattle.section.proofs.Booleans.{and_true}

-- the numbers before n in a list are all numbers of the refusals qs
abbrev pub covers_before : ℕ → List Refusal → List ℕ → Bool
covers_before n qs [] = true
covers_before n qs (m ∷ ns) = eqb n m || (is_listed m (map number_of qs) && covers_before n qs ns)

covered : (n : ℕ) (qs : List Refusal) (ns : List ℕ) → covers_before n qs ns ≡ true → (a : ℕ) → is_listed a ns ≡ true
    → place_in ns a < place_in ns n → is_listed a (map number_of qs) ≡ true
covered n qs [] e a l h = absurd (none_listed a l)
covered n qs (m ∷ ns) e a l h = go (eqb n m) refl e (λ c x y. covered n qs ns c a x y)
  where
    go : (t : Bool) → eqb n m ≡ t → t || (is_listed m (map number_of qs) && covers_before n qs ns) ≡ true
        → (covers_before n qs ns ≡ true → is_listed a ns ≡ true → place_in ns a < place_in ns n
        → is_listed a (map number_of qs) ≡ true)
        → is_listed a (map number_of qs) ≡ true
    go true q x k = absurd (omega (arith, place_first n m ns (eqb-true n m q)))
    go false q x k =
        let both = and_true (is_listed m (map number_of qs)) (covers_before n qs ns) x in
        elim (listed_cases a m ns l) [
          | inl s ↦ subst (λ b. is_listed b (map number_of qs) ≡ true) (sym s) both.0
          | inr w ↦ k both.1 w.1 (place_before a n m ns w.0 h)
        ]

-- none of these refusals applies to a call
abbrev pub Clear : List ℕ → List ℕ → Call → List Refusal → Type 0
Clear cat d c qs = Each (λ (q : Refusal). GivenIf q c cat d → ⊥) qs

module _ (cat d : List ℕ) (c : Call) where
  clear-one : {qs : List Refusal} → Clear cat d c qs → (q : Refusal) → is_listed (number_of q) (map number_of qs) ≡ true
      → GivenIf q c cat d → ⊥
  clear-one done q e = absurd (none_listed (number_of q) e)
  clear-one (more {a = r} {l = qs} u clear) q e = elim (listed_cases (number_of q) (number_of r) (map number_of qs) e) [
    | inl s ↦ subst (λ x. GivenIf x c cat d → ⊥) (sym (number_unique q r s)) u
    | inr w ↦ clear-one clear q w.1
  ]

  module _ (bytes : Bytes cat) where
    -- a refusal that applies is given if none before it does
    pub gives-first : (r : Refusal) → By r c → GivenIf r c cat d → {qs : List Refusal} → Clear cat d c qs
        → covers_before (number_of r) qs (numbers_of c) ≡ true → Gives cat d c (number_of r)
    gives-first r by given {qs} clear covers = (first_refusal_lem c cat d bytes (number_of r)).1 (
      r,
      refl,
      record {
        by = by;
        given = given;
        first = λ q before b.
            clear-one clear q (covered (number_of r) qs (numbers_of c) covers (number_of q) b before);
      },
    )

    -- and what is given is the first refusal that applies
    pub first_given : (r : Refusal) → Gives cat d c (number_of r) → First c cat d r
    first_given r e =
        let w = (first_refusal_lem c cat d bytes (number_of r)).0 e in
        subst (First c cat d) (number_unique w.0 r w.1) w.2

    -- so that no number is given that is not the call's
    pub given_listed : (n : ℕ) → Gives cat d c n → is_listed n (numbers_of c) ≡ true
    given_listed n e =
        let w = (first_refusal_lem c cat d bytes n).0 e in
        subst (λ m. is_listed m (numbers_of c) ≡ true) w.1 w.2.by

-- The first condition of a list that applies is the first refusal that is given, in the order of the numbers, if each
-- condition decides its refusal. Assumes nothing.
use mathlib.Core.Bool.{Bool, false, true}
use mathlib.Core.List.{List, [], ◌∷◌}
use mathlib.Core.Logic.{inl, inr}
use mathlib.Core.Path.{◌∙◌, ◌≡◌, ap, refl, subst, sym}
use Prim.Native.Nat.{◌<◌, ℕ}
use native.Mathlib.Omega.{arith}
use lib.ListN.{get_or}
use Rattle.manager.proofs.Deciding.{Decides}
use Rattle.manager.proofs.NumberPlaces.{listed_cases, listed_first, listed_later, none_listed, place_before}
use Rattle.manager.proofs.NumberPlaces.{place_first}
use Rattle.manager.specs.Conditions.{Condition, Judgement, allowed, condition, first_refusal, refusal}
use Rattle.manager.specs.Table.{Refusal, buffer_length, catalogue_length, disk_length, files_full, format_disk}
use Rattle.manager.specs.Table.{id_missing, id_there, id_zero, is_listed, letter_not_above, letter_unknown, list_length}
use Rattle.manager.specs.Table.{no_space, not_sound, number_of, past_end, place_in}

-- the refusals by their numbers; there is none of number 0
abbrev refusals : List Refusal
refusals =
    catalogue_length ∷ catalogue_length ∷ format_disk ∷ not_sound ∷ disk_length ∷ id_zero ∷ id_missing ∷ id_there
    ∷ buffer_length
    ∷ past_end ∷ files_full ∷ no_space ∷ letter_unknown ∷ letter_not_above ∷ list_length ∷ []

numbered : (r : Refusal) → get_or refusals (number_of r) catalogue_length ≡ r
numbered catalogue_length = refl
numbered format_disk = refl
numbered not_sound = refl
numbered disk_length = refl
numbered id_zero = refl
numbered id_missing = refl
numbered id_there = refl
numbered buffer_length = refl
numbered past_end = refl
numbered files_full = refl
numbered no_space = refl
numbered letter_unknown = refl
numbered letter_not_above = refl
numbered list_length = refl

-- two refusals have two numbers
pub number_unique : (q r : Refusal) → number_of q ≡ number_of r → q ≡ r
number_unique q r e = sym (numbered q) ∙ (ap (λ n. get_or refusals n catalogue_length) e ∙ numbered r)

-- r is the first refusal that is given, in the order of the numbers ns
pub record FirstOf (Given : Refusal → Type 0) (ns : List ℕ) (r : Refusal) : Type 0 where
  pub listed : is_listed (number_of r) ns ≡ true
  pub given : Given r
  pub first : (q : Refusal) → place_in ns (number_of q) < place_in ns (number_of r) → is_listed (number_of q) ns ≡ true
      → Given q → ⊥

-- none of them is given
abbrev pub NoneOf : (Refusal → Type 0) → List ℕ → Type 0
NoneOf Given ns = (q : Refusal) → is_listed (number_of q) ns ≡ true → Given q → ⊥

-- a judgement is the table's
abbrev pub Right : (Refusal → Type 0) → List ℕ → Judgement → Type 0
Right Given ns allowed = NoneOf Given ns
Right Given ns (refusal n) = (r : Refusal) × (number_of r ≡ n) × FirstOf Given ns r

-- what a list of conditions refuses first is the table's
pub record Judges (Given : Refusal → Type 0) (ns : List ℕ) (cs : List Condition) : Type 0 where
  pub right : Right Given ns (first_refusal cs)

module _ {Given : Refusal → Type 0} where
  -- no condition
  pub judges_end : Judges Given [] []
  unfolding first_refusal
  judges_end = record { right = λ q e g. none_listed (number_of q) e }

  -- one condition more: only if it does not apply, the others have to be right
  pub judges_row : (r : Refusal) {b : Bool} {ns : List ℕ} {cs : List Condition}
      → Decides (Given r) b → (b ≡ false → Judges Given ns cs)
      → Judges Given (number_of r ∷ ns) (condition (number_of r) b ∷ cs)
  unfolding first_refusal
  judges_row r {b} {ns} {cs} t others = record { right = go b t (λ e. (others e).right) }
    where
      -- what is given is not r, and so one of the others
      one_later : (Given r → ⊥) → (q : Refusal) → is_listed (number_of q) (number_of r ∷ ns) ≡ true
          → ((number_of q ≡ number_of r → ⊥) → is_listed (number_of q) ns ≡ true → Given q → ⊥) → Given q → ⊥
      one_later n q e later g = elim (listed_cases (number_of q) (number_of r) ns e) [
        | inl x ↦ n (subst Given (number_unique q r x) g)
        | inr y ↦ later y.0 y.1 g
      ]

      later : (Given r → ⊥) → (j : Judgement) → Right Given ns j → Right Given (number_of r ∷ ns) j
      later n allowed w = λ q e. one_later n q e (λ u. w q)
      later n (refusal m) w = (
        w.0,
        w.1,
        record {
          listed = listed_later (number_of w.0) (number_of r) ns w.2.listed;
          given = w.2.given;
          first = λ q before e. one_later n q e
              (λ u. w.2.first q (place_before (number_of q) (number_of w.0) (number_of r) ns u before));
        },
      )

      go : (b : Bool) → Decides (Given r) b → (b ≡ false → Right Given ns (first_refusal cs))
          → Right Given (number_of r ∷ ns)
          (elim b as (λ _. Judgement) [ true ↦ refusal (number_of r) | false ↦ first_refusal cs ])
      go true t others = (
        r,
        refl,
        record {
          listed = listed_first (number_of r) ns;
          given = t.holds refl;
          first = λ q before e g. omega (arith, place_first (number_of r) (number_of r) ns refl);
        },
      )
      go false t others = later (t.fails refl) (first_refusal cs) (others refl)

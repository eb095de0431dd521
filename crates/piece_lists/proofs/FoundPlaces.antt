-- The place that a search gives is the first place, and the end where it gives none. Assumes nothing.
use Rattle.std.proofs.Common.{◌≡◌, ◌+◌, ◌≤◌, ◌∙◌, ap, refl, sym, suc, ℕ, Bool, true, false, cond, arith, nat_lt}
use Rattle.std.proofs.Common.{List, ◌∷◌, [], length, map, Some, None}
use Rattle.std.specs.List.{position, position_or_len}
use Rattle.std.specs.Option.{unwrap_or}
use Rattle.std.proofs.lemmas.List.Recursion.{is_position_or_len}
use Rattle.std.proofs.lemmas.List.Sums.{prefix_len-le-length}
use Rattle.std.proofs.lemmas.Bool.{ltb-false}
use mathlib.Core.Bool.{not}
use Rattle.piece_lists.specs.Places.{first_place}

-- the first place is what the library counts
pub first_place-counted : {A : Type 0} (p : A → Bool) (l : List A) → first_place p l ≡ position_or_len p l
unfolding first_place
first_place-counted p l =
    is_position_or_len (first_place p) p refl
    (λ x xs. elim (p x) as
    (λ b. elim b as (λ _. ℕ) [ true ↦ 0 | false ↦ suc (first_place p xs) ] ≡ cond b 0 (1 + first_place p xs))
    [ true ↦ refl | false ↦ omega arith ]) l

-- a number that is given unless a test fails, and then the number is another's
unless_failed : (b : Bool) (i n : ℕ) → (b ≡ false → i ≡ n) → unwrap_or (cond b (Some i) None) n ≡ i
unless_failed true i n h = refl
unless_failed false i n h = sym (h refl)

-- the place that is found, or the end
pub first_place-found : {A : Type 0} (p : A → Bool) (l : List A) (n : ℕ) → n ≡ length l
    → unwrap_or (position p l) n ≡ first_place p l
first_place-found p l n e =
    let i : ℕ = position_or_len p l in
    let most : i ≤ length l = prefix_len-le-length (λ x. not (p x)) l in
    unless_failed (nat_lt i (length l)) i n (λ h. omega (arith, ltb-false i (length l) h))
    ∙ sym (first_place-counted p l)

-- the first place by what a test says of a part of each item
pub first_place-mapped : {A B : Type 0} (f : A → B) (p : B → Bool) (l : List A)
    → first_place (λ x. p (f x)) l ≡ first_place p (map f l)
unfolding first_place
first_place-mapped f p [] = refl
first_place-mapped f p (a ∷ l) =
    ap (λ n. elim (p (f a)) as (λ _. ℕ) [ true ↦ 0 | false ↦ suc n ]) (first_place-mapped f p l)

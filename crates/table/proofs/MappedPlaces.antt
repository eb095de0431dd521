-- Searches by a part of each item: what they ask for, the place that they find, and what it is to find none; and a
-- search by a loop, which ends at the same place. Assumes nothing.
use mathlib.Core.Bool.{true≢false}
use borrow.Author.Tests.{le-ltb, lt-ltb}
use Rattle.std.proofs.Common.{◌≡◌, ◌∙◌, ◌<◌, ap, ap₂, arith, cond, false, get_or, length, map, nat_lt, refl, sym}
use Rattle.std.proofs.Common.{true, Bool, List, None, Option, Some, ℕ}
use Rattle.std.proofs.Math.ListN.{length-map}
use Rattle.std.proofs.lemmas.List.Sums.{position_or_len_is}
use Rattle.std.specs.List.{All, position}
use Rattle.std.specs.Option.{is_some}
use Rattle.layout.proofs.Lists.{each_unmap}
use Rattle.layout.specs.Lists.{Each}
use Rattle.section.specs.declared.Section.{Section}
use Rattle.piece.specs.Packed.{section_in, seen}
use Rattle.piece.specs.declared.Piece.{Piece}
use Rattle.piece_lists.proofs.EachItem.{each_get}
use Rattle.piece_lists.proofs.FoundPlaces.{first_place-counted, first_place-mapped}

pub position-mapped : {A B : Type 0} (f : A → B) (p : B → Bool) (l : List A)
    → position (λ x. p (f x)) l ≡ position p (map f l)
position-mapped f p l =
    let found : ℕ → ℕ → Option ℕ = λ i n. cond (nat_lt i n) (Some i) None in
    ap₂ found
    (sym (first_place-counted (λ x. p (f x)) l) ∙ first_place-mapped f p l ∙ first_place-counted p (map f l))
    (sym (length-map l f))

-- a loop that has come to place j, before which no item passes
module _ {A : Type 0} (p : A → Bool) (l : List A) (j : ℕ) (d : A)
    (before : (k : ℕ) → k < j → p (get_or l k d) ≡ false) where
  -- the item there passes
  pub position-reached : j < length l → p (get_or l j d) ≡ true → position p l ≡ Some j
  position-reached lt here =
      ap (λ i. cond (nat_lt i (length l)) (Some i) None) (position_or_len_is p l j d (omega arith) before (λ _. here))
      ∙ ap (λ b. cond b (Some j) None) (lt-ltb j (length l) lt)

  -- there is none
  pub position-passed : j ≡ length l → position p l ≡ None
  position-passed end =
      ap (λ i. cond (nat_lt i (length l)) (Some i) None)
      (position_or_len_is p l j d (omega arith) before (λ lt. absurd (omega arith)))
      ∙ ap (λ b. cond b (Some j) None) (le-ltb j (length l) (omega arith))

-- what holds of each section holds of the section in each word
pub all-seen : {P : Section → Type 0} (l : List Piece) → Each P (seen l) → All (λ x. P (section_in x)) l
unfolding seen
all-seen {P = P} l e i d lt = each_get {P = λ (x : Piece). P (section_in x)} i d (each_unmap section_in l e) lt

pub none-not_some : {A : Type 0} (o : Option A) → is_some o ≡ false → o ≡ None
none-not_some None e = refl
none-not_some (Some x) e = absurd (true≢false e)

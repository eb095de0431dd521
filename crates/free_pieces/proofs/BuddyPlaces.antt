-- Two that are buddies stand side by side in a list in order: their places are found there, and taken there. Assumes
-- nothing.
use Rattle.std.proofs.Common.{◌≡◌, ◌+◌, ◌<◌, ◌&&◌, ◌++◌, ◌∙◌, add-one, ap, ap₂, arith, refl, sym, suc, zero, ℕ}
use Rattle.std.proofs.Common.{false, List, [], ◌∷◌, drop, get_or, length, take, Some, None}
use native.Mathlib.Decide.{dec_lt}
use Rattle.section.proofs.Booleans.{and_true, false_and}
use Rattle.section.specs.Sections.{section}
use Rattle.section.specs.declared.Section.{Section}
use Rattle.layout.proofs.FreeBuddies.{buddy_place, last_no_buddy, next-buddy}
use Rattle.layout.proofs.MergePairs.{merge_pair_buddies}
use Rattle.layout.specs.Adding.{take_first}
use Rattle.layout.specs.Layout.{InOrder, has_height}
use Rattle.layout.specs.Removing.{buddy_pair, fewer, has_free_buddy, is_buddy_above, is_taken, pair, with_buddy}
use Rattle.layout.specs.Removing.{with_lower}
use Rattle.piece.proofs.Seen.{seen_get, seen-length}
use Rattle.piece.specs.Packed.{seen}
use Rattle.piece.specs.declared.Piece.{Piece}
use Rattle.piece_lists.specs.Places.{without_at}
use Rattle.free_pieces.proofs.FirstTaken.{FirstAt, take_at, take_none}
use Rattle.free_pieces.proofs.PairPlaces.{PairPlaces, pairs_are}
use Rattle.free_pieces.specs.Pairs.{FirstBuddies, has_buddy_next}

get_without : (i : ℕ) (l : List Section) (d : Section) → get_or (without_at i l) i d ≡ get_or l (suc i) d
unfolding without_at
get_without zero [] d = refl
get_without (suc i) [] d = refl
get_without zero (a ∷ l) d = refl
get_without (suc i) (a ∷ l) d = get_without i l d

without_twice : (i : ℕ) (l : List Section) → without_at i (without_at i l) ≡ take i l ++ drop (suc (suc i)) l
unfolding without_at
without_twice zero [] = refl
without_twice (suc i) [] = refl
without_twice zero (a ∷ l) = refl
without_twice (suc i) (a ∷ l) = ap (λ z. a ∷ z) (without_twice i l)

-- the first of the height with its buddy behind it, and that buddy
buddies_places : (h : ℕ) (free : List Section) → InOrder free → (i : ℕ) → FirstAt (has_free_buddy h free) free i
    → suc i < length free → PairPlaces h free i i
unfolding buddy_pair without_at
buddies_places h free ord i f next =
    let low = get_or free i (section 0 0) in
    let up = (and_true (has_height h low) (is_taken (take_first (is_buddy_above low) free)) f.here).1 in
    let both = ap with_buddy (take_at (has_free_buddy h free) free i f)
    ∙ ap (with_lower low)
    (buddy_place free ord i (section 0 0) next (sym (next-buddy free ord i (section 0 0) next) ∙ up))
    ∙ ap₂ (pair low) (sym (get_without i free (section 0 0))) (sym (without_twice i free)) in
    record {
      lower = f.below;
      upper = omega arith;
      pairs = λ n p q. pairs_are n free i i p q ∙ sym (merge_pair_buddies h free both);
    }

module _ (h : ℕ) (l : List Piece) (ord : InOrder (seen l)) where
  abbrev at : ℕ → Section
  at i = get_or (seen l) i (section 0 0)

  -- the piece at a place has its buddy free if the next one is it
  buddy-next : (i : ℕ) → i + 1 < length l → has_free_buddy h (seen l) (at i) ≡ has_buddy_next h l i
  buddy-next i lt =
      let up = ap at (sym (add-one i)) ∙ seen_get l (i + 1) in
      ap₂ (λ a b. a && b) (ap (has_height h) (seen_get l i))
      (next-buddy (seen l) ord i (section 0 0) (omega (arith, lt, seen-length l))
      ∙ ap₂ is_buddy_above (seen_get l i) up)

  -- the last one has none
  buddy-none : (i : ℕ) → i + 1 ≡ length l → has_free_buddy h (seen l) (at i) ≡ false
  buddy-none i e =
      false_and (has_height h (at i)) (last_no_buddy (seen l) ord i (section 0 0) (omega (arith, e, seen-length l)))

  pub buddies_are : (i : ℕ) → FirstBuddies h l (Some i) → PairPlaces h (seen l) i i
  buddies_are i b =
      buddies_places h (seen l) ord i (record {
        below = omega (arith, b.0, seen-length l);
        here = buddy-next i b.0 ∙ b.1;
        before = λ k lt. buddy-next k (omega (arith, lt, b.0)) ∙ b.2 k lt;
      }) (omega (arith, b.0, seen-length l))

  pub no_buddies : FirstBuddies h l None → buddy_pair h (seen l) ≡ fewer
  unfolding buddy_pair
  no_buddies b =
      ap with_buddy
      (take_none (has_free_buddy h (seen l)) (seen l) (λ k lt. go k lt (dec_lt (k + 1) (length l))))
    where
      go : (k : ℕ) → k < length (seen l) → Dec (k + 1 < length l) → has_free_buddy h (seen l) (at k) ≡ false
      go k lt (yes p) = buddy-next k p ∙ b k p
      go k lt (no n) = buddy-none k (omega (arith, lt, n, seen-length l))

-- Two pieces taken at their places are the pair to merge: where no two are buddies, the lowest of a height and the
-- lowest of it behind that. Assumes nothing.
use Rattle.std.proofs.Common.{◌≡◌, ◌+◌, ◌-◌, ◌<◌, ◌∙◌, ap, ap₂, arith, refl, sym, subst, suc, zero, ℕ, List, []}
use Rattle.std.proofs.Common.{◌∷◌, drop, get_or, length, Option, Some, None}
use native.Mathlib.Decide.{dec_lt}
use Rattle.std.specs.List.{position}
use Rattle.std.specs.Prelude.{option_and_then, option_map}
use Rattle.section.specs.Sections.{section}
use Rattle.section.specs.declared.Section.{Section}
use Rattle.layout.proofs.MergePairs.{merge_pair-lowest}
use Rattle.layout.proofs.Splitting.{count_none, of_height_same}
use Rattle.layout.proofs.Taking.{TakesOf, nothing_height, take_first_is, takes_height, takes_sum}
use Rattle.layout.specs.Adding.{nothing, take_first}
use Rattle.layout.specs.Covering.{count_of}
use Rattle.layout.specs.Layout.{has_height, of_height}
use Rattle.layout.specs.Removing.{buddy_pair, fewer, lowest_two, merge_pair, pair, second_of, with_lower}
use Rattle.piece.proofs.Seen.{seen-drop}
use Rattle.piece.specs.Packed.{section_in, seen}
use Rattle.piece.specs.declared.Piece.{Piece}
use Rattle.piece_lists.specs.Places.{first_place, without_at}
use Rattle.free_pieces.proofs.FirstTaken.{FirstAt, first-next, first_place-at, first_place-none, none-next, take_at}
use Rattle.free_pieces.proofs.FoundPieces.{first-found, nothing-found}
use Rattle.free_pieces.specs.Free.{free_of, pair_of}
use Rattle.free_pieces.specs.Pairs.{PairsAt}
use Rattle.free_pieces.specs.declared.Pair.{Pair}

without-length : (i : ℕ) (l : List Section) → i < length l → length (without_at i l) + 1 ≡ length l
unfolding without_at
without-length i [] p = absurd (omega arith)
without-length zero (a ∷ l) p = omega arith
without-length (suc i) (a ∷ l) p = omega (arith, without-length i l (omega arith))

-- two places at which the pair to merge at height h stands: one of the list, and one of the others
pub record PairPlaces (h : ℕ) (free : List Section) (low next : ℕ) : Type 0 where
  pub lower : low < length free
  pub upper : next + 1 < length free
  pub pairs : (n : ℕ) (p : Pair) → PairsAt n free low next p → pair_of (Some p) ≡ merge_pair h free

-- what is taken at two places
pub pairs_are : (n : ℕ) (free : List Section) (low next : ℕ) (p : Pair) → PairsAt n free low next p
    → pair_of (Some p)
    ≡ pair (get_or free low (section 0 0)) (get_or (without_at low free) next (section 0 0))
    (without_at next (without_at low free))
pairs_are n free low next p q =
    ap (λ l. pair l p.upper (free_of p.others)) q.lower
    ∙ ap₂ (λ u r. pair (get_or free low (section 0 0)) u r) q.upper q.others

module _ (h : ℕ) where
  count_nothing : (l : List Section) → nothing ≡ take_first (has_height h) l → count_of h l ≡ 0
  count_nothing l e =
      count_none h (nothing_height (subst (TakesOf (has_height h) l) (sym e) (take_first_is (has_height h) l)))

  -- a height that is counted has a place
  pub place_there : (l : List Section) → 0 < count_of h l → first_place (has_height h) l < length l
  place_there l some = go (dec_lt (first_place (has_height h) l) (length l))
    where
      go : Dec (first_place (has_height h) l < length l) → first_place (has_height h) l < length l
      go (yes p) = p
      go (no n) =
          absurd (omega (
            arith,
            some,
            count_nothing l (sym (first_place-none (has_height h) l (omega (arith, n)))),
          ))

  -- the two lowest, where no two are buddies
  lowest_at-places : (free : List Section) → buddy_pair h free ≡ fewer → (i j : ℕ) → FirstAt (has_height h) free i
      → FirstAt (has_height h) (drop (i + 1) free) j → PairPlaces h free i (i + j)
  unfolding lowest_two
  lowest_at-places free none i j f g =
      let k = first-next (has_height h) free i j f g in
      record {
        lower = f.below;
        upper = omega (arith, k.below, without-length i free f.below);
        pairs = λ n p q. pairs_are n free i (i + j) p q
            ∙ sym (merge_pair-lowest h free none
            ∙ (ap (second_of h) (take_at (has_height h) free i f)
            ∙ ap (with_lower (get_or free i (section 0 0)))
            (take_at (has_height h) (without_at i free) (i + j) k)));
      }

  -- of two of the height one is left
  one_left : (free : List Section) (i : ℕ) → FirstAt (has_height h) free i
      → count_of h free ≡ 1 + count_of h (without_at i free)
  one_left free i f =
      let t = subst (TakesOf (has_height h) free) (take_at (has_height h) free i f)
      (take_first_is (has_height h) free) in
      omega (arith, takes_sum (of_height h) t, of_height_same h (get_or free i (section 0 0)) (takes_height t))

  module _ (l : List Piece) where
    abbrev place : List Piece → Option ℕ
    place k = position (λ x. has_height h (section_in x)) k

    -- the places of the lowest of a height, and of the next one once that is out
    abbrev pub two_places : Option (ℕ × ℕ)
    two_places = option_and_then (λ i. option_map {U = ℕ × ℕ} (λ j. (i, i + j)) (place (drop (i + 1) l))) (place l)

    behind : (i : ℕ) → drop (i + 1) (seen l) ≡ seen (drop (i + 1) l)
    behind i = seen-drop (i + 1) l

    pub two_places_there : 1 < count_of h (seen l) → two_places ≡ None → ⊥
    two_places_there two e = go (place l) refl e
      where
        second : (i : ℕ) → FirstAt (has_height h) (seen l) i → (o : Option ℕ) → place (drop (i + 1) l) ≡ o
            → option_map {U = ℕ × ℕ} (λ j. (i, i + j)) o ≡ None → ⊥
        second i f (Some j) q e = cc
        second i f None q e =
            let rest = nothing-found (has_height h) (drop (i + 1) l) q
            ∙ ap (take_first (has_height h)) (sym (behind i)) in
            omega (
              arith,
              two,
              one_left (seen l) i f,
              count_nothing (without_at i (seen l)) (sym (none-next (has_height h) (seen l) i f rest)),
            )

        go : (o : Option ℕ) → place l ≡ o
            → option_and_then (λ i. option_map {U = ℕ × ℕ} (λ j. (i, i + j)) (place (drop (i + 1) l))) o ≡ None → ⊥
        go (Some i) q e = second i (first-found (has_height h) l i q) (place (drop (i + 1) l)) refl e
        go None q e = omega (arith, two, count_nothing (seen l) (nothing-found (has_height h) l q))

    pub two_places_are : buddy_pair h (seen l) ≡ fewer → (r : ℕ × ℕ) → two_places ≡ Some r
        → PairPlaces h (seen l) r.0 r.1
    two_places_are none r e = go (place l) refl e
      where
        second : (i : ℕ) → FirstAt (has_height h) (seen l) i → (o : Option ℕ) → place (drop (i + 1) l) ≡ o
            → option_map {U = ℕ × ℕ} (λ j. (i, i + j)) o ≡ Some r → PairPlaces h (seen l) r.0 r.1
        second i f (Some j) q e =
            let s : ◌≡◌ {A = ℕ × ℕ} (i, i + j) r = cc in
            subst (λ (z : ℕ × ℕ). PairPlaces h (seen l) z.0 z.1) s
            (lowest_at-places (seen l) none i j f
            (subst (λ k. FirstAt (has_height h) k j) (sym (behind i))
            (first-found (has_height h) (drop (i + 1) l) j q)))
        second i f None q e = cc

        go : (o : Option ℕ) → place l ≡ o
            → option_and_then (λ i. option_map {U = ℕ × ℕ} (λ j. (i, i + j)) (place (drop (i + 1) l))) o ≡ Some r
            → PairPlaces h (seen l) r.0 r.1
        go (Some i) q e = second i (first-found (has_height h) l i q) (place (drop (i + 1) l)) refl e
        go None q e = cc

module _ (h : ℕ) (free : List Section) (none : buddy_pair h free ≡ fewer) (two : 1 < count_of h free) where
  abbrev low : ℕ
  low = first_place (has_height h) free

  pub low_there : low < length free
  low_there = place_there h free (omega (arith, two))

  -- the next one stands behind the lowest
  next_there : (i : ℕ) → FirstAt (has_height h) free i
      → first_place (has_height h) (drop (i + 1) free) < length (drop (i + 1) free)
  next_there i f = go (dec_lt (first_place (has_height h) (drop (i + 1) free)) (length (drop (i + 1) free)))
    where
      go : Dec (first_place (has_height h) (drop (i + 1) free) < length (drop (i + 1) free))
          → first_place (has_height h) (drop (i + 1) free) < length (drop (i + 1) free)
      go (yes p) = p
      go (no n) =
          let rest = first_place-none (has_height h) (drop (i + 1) free) (omega (arith, n)) in
          absurd (omega (
            arith,
            two,
            one_left h free i f,
            count_nothing h (without_at i free) (sym (none-next (has_height h) free i f (sym rest))),
          ))

  -- the lowest of the height, and the lowest behind it
  pub lowest-places : (i j : ℕ) → i ≡ low → j ≡ i + 1 + first_place (has_height h) (drop (i + 1) free)
      → PairPlaces h free i (j - 1)
  lowest-places i j e f =
      let q = has_height h in
      let k = first_place q (drop (i + 1) free) in
      let at : FirstAt q free i = subst (FirstAt q free) (sym e) (first_place-at q free low_there) in
      let z : j - 1 ≡ i + k = omega (arith, f) in
      subst (PairPlaces h free i) (sym z)
      (lowest_at-places h free none i k at (first_place-at q (drop (i + 1) free) (next_there i at)))

-- `which` by literal numbers: when exactly it gives 8, 14, "fits already" and a count, on the catalogue of a sound
-- layout and whatever the disk; and whole outcomes computed from literal bytes with the small catalogue.
-- Assumes nothing.
use mathlib.Core.List.{List, [], ◌++◌, ◌∷◌, map}
use mathlib.Core.Logic.{◌↔◌, inl, inr}
use mathlib.Core.Path.{◌∙◌, ◌≡◌, refl, sym}
use Prim.Native.Nat.{◌-◌, ◌<◌, ◌≤◌, ℕ}
use native.Mathlib.Omega.{arith}
use lib.ListN.{length, replicate}
use Rattle.catalogue.specs.Encoding.{Bytes}
use Rattle.layout.specs.Layout.{Layout, free_blocks}
use Rattle.layout.specs.Lists.{more}
use Rattle.manager.proofs.Catalogues.{encoded_bytes}
use Rattle.manager.proofs.Deciding.{equal_if_never_unequal}
use Rattle.manager.proofs.GivenFirst.{first_given, given_listed, gives-first}
use Rattle.manager.proofs.LiteralBuffers.{clear_catalogue}
use Rattle.manager.proofs.LiteralCases.{Refuses, bytes, computed, entries, with_two, written}
use Rattle.manager.proofs.NumberPlaces.{Among, listed_among}
use Rattle.manager.proofs.Refusals.{answered_not_refused, fits_not_refused}
use Rattle.manager.proofs.WhichCases.{not_fitting}
use Rattle.manager.proofs.WhichFromSound.{which_gives_help}
use Rattle.manager.specs.Book.{count_from}
use Rattle.manager.specs.Call.{Call, which}
use Rattle.manager.specs.Changes.{Gives}
use Rattle.manager.specs.Conditions.{Outcome, Reply, answered, fits_already, outcome, refused}
use Rattle.manager.specs.Outcomes.{perform}
use Rattle.manager.specs.Table.{CatalogueOf, buffer_length, list_length}
use Rattle.section.proofs.Multiples.{below_or_not}

-- ---- when it is refused

-- it gives no number but 1, 3, 8 and 14: only the catalogue is read
pub which_numbers : (cat d : List ℕ) → Bytes cat → (n : ℕ) (o : List ℕ) (m : ℕ) → Gives cat d (which n o) m
    → Among m (1 ∷ 3 ∷ 8 ∷ 14 ∷ [])
which_numbers cat d bytes n o m e =
    listed_among m (1 ∷ 3 ∷ 8 ∷ 14 ∷ []) (given_listed cat d (which n o) bytes m e)

module _ {cat : List ℕ} {l : Layout} (h : CatalogueOf cat l) (d : List ℕ) (n : ℕ) (o : List ℕ) where
  abbrev c : Call
  c = which n o

  -- 8 exactly if n is 0, whatever the list
  pub which_zero_refused : Gives cat d (which n o) 8 ↔ (n ≡ 0)
  which_zero_refused = (
    λ q. (first_given cat d c (encoded_bytes h) buffer_length q).given,
    λ z. gives-first cat d c (encoded_bytes h) buffer_length refl z (clear_catalogue h d c) refl,
  )

  -- 14 exactly if n is at least 1 and the list has not 64 places
  pub which_list_refused : Gives cat d (which n o) 14 ↔ ((1 ≤ n) × (length o ≡ 64 → ⊥))
  which_list_refused = (to, from)
    where
      to : Gives cat d c 14 → (1 ≤ n) × (length o ≡ 64 → ⊥)
      to q =
          let w = first_given cat d c (encoded_bytes h) list_length q in
          let some : (n ≡ 0 → ⊥) = w.first buffer_length (omega arith) refl in
          (omega (arith, some), w.given)

      from : (1 ≤ n) × (length o ≡ 64 → ⊥) → Gives cat d c 14
      from (some, other) =
          gives-first cat d c (encoded_bytes h) list_length refl other
          (more {a = buffer_length} (λ z. omega arith) (clear_catalogue h d c)) refl

  -- ---- when it is not

  -- what is no refusal shows of n and the list
  asked : (r : Reply) → ((m : ℕ) → r ≡ refused m → ⊥) → (perform c cat d).reply ≡ r → (1 ≤ n) × (length o ≡ 64)
  asked r none e = (some, equal_if_never_unequal (length o) 64 places)
    where
      zero : n ≡ 0 → ⊥
      zero z = none 8 (sym e ∙ which_zero_refused.1 z)

      some : 1 ≤ n
      some = omega (arith, zero)

      places : (length o ≡ 64 → ⊥) → ⊥
      places other = none 14 (sym e ∙ which_list_refused.1 (some, other))

  -- "fits already" exactly if n is at least 1 and at most f, and the list has 64 places
  pub which_fits_exactly : ((perform (which n o) cat d).reply ≡ fits_already)
      ↔ ((1 ≤ n) × (n ≤ free_blocks l) × (length o ≡ 64))
  which_fits_exactly = (to, λ w. ((which_gives_help n o cat d l h w.0 w.2).fits w.1).0)
    where
      to : (perform c cat d).reply ≡ fits_already → (1 ≤ n) × (n ≤ free_blocks l) × (length o ≡ 64)
      to e =
          let w = asked fits_already fits_not_refused e in
          elim (below_or_not (free_blocks l) n) [
            | inl less ↦
                (let x = (which_gives_help n o cat d l h w.0 w.1).ids less in
                not_fitting (length x.0) (sym e ∙ x.2))
            | inr most ↦ (w.0, most, w.1)
          ]

  -- and a count exactly if n is at least 1 and exceeds f, and the list has 64 places
  pub which_counts_exactly : ((k : ℕ) × ((perform (which n o) cat d).reply ≡ answered k))
      ↔ ((1 ≤ n) × (free_blocks l < n) × (length o ≡ 64))
  which_counts_exactly = (
    λ x. to x.0 x.1,
    λ w. let x = (which_gives_help n o cat d l h w.0 w.2).ids w.1 in (length x.0, x.2),
  )
    where
      to : (k : ℕ) → (perform c cat d).reply ≡ answered k → (1 ≤ n) × (free_blocks l < n) × (length o ≡ 64)
      to k e =
          let w = asked (answered k) (answered_not_refused k) e in
          elim (below_or_not (free_blocks l) n) [
            | inl less ↦ (w.0, less, w.1)
            | inr most ↦
                not_fitting k (sym ((which_gives_help n o cat d l h w.0 w.1).fits most).0 ∙ e)
          ]

-- ---- computed

-- on id 1 at (4,1), id 65,535 at (0,2) (2,1), free (3,1): n = 0, with a list of 64 places and with others; lists of 0,
-- 63, 65 and 128 places, for an n that fits already, one that a removal lets in and one that none does; on the right
-- disk, on none and on one of another length
pub which_arguments_refused :
    Refuses (bytes 4096 with_two) written 8
    (which 0 (replicate 64 7) ∷ which 0 [] ∷ which 0 (replicate 63 7) ∷ which 0 (replicate 65 7) ∷ [])
    × Refuses (bytes 4096 with_two) [] 8 (which 0 (replicate 64 7) ∷ which 0 [] ∷ [])
    × Refuses (bytes 4096 with_two) written 14
    (which 1 [] ∷ which 1 (replicate 63 7) ∷ which 1 (replicate 65 7) ∷ which 2 (replicate 63 7)
    ∷ which 2 (replicate 65 7) ∷ which 2 (replicate 128 7) ∷ which 5 (replicate 63 7) ∷ [])
    × Refuses (bytes 4096 with_two) (replicate 2559 0) 14 (which 1 [] ∷ which 2 (replicate 63 7) ∷ [])
unfolding computed
which_arguments_refused = (refl, refl, refl, refl)

-- the reply, catalogue and disk as they were, and 64 numbers: these and zeros behind them
abbrev gives : List ℕ → List ℕ → Reply → List ℕ → Outcome
gives cat d r ids = outcome r cat d (ids ++ replicate (64 - length ids) 0)

-- 64 files of one block, and block 64 free
abbrev full : List ℕ
full = bytes 4096 (0 ∷ 1 ∷ 0 ∷ 65 ∷ 0 ∷ 64 ∷ (entries 0 64 ++ 0 ∷ 64 ∷ 0 ∷ 1 ∷ []))

-- on the same catalogue: one block fits already; two, three and four if id 65,535 is removed, which copies no block,
-- and two also if id 1 is, which copies one; five never. On a disk of any length
pub which-computed :
    (map (λ n. perform (which n (replicate 64 7)) (bytes 4096 with_two) written) (1 ∷ 2 ∷ 3 ∷ 4 ∷ 5 ∷ [])
    ≡ gives (bytes 4096 with_two) written fits_already []
    ∷ gives (bytes 4096 with_two) written (answered 2) (65535 ∷ 1 ∷ [])
    ∷ gives (bytes 4096 with_two) written (answered 1) (65535 ∷ [])
    ∷ gives (bytes 4096 with_two) written (answered 1) (65535 ∷ [])
    ∷ gives (bytes 4096 with_two) written (answered 0) []
    ∷ [])
    × (map (λ d. perform (which 2 (replicate 64 7)) (bytes 4096 with_two) d) ([] ∷ replicate 2559 0 ∷ [])
    ≡ map (λ d. gives (bytes 4096 with_two) d (answered 2) (65535 ∷ 1 ∷ [])) ([] ∷ replicate 2559 0 ∷ []))
unfolding computed
which-computed = (refl, refl)

-- with 64 files of one block each on 65 blocks: one block fits already, and every removal lets two in and copies one
-- block, so that all 64 ids are written by rising id and no zero; none lets three in
pub which-full-computed :
    map (λ n. perform (which n (replicate 64 7)) full []) (1 ∷ 2 ∷ 3 ∷ [])
    ≡ gives full [] fits_already [] ∷ gives full [] (answered 64) (count_from 1 64) ∷ gives full [] (answered 0) [] ∷ []
unfolding computed count_from
which-full-computed = refl

-- `which` on what stands agrees with the book: its refusals, "fits already", and the ids of the lines with room, as
-- many, each as often. Assumes nothing.
use mathlib.Core.Bool.{Bool, cond, false, not, true}
use mathlib.Core.List.{List, [], ◌∷◌, map}
use mathlib.Core.Path.{◌∙◌, ◌≡◌, ap, ap₂, refl, subst, sym}
use Prim.Native.Nat.{◌*◌, ◌+◌, ◌-◌, ℕ}
use native.Mathlib.Omega.{arith}
use lib.Dec.{eqb, leb}
use lib.ListN.{length, length-map, replicate}
use Rattle.catalogue.specs.Encoding.{encode}
use Rattle.catalogue.specs.Roomy.{Roomy}
use Rattle.catalogue.specs.declared.Version.{Version}
use Rattle.layout.proofs.Helping.{helping_count, helping_times}
use Rattle.layout.proofs.Lists.{sum-append}
use Rattle.layout.specs.Helping.{Candidate, candidate, candidates_of, helping_ids}
use Rattle.layout.specs.Layout.{File, Layout, file_blocks, free_blocks}
use Rattle.layout.specs.Lists.{indicator, times_in}
use Rattle.layout.specs.Sound.{Sound}
use Rattle.manager.proofs.Lines.{pages-length}
use Rattle.manager.proofs.OnSound.{which_on_sound}
use Rattle.manager.proofs.Standing.{book_free_lem, book_on}
use Rattle.manager.proofs.Steps.{StepClaim, kept_claim, refused_claim}
use Rattle.manager.proofs.WhichCases.{list_for}
use Rattle.manager.specs.Book.{Book, BookStep, book_refuses, book_which, filled_up, fits, ids_with_room, in_any_order}
use Rattle.manager.specs.Call.{which}
use Rattle.manager.specs.Conditions.{Outcome, answered, condition, first_refusal, fits_already, outcome}
use Rattle.manager.specs.Conditions.{unless_refused}
use Rattle.manager.specs.Outcomes.{perform, then_zeros}
use Rattle.manager.specs.WholeList.{SameNumbers, line_on}
use Rattle.section.specs.Limits.{block_size, height_count, most_files}

-- the lines with room are those of the files that let n blocks in
room_candidates : (k n : ℕ) (l : Layout) (d : List ℕ) (fs : List File)
    → ids_with_room n (free_blocks l) (map (line_on d) fs) ≡ map (λ (a : Candidate). a.id) (candidates_of k n l fs)
unfolding ids_with_room candidates_of
room_candidates k n l d [] = refl
room_candidates k n l d (f ∷ fs) =
    ap lines (ap (leb n) (omega (arith, pages-length d f.pieces)))
    ∙ go (leb n (file_blocks f + free_blocks l)) (room_candidates k n l d fs)
  where
    lines : Bool → List ℕ
    lines t =
        elim t as (λ _. List ℕ) [
          | true ↦ f.id ∷ ids_with_room n (free_blocks l) (map (line_on d) fs)
          | false ↦ ids_with_room n (free_blocks l) (map (line_on d) fs)
        ]

    go : (t : Bool)
        → ids_with_room n (free_blocks l) (map (line_on d) fs) ≡ map (λ (a : Candidate). a.id) (candidates_of k n l fs)
        → lines t
        ≡ map (λ (a : Candidate). a.id) (elim t as (λ _. List Candidate) [
          | true ↦ candidate k l f ∷ candidates_of k n l fs
          | false ↦ candidates_of k n l fs
        ])
    go true e = ap (λ z. f.id ∷ z) e
    go false e = e

-- lists of the same numbers have them also with zeros behind
filled_alike : (a b : List ℕ) → length a ≡ length b → SameNumbers a b → SameNumbers (then_zeros a) (filled_up b)
filled_alike a b long same x =
    sum-append (λ y. indicator (eqb y x)) a (replicate (most_files - length a) 0)
    ∙ (ap₂ (λ m n. m + n) (same x) (ap (λ m. times_in x (replicate (most_files - m) 0)) long)
    ∙ sym (sum-append (λ y. indicator (eqb y x)) b (replicate (most_files - length b) 0)))

module _ (n : ℕ) (l : Layout) (d : List ℕ) where
  abbrev ids : List ℕ
  ids = helping_ids height_count n l

  abbrev book_ids : List ℕ
  book_ids = ids_with_room n (free_blocks l) (map (line_on d) l.files)

  ids-counted : length ids ≡ length book_ids
  ids-counted =
      helping_count height_count n l
      ∙ (sym (length-map (candidates_of height_count n l l.files) (λ (a : Candidate). a.id))
      ∙ ap length (sym (room_candidates height_count n l d l.files)))

  ids_alike : SameNumbers ids book_ids
  ids_alike x = helping_times height_count n l x ∙ ap (times_in x) (sym (room_candidates height_count n l d l.files))

module _ (v : Version) (room : Roomy v) (l : Layout) (s : Sound v.heights l) (d : List ℕ)
    (ld : length d ≡ block_size * l.blocks) (n : ℕ) (o : List ℕ) where
  abbrev cat : List ℕ
  cat = encode v l

  abbrev b : Book
  b = book_on d l

  abbrev Claim : Outcome → BookStep → Type 0
  Claim x t = StepClaim v (which n o) cat d b x t

  -- by what the tests say
  by_tests : (t8 t14 t : Bool)
      → Claim
      (unless_refused (first_refusal (condition 8 t8 ∷ condition 14 t14 ∷ [])) cat d o
      (cond t (outcome fits_already cat d (then_zeros [])) (list_for n cat d l)))
      (cond t8 (book_refuses 8 b o)
      (cond t14 (book_refuses 14 b o)
      (cond t (record { reply = fits; book = b; output = filled_up [] }) (record {
        reply = in_any_order (length (book_ids n l d));
        book = b;
        output = filled_up (book_ids n l d);
      }))))
  unfolding first_refusal
  by_tests true t14 t = refused_claim v room l s d ld (which n o) 8
  by_tests false true t = refused_claim v room l s d ld (which n o) 14
  by_tests false false true =
      kept_claim v room l s d ld (which n o) fits_already fits (then_zeros []) (filled_up []) tt refl (λ j e. e)
      (λ j k m g z. absurd (let q : ◌≡◌ {A = ℕ} 0 1 = cc in omega arith))
  by_tests false false false =
      kept_claim v room l s d ld (which n o) (answered (length (ids n l d))) (in_any_order (length (book_ids n l d)))
      (then_zeros (ids n l d)) (filled_up (book_ids n l d)) (ids-counted n l d)
      (filled_alike (ids n l d) (book_ids n l d) (ids-counted n l d) (ids_alike n l d)) (λ j e. e)
      (λ j k m g z. absurd (let q : ◌≡◌ {A = ℕ} 0 1 = cc in omega arith))

  pub which_agrees : Claim (perform (which n o) cat d) (book_which n o b)
  which_agrees =
      subst (λ x. Claim x (book_which n o b)) (sym (which_on_sound v room l s n o d))
      (rw (book_free_lem d l) (by_tests (eqb n 0) (not (eqb (length o) most_files)) (leb n (free_blocks l))))

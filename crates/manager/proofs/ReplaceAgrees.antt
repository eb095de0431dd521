-- A replacement on what stands agrees with the book: condition by condition, in the order of its checks. Assumes
-- nothing.
use mathlib.Core.Bool.{Bool, cond, false, not, true}
use mathlib.Core.List.{List, [], ◌∷◌, map}
use mathlib.Core.Path.{◌∙◌, ◌≡◌, ap, ap₂, refl, subst, sym}
use Prim.Native.Nat.{◌*◌, ◌+◌, ℕ}
use native.Mathlib.Omega.{arith}
use lib.Dec.{eqb, leb, ltb}
use lib.ListN.{length}
use borrow.Author.Tests.{eqb-false, leb-false, ltb-false}
use Rattle.catalogue.specs.Encoding.{encode}
use Rattle.catalogue.specs.Roomy.{Roomy}
use Rattle.catalogue.specs.declared.Version.{Version}
use Rattle.layout.specs.Layout.{File, Found, Layout, file_blocks, find_file, found, free_blocks, is_found, missing}
use Rattle.layout.specs.Sound.{Sound}
use Rattle.manager.proofs.Contents.{content_pages_lem, whole_unpaged}
use Rattle.manager.proofs.Lines.{line_with_lem, line_found, pages-length}
use Rattle.manager.proofs.OnSound.{replace_on_sound}
use Rattle.manager.proofs.ReplaceFromSound.{replaces}
use Rattle.manager.proofs.Standing.{book_free_lem, book_on}
use Rattle.manager.proofs.ChangeClaims.{replace_claim}
use Rattle.manager.proofs.Steps.{StepClaim, refused_claim}
use Rattle.manager.specs.Book.{Book, BookStep, any_number, book_free, book_pages, book_refuses}
use Rattle.manager.specs.BookLetters.{book_rank}
use Rattle.manager.specs.Book.{book_replace, book_replace_line, content_pages}
use Rattle.manager.specs.BookLetters.{counted_from, letter_on}
use Rattle.manager.specs.Book.{strike_line, write_line}
use Rattle.manager.specs.Call.{replace}
use Rattle.manager.specs.Conditions.{Outcome, condition, first_refusal, not_above, too_long, unless_refused}
use Rattle.manager.specs.Conditions.{unpaged, unranked}
use Rattle.manager.specs.Disk.{cut_pages, page_count, pages_on}
use Rattle.manager.specs.Outcomes.{remove_then_add, replace_outcome}
use Rattle.manager.specs.Table.{first_rank}
use Rattle.manager.specs.WholeList.{line_on}
use Rattle.quality.specs.Letters.{first_letter, rank_of}
use Rattle.section.specs.Limits.{block_size}

-- the book ranks the letter of a first page as the manager does
pub book_rank_lem : (ps : List (List ℕ)) → book_rank ps ≡ first_rank ps
unfolding book_rank counted_from letter_on rank_of first_letter
book_rank_lem [] = refl
book_rank_lem (p ∷ ps) = refl

module _ (v : Version) (room : Roomy v) (l : Layout) (s : Sound v.heights l) (d : List ℕ)
    (ld : length d ≡ block_size * l.blocks) (i : ℕ) (bs : List ℕ) where
  abbrev cat : List ℕ
  cat = encode v l

  abbrev b : Book
  b = book_on d l

  abbrev Claim : Outcome → BookStep → Type 0
  Claim o t = StepClaim v (replace i bs) cat d b o t

  -- the book's step at a line that is there, by what its tests say
  abbrev by_tests : Bool → Bool → Bool → Bool → BookStep
  by_tests t8 t12 t13 t11 =
      cond t8 (book_refuses 8 b [])
      (cond t12 (book_refuses 12 b [])
      (cond t13 (book_refuses 13 b [])
      (cond t11 (book_refuses 11 b [])
      (record {
        reply = any_number;
        book = record {
          blocks = l.blocks;
          lines =
              write_line (record { id = i; pages = content_pages bs }) (strike_line i (map (line_on d) l.files));
        };
        output = [];
      }))))

  module _ (least : eqb i 0 ≡ false) (f : File) (there : find_file i l.files ≡ found f) where
    abbrev new : ℕ
    new = first_rank (cut_pages (page_count bs) bs)

    abbrev stored : ℕ
    stored = first_rank (pages_on d f.pieces)

    by_conditions : (t8 : Bool) → unpaged bs ≡ t8 → (t12 : Bool) → eqb new 0 ≡ t12 → (t13 : Bool)
        → leb new stored ≡ t13 → (t11 : Bool) → ltb (free_blocks l + file_blocks f) (page_count bs) ≡ t11
        → Claim
        (unless_refused (first_refusal (condition 8 t8 ∷ condition 12 t12 ∷ condition 13 t13 ∷ condition 11 t11 ∷ []))
        cat d [] (remove_then_add i bs cat d))
        (by_tests t8 t12 t13 t11)
    unfolding first_refusal
    by_conditions true e8 t12 e12 t13 e13 t11 e11 = refused_claim v room l s d ld (replace i bs) 8
    by_conditions false e8 true e12 t13 e13 t11 e11 = refused_claim v room l s d ld (replace i bs) 12
    by_conditions false e8 false e12 true e13 t11 e11 = refused_claim v room l s d ld (replace i bs) 13
    by_conditions false e8 false e12 false e13 true e11 = refused_claim v room l s d ld (replace i bs) 11
    by_conditions false e8 false e12 false e13 false e11 =
        let nonzero = eqb-false i 0 least in
        let some = eqb-false new 0 e12 in
        replace_claim v room l s d ld i bs f (remove_then_add i bs cat d) there
        (replaces v room l s d i bs f (record {
          disk = ld;
          least = omega (arith, nonzero);
          there = there;
          paged = e8;
          ranked = omega (arith, some);
          above = leb-false new stored e13;
          fits = ltb-false (free_blocks l + file_blocks f) (page_count bs) e11;
        }))

    new-rank : book_rank (content_pages bs) ≡ new
    new-rank = ap book_rank (content_pages_lem bs) ∙ book_rank_lem (cut_pages (page_count bs) bs)

    abbrev asked : Outcome
    asked =
        unless_refused
        (first_refusal
        (condition 8 (unpaged bs) ∷ condition 12 (unranked bs) ∷ condition 13 (not_above bs d (found f))
        ∷ condition 11 (too_long bs l (found f)) ∷ []))
        cat d [] (remove_then_add i bs cat d)

    abbrev new_b : ℕ
    new_b = book_rank (content_pages bs)

    abbrev old_b : ℕ
    old_b = book_rank (pages_on d f.pieces)

    abbrev free_b : ℕ
    free_b = book_free b + length (pages_on d f.pieces)

    -- and by the book's own tests
    line_agrees : Claim asked (book_replace_line i bs b (line_found d (found f)))
    line_agrees =
        subst (λ t. Claim asked (by_tests t (eqb new_b 0) (leb new_b old_b) (ltb free_b (book_pages bs))))
        (sym (whole_unpaged bs))
        (subst (λ n. Claim asked (by_tests (unpaged bs) (eqb n 0) (leb n old_b) (ltb free_b (book_pages bs))))
        (sym new-rank)
        (subst (λ n. Claim asked (by_tests (unpaged bs) (eqb new 0) (leb new n) (ltb free_b (book_pages bs))))
        (sym (book_rank_lem (pages_on d f.pieces)))
        (subst (λ n. Claim asked (by_tests (unpaged bs) (eqb new 0) (leb new stored) (ltb n (page_count bs))))
        (sym (ap₂ (λ x y. x + y) (book_free_lem d l) (pages-length d f.pieces)))
        (by_conditions (unpaged bs) refl (eqb new 0) refl (leb new stored) refl
        (ltb (free_blocks l + file_blocks f) (page_count bs)) refl))))

  pub replace_agrees : Claim (replace_outcome i bs cat d) (book_replace i bs b)
  unfolding first_refusal
  replace_agrees =
      subst (λ o. Claim o (book_replace i bs b)) (sym (replace_on_sound v room l s d ld i bs))
      (rw (line_with_lem d i l.files) (go (eqb i 0) refl (find_file i l.files) refl))
    where
      go : (t5 : Bool) → eqb i 0 ≡ t5 → (x : Found) → find_file i l.files ≡ x
          → Claim
          (unless_refused
          (first_refusal
          (condition 5 t5 ∷ condition 6 (not (is_found x)) ∷ condition 8 (unpaged bs) ∷ condition 12 (unranked bs)
          ∷ condition 13 (not_above bs d x) ∷ condition 11 (too_long bs l x) ∷ []))
          cat d [] (remove_then_add i bs cat d))
          (cond t5 (book_refuses 5 b []) (book_replace_line i bs b (line_found d x)))
      go true e x e6 = refused_claim v room l s d ld (replace i bs) 5
      go false e missing e6 = refused_claim v room l s d ld (replace i bs) 6
      go false e (found f) e6 = line_agrees e f e6

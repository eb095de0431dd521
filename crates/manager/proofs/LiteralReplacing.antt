-- The refusals 8, 12, 13 and 11 of a replacement by literal numbers, when exactly each is given, and what is answered
-- if none is: on the catalogue of a sound layout with a disk of the right length, for the id of a file that is there,
-- however many files there are. Assumes nothing.
use mathlib.Core.List.{List, [], ◌∷◌}
use mathlib.Core.Logic.{◌↔◌}
use mathlib.Core.Path.{◌∙◌, ◌≡◌, ap, refl, subst, sym}
use Prim.Native.Nat.{◌*◌, ◌+◌, ◌<◌, ◌≤◌, ℕ}
use native.Mathlib.Omega.{arith}
use lib.ListN.{get_or, length}
use Rattle.catalogue.proofs.Versions.{reading_any}
use Rattle.catalogue.specs.Encoding.{Bytes}
use Rattle.layout.proofs.Finding.{find_file_lem, found_find}
use Rattle.layout.proofs.SoundPieces.{file_has_pieces}
use Rattle.layout.specs.Layout.{File, Layout, file_blocks, find_file, found, free_blocks}
use Rattle.layout.specs.Lists.{more}
use Rattle.layout.specs.Removing.{copies_of, removal}
use Rattle.manager.proofs.CanReplace.{replace_allowed}
use Rattle.manager.proofs.Catalogues.{encoded_bytes, one-layout}
use Rattle.manager.proofs.Contents.{length_paged}
use Rattle.manager.proofs.GivenFirst.{Clear, first_given, given_listed, gives-first}
use Rattle.manager.proofs.FirstPage.{content_letter, stored-letter}
use Rattle.manager.proofs.LiteralAnswers.{remove_answers}
use Rattle.manager.proofs.LiteralArguments.{NoPages, Pages, clear_found, pages-not}
use Rattle.manager.proofs.LiteralBuffers.{buffer_refusals}
use Rattle.manager.proofs.OnRead.{replace_on_read}
use Rattle.manager.specs.Call.{Call, replace}
use Rattle.manager.specs.Changes.{CanReplace, Gives}
use Rattle.manager.specs.Conditions.{Outcome, answered, unless_refused}
use Rattle.manager.specs.Disk.{cut_pages, page_count, pages_on}
use Rattle.manager.specs.Outcomes.{perform, remove_then_add}
use Rattle.manager.specs.Table.{CatalogueOf, GivenIf, blocks_found, buffer_length, first_rank, id_missing}
use Rattle.manager.specs.Table.{id_zero, letter_not_above, letter_unknown, no_space}
use Rattle.quality.proofs.LetterRanks.{above_rank, not_above_rank, outside_rank}
use Rattle.quality.specs.Letters.{rank_of}
use Rattle.quality.specs.Ranking.{Above, NotAbove, Outside}
use Rattle.section.specs.declared.Section.{Section}

-- a replacement never gives 10
pub replace_never_full : (cat d : List ℕ) → Bytes cat → (i : ℕ) (bs : List ℕ) → Gives cat d (replace i bs) 10 → ⊥
replace_never_full cat d bytes i bs e =
    let listed = given_listed cat d (replace i bs) bytes 10 e in let z : ◌≡◌ {A = ℕ} 0 1 = cc in omega arith

-- a file that is there has a first piece, and so a stored letter
pub first_piece : {cat : List ℕ} {l : Layout} → CatalogueOf cat l → (i : ℕ) (f : File)
    → find_file i l.files ≡ found f → (s : Section) × (ps : List Section) × (f.pieces ≡ s ∷ ps)
first_piece {l = l} h i f e =
    let x = found_find i l.files f e in
    go f.pieces (find_file_lem x.1 (file_has_pieces h.version.heights l h.rules))
  where
    go : (ss : List Section) → (ss ≡ [] → ⊥) → (s : Section) × (ps : List Section) × (ss ≡ s ∷ ps)
    go [] none = absurd (none refl)
    go (s ∷ ps) none = (s, ps, refl)

module _ {cat : List ℕ} {l : Layout} (h : CatalogueOf cat l) (d : List ℕ) (ld : length d ≡ 512 * l.blocks) (i : ℕ)
    (some : 1 ≤ i) (f : File) (e : find_file i l.files ≡ found f) (bs : List ℕ) where
  abbrev c : Call
  c = replace i bs

  -- 8 exactly if the content has another length than that of whole pages, or none
  pub replace_length_refused : Gives cat d (replace i bs) 8 ↔ NoPages bs
  replace_length_refused = (
    λ q. (first_given cat d c (encoded_bytes h) buffer_length q).given,
    λ wrong.
        gives-first cat d c (encoded_bytes h) buffer_length refl wrong (clear_found h d ld i some f e c refl) refl,
  )

  -- the id is that of the one file
  same_file : (m : Layout) → CatalogueOf cat m → (g : File) → find_file i m.files ≡ found g → g ≡ f
  same_file m k g q =
      let one : find_file i m.files ≡ find_file i l.files =
      ap (λ (x : Layout). find_file i x.files) (one-layout h m k) in
      cc

  module _ (k : ℕ) (pages : Pages k bs) where
    clear-length : Clear cat d c (buffer_length ∷ id_missing ∷ id_zero ∷ buffer_refusals)
    clear-length = more {a = buffer_length} (pages-not k bs pages) (clear_found h d ld i some f e c refl)

    whole : page_count bs ≡ k
    whole = (length_paged bs k pages.0 pages.1).1

    new-rank : first_rank (cut_pages (page_count bs) bs) ≡ rank_of (get_or bs 6 0)
    new-rank = ap rank_of (content_letter (page_count bs) bs (omega (arith, whole, pages.0)))

    -- of whole pages: 12 exactly if byte 6 of the content is none of R, D, Q, M, whatever k and the stored letter
    pub letter_unknown_refused : Gives cat d (replace i bs) 12 ↔ Outside (get_or bs 6 0)
    letter_unknown_refused = (
      λ q. (outside_rank (get_or bs 6 0)).1 (sym new-rank ∙ (first_given cat d c (encoded_bytes h) letter_unknown q).given),
      λ w.
          gives-first cat d c (encoded_bytes h) letter_unknown refl (new-rank ∙ (outside_rank (get_or bs 6 0)).0 w)
          clear-length refl,
    )

    clear_unknown : 1 ≤ rank_of (get_or bs 6 0)
        → Clear cat d c (letter_unknown ∷ buffer_length ∷ id_missing ∷ id_zero ∷ buffer_refusals)
    clear_unknown s = more {a = letter_unknown} (λ z. omega (arith, new-rank, s, z)) clear-length

    module _ (s : Section) (ps : List Section) (pieces : f.pieces ≡ s ∷ ps) where
      abbrev new : ℕ
      new = get_or bs 6 0

      abbrev stored : ℕ
      stored = get_or d (512 * s.first + 6) 0

      stored-rank : first_rank (pages_on d f.pieces) ≡ rank_of stored
      stored-rank = ap (λ x. first_rank (pages_on d x)) pieces ∙ ap rank_of (stored-letter d s ps)

      -- what 13 says of the letters
      not_above_lem : GivenIf letter_not_above c cat d ↔ (rank_of new ≤ rank_of stored)
      not_above_lem = (to, λ le. (l, h, f, e, omega (arith, new-rank, stored-rank, le)))
        where
          to : GivenIf letter_not_above c cat d → rank_of new ≤ rank_of stored
          to (m, k, g, q, le) =
              let rank = ap (λ (x : File). first_rank (pages_on d x.pieces)) (same_file m k g q) in
              omega (arith, new-rank, stored-rank, rank, le)

      -- 13 exactly if that byte is one of the four, and that of the stored first page the same or a later one,
      -- whatever k
      pub letter_not_above_refused : Gives cat d (replace i bs) 13
          ↔ NotAbove (get_or bs 6 0) (get_or d (512 * s.first + 6) 0)
      letter_not_above_refused = (to, from)
        where
          to : Gives cat d c 13 → NotAbove new stored
          to q =
              let w = first_given cat d c (encoded_bytes h) letter_not_above q in
              let known = w.first letter_unknown (omega arith) refl in
              let ranked : (rank_of new ≡ 0 → ⊥) = λ z. known (new-rank ∙ z) in
              (not_above_rank new stored).1 (omega (arith, ranked), not_above_lem.0 w.given)

          from : NotAbove new stored → Gives cat d c 13
          from x =
              let w = (not_above_rank new stored).0 x in
              gives-first cat d c (encoded_bytes h) letter_not_above refl (not_above_lem.1 w.1) (clear_unknown w.0)
              refl

      -- 11 exactly if that byte ranks above the stored one and the new n exceeds f plus the old n
      pub too_long_refused : Gives cat d (replace i bs) 11
          ↔ (Above (get_or bs 6 0) (get_or d (512 * s.first + 6) 0) × (free_blocks l + file_blocks f < k))
      too_long_refused = (to, from)
        where
          to : Gives cat d c 11 → Above new stored × (free_blocks l + file_blocks f < k)
          to q =
              let w = first_given cat d c (encoded_bytes h) no_space q in
              let above : (rank_of new ≤ rank_of stored → ⊥) =
              λ le. w.first letter_not_above (omega arith) refl (not_above_lem.1 le) in
              let long = subst (λ (m : Layout). free_blocks m + blocks_found (find_file i m.files) < page_count bs)
              (one-layout h w.given.0 w.given.1) w.given.2 in
              ((above_rank new stored).1 (omega (arith, above)), omega (arith, long, whole, ap blocks_found e))

          from : Above new stored × (free_blocks l + file_blocks f < k) → Gives cat d c 11
          from (x, long) =
              let w = (above_rank new stored).0 x in
              gives-first cat d c (encoded_bytes h) no_space refl
              (l, h, omega (arith, long, whole, ap blocks_found e))
              (more {a = letter_not_above} (λ y. omega (arith, w, not_above_lem.0 y)) (clear_unknown (omega (arith, w))))
              refl

      -- and otherwise the copies of the removal are answered
      pub replace_answers : Above (get_or bs 6 0) (get_or d (512 * s.first + 6) 0) → k ≤ free_blocks l + file_blocks f
          → (perform (replace i bs) cat d).reply ≡ answered (length (copies_of (removal 21 f l)))
      replace_answers x fits =
          let rd = (reading_any cat l (encoded_bytes h)).1 (h.version, h.known, h.encoded, h.rules) in
          let w = (above_rank new stored).0 x in
          let can : CanReplace l d i bs f = record {
            disk = ld;
            least = some;
            there = e;
            paged = (length_paged bs k pages.0 pages.1).0;
            ranked = omega (arith, new-rank, w);
            above = omega (arith, new-rank, stored-rank, w);
            fits = omega (arith, whole, fits);
          } in
          ap (λ (o : Outcome). o.reply)
          (replace_on_read cat l rd.0 rd.1 i bs d
          ∙ ap (λ j. unless_refused j cat d [] (remove_then_add i bs cat d)) (replace_allowed l d i bs f can))
          ∙ remove_answers h d ld i some f e

      -- also with 64 files there
      pub full_replace_answers : length l.files ≡ 64 → Above (get_or bs 6 0) (get_or d (512 * s.first + 6) 0)
          → k ≤ free_blocks l + file_blocks f
          → (perform (replace i bs) cat d).reply ≡ answered (length (copies_of (removal 21 f l)))
      full_replace_answers full = replace_answers

-- The refusals 5 to 11 of the calls by literal numbers, on the catalogue of a sound layout with a disk of the right
-- length: pages of 512 bytes, at most 64 files, ids to 65,535; and what adds and reads answer if none applies.
-- Assumes nothing.
use mathlib.Core.Bool.{Bool, false, not, true}
use mathlib.Core.List.{List, ◌∷◌}
use mathlib.Core.Logic.{◌⊎◌, inl, inr}
use mathlib.Core.Path.{◌∙◌, ◌≡◌, ap, refl, subst, sym}
use Prim.Native.Nat.{◌%◌, ◌*◌, ◌+◌, ◌<◌, ◌≤◌, ℕ}
use native.Mathlib.Omega.{arith}
use lib.ListN.{length}
use Rattle.catalogue.proofs.Roomy.{roomy}
use Rattle.layout.specs.Layout.{File, Layout, file_blocks, find_file, found, free_blocks, has_file, is_found}
use Rattle.layout.specs.Lists.{more}
use Rattle.manager.proofs.AddFromSound.{add_from_sound}
use Rattle.manager.proofs.Catalogues.{encoded_bytes, one-layout}
use Rattle.manager.proofs.Contents.{length_paged}
use Rattle.manager.proofs.Deciding.{Decides}
use Rattle.manager.proofs.GivenFirst.{Clear, covers_before, gives-first}
use Rattle.manager.proofs.LiteralBuffers.{buffer_refusals, clear_buffers}
use Rattle.manager.proofs.ReadBack.{read_from_sound}
use Rattle.manager.proofs.TableRows.{decides_no_file}
use Rattle.manager.specs.Arguments.{id_of}
use Rattle.manager.specs.Call.{Call, add, breaks, read, remove, replace}
use Rattle.manager.specs.Changes.{Gives}
use Rattle.manager.specs.Conditions.{Outcome, answered}
use Rattle.manager.specs.Outcomes.{add_outcome, perform, read_outcome}
use Rattle.manager.specs.Table.{By, CatalogueOf, NoFile, buffer_length, files_full, id_missing, id_there}
use Rattle.manager.specs.Table.{id_zero, no_space, numbers_of, past_end}

-- an id that no file has is not found
not_found : (i : ℕ) (l : Layout) → NoFile i l → has_file i l.files ≡ false
not_found i l none = go (has_file i l.files) (decides_no_file i l)
  where
    go : (b : Bool) → Decides (NoFile i l) (not b) → b ≡ false
    go false t = refl
    go true t = absurd (t.fails refl none)

-- empty, or no whole pages
abbrev pub NoPages : List ℕ → Type 0
NoPages bs = (length bs ≡ 0) ⊎ (length bs % 512 ≡ 0 → ⊥)

-- so many whole pages, at least one
abbrev pub Pages : ℕ → List ℕ → Type 0
Pages k bs = (1 ≤ k) × (length bs ≡ 512 * k)

pub pages-not : (k : ℕ) (bs : List ℕ) → Pages k bs → NoPages bs → ⊥
pages-not k bs (some, e) (inl z) = omega arith
pages-not k bs (some, e) (inr w) = w (omega arith)

module _ {cat : List ℕ} {l : Layout} (h : CatalogueOf cat l) (d : List ℕ) (ld : length d ≡ 512 * l.blocks) where
  -- id 0 gives 5 from add, remove, replace, read and breaks
  pub id_zero_refused : (p : ℕ) (bs o : List ℕ)
      → Gives cat d (add 0 bs) 5 × Gives cat d (remove 0) 5 × Gives cat d (replace 0 bs) 5
      × Gives cat d (read 0 p o) 5
      × Gives cat d (breaks 0) 5
  id_zero_refused p bs o = (
    zero (add 0 bs) refl refl refl,
    zero (remove 0) refl refl refl,
    zero (replace 0 bs) refl refl refl,
    zero (read 0 p o) refl refl refl,
    zero (breaks 0) refl refl refl,
  )
    where
      zero : (c : Call) → By id_zero c → id_of c ≡ 0 → covers_before 5 buffer_refusals (numbers_of c) ≡ true
          → Gives cat d c 5
      zero c by e = gives-first cat d c (encoded_bytes h) id_zero by e (clear_buffers h d ld c)

  module _ (i : ℕ) (some : 1 ≤ i) where
    clear-id : (c : Call) → id_of c ≡ i → Clear cat d c (id_zero ∷ buffer_refusals)
    clear-id c e = more {a = id_zero} (λ z. omega (arith, e, z, some)) (clear_buffers h d ld c)

    -- an id that no file has gives 6 from remove, replace, read and breaks
    pub missing_refused : NoFile i l → (p : ℕ) (bs o : List ℕ)
        → Gives cat d (remove i) 6 × Gives cat d (replace i bs) 6 × Gives cat d (read i p o) 6
        × Gives cat d (breaks i) 6
    missing_refused none p bs o = (
      refuses (remove i) refl refl none refl,
      refuses (replace i bs) refl refl none refl,
      refuses (read i p o) refl refl none refl,
      refuses (breaks i) refl refl none refl,
    )
      where
        refuses : (c : Call) → By id_missing c → id_of c ≡ i → NoFile (id_of c) l
            → covers_before 6 (id_zero ∷ buffer_refusals) (numbers_of c) ≡ true → Gives cat d c 6
        refuses c by e x = gives-first cat d c (encoded_bytes h) id_missing by (l, h, x) (clear-id c e)

    -- ---- adds

    module _ (bs : List ℕ) where
      -- an id that a file has gives 7
      pub there_refused : (NoFile i l → ⊥) → Gives cat d (add i bs) 7
      there_refused there =
          gives-first cat d (add i bs) (encoded_bytes h) id_there refl (l, h, there) (clear-id (add i bs) refl) refl

      module _ (fresh : NoFile i l) where
        clear_there : Clear cat d (add i bs) (id_there ∷ id_zero ∷ buffer_refusals)
        clear_there =
            more {a = id_there} (λ w. w.2 (subst (NoFile i) (sym (one-layout h w.0 w.1)) fresh))
            (clear-id (add i bs) refl)

        -- a content of another length than that of whole pages, or of none, gives 8
        pub add_length_refused : NoPages bs → Gives cat d (add i bs) 8
        add_length_refused wrong =
            gives-first cat d (add i bs) (encoded_bytes h) buffer_length refl wrong clear_there refl

        module _ (k : ℕ) (pages : Pages k bs) where
          clear-length : Clear cat d (add i bs) (buffer_length ∷ id_there ∷ id_zero ∷ buffer_refusals)
          clear-length = more {a = buffer_length} (pages-not k bs pages) clear_there

          -- with 64 files there one more gives 10
          pub full_refused : length l.files ≡ 64 → Gives cat d (add i bs) 10
          full_refused full =
              gives-first cat d (add i bs) (encoded_bytes h) files_full refl (l, h, omega (arith, full)) clear-length
              refl

          -- more pages than there are free blocks give 11
          pub no_space_refused : length l.files < 64 → free_blocks l < k → Gives cat d (add i bs) 11
          no_space_refused few long =
              gives-first cat d (add i bs) (encoded_bytes h) no_space refl (l, h, omega (arith, pages.1, long))
              (more {a = files_full}
              (λ w. let most = subst (λ (m : Layout). 64 ≤ length m.files) (one-layout h w.0 w.1) w.2 in
              omega (arith, most, few)) clear-length)
              refl

          -- and otherwise the number of pages is answered
          pub add_answers : i ≤ 65535 → length l.files < 64 → k ≤ free_blocks l
              → (perform (add i bs) cat d).reply ≡ answered k
          add_answers most few fits =
              let w = length_paged bs k pages.0 pages.1 in
              ap (λ x. (add_outcome i bs x d).reply) h.encoded
              ∙ ((add_from_sound h.version (roomy h.known) l h.rules d ld i bs some most
              (not_found i l fresh) w.0 few
              (subst (λ n. n ≤ free_blocks l) (sym w.1) fits)).reply
              ∙ ap answered w.1)

    -- ---- a file that is there, and its reads

    module _ (f : File) (e : find_file i l.files ≡ found f) where
      -- 6 does not apply
      pub clear_found : (c : Call) → id_of c ≡ i → Clear cat d c (id_missing ∷ id_zero ∷ buffer_refusals)
      clear_found c q =
          more {a = id_missing}
          (λ w. there (subst (NoFile i) (one-layout h w.0 w.1) (subst (λ j. NoFile j w.0) q w.2)))
          (clear-id c q)
        where
          there : NoFile i l → ⊥
          there none = let z = sym (not_found i l none) ∙ ap is_found e in let y : ◌≡◌ {A = ℕ} 0 1 = cc in omega arith

      module _ (p : ℕ) (o : List ℕ) where
        -- an output of another length than that of whole pages, or of none, gives 8
        pub read_length_refused : NoPages o → Gives cat d (read i p o) 8
        read_length_refused wrong =
            gives-first cat d (read i p o) (encoded_bytes h) buffer_length refl wrong (clear_found (read i p o) refl)
            refl

        module _ (k : ℕ) (pages : Pages k o) where
          -- a first page and a count that exceed n give 9
          pub past_end_refused : file_blocks f < p + k → Gives cat d (read i p o) 9
          past_end_refused far =
              gives-first cat d (read i p o) (encoded_bytes h) past_end refl
              (l, h, f, e, omega (arith, pages.1, far))
              (more {a = buffer_length} (pages-not k o pages) (clear_found (read i p o) refl)) refl

          -- and otherwise the count is answered
          pub read_answers : p + k ≤ file_blocks f → (perform (read i p o) cat d).reply ≡ answered k
          read_answers within =
              let w = length_paged o k pages.0 pages.1 in
              ap (λ x. (read_outcome i p o x d).reply) h.encoded
              ∙ (ap (λ (x : Outcome). x.reply)
              (read_from_sound h.version (roomy h.known) l h.rules d ld i p o f some e w.0
              (subst (λ n. p + n ≤ file_blocks f) (sym w.1) within))
              ∙ ap answered w.1)

-- Adding a content and then reading all of it gives the content, and an answered read keeps the output's length.
-- Assumes nothing.
use mathlib.Core.Bool.{◌||◌, false, not}
use mathlib.Core.List.{List, [], ◌∷◌, map}
use mathlib.Core.Path.{◌∙◌, ◌≡◌, ap, ap₂, refl, sym}
use Prim.Native.Nat.{◌%◌, ◌*◌, ◌+◌, ◌/◌, ◌<◌, ◌≤◌, suc, zero, ℕ}
use native.Mathlib.Omega.{arith}
use lib.Dec.{eqb}
use lib.ListN.{drop, length, length-drop, length-take, take}
use borrow.Author.Tests.{le-ltb, ne_eqb}
use Rattle.catalogue.specs.Encoding.{encode}
use Rattle.catalogue.specs.Roomy.{Roomy}
use Rattle.catalogue.specs.declared.Version.{Version}
use Rattle.layout.proofs.Finding.{find_each, found_find, found_inserted}
use Rattle.layout.proofs.Lists.{each_left}
use Rattle.layout.proofs.Occurs.{blocks_within}
use Rattle.layout.specs.Adding.{with_file}
use Rattle.layout.specs.Layout.{File, Layout, file_blocks, file_pieces, find_file, found, free_blocks, has_file}
use Rattle.layout.specs.Layout.{is_found}
use Rattle.layout.specs.Lists.{Each, done, more}
use Rattle.layout.specs.Sound.{Sound, greatest_id}
use Rattle.manager.proofs.AddFromSound.{add_from_sound}
use Rattle.manager.proofs.Blocks.{block-length}
use Rattle.manager.proofs.Contents.{cut_paged, join_length, paged_length, pages_joined}
use Rattle.manager.proofs.Judging.{none_applies}
use Rattle.manager.proofs.Lines.{pages-length}
use Rattle.manager.proofs.OnSound.{read_on_sound}
use Rattle.manager.proofs.Writing.{Paged}
use Rattle.manager.specs.Conditions.{Outcome, allowed, answered, beyond, condition, first_refusal, outcome}
use Rattle.manager.specs.Conditions.{read_checks, unless_refused, unpaged}
use Rattle.manager.specs.Disk.{block, cut_pages, join_pages, page_count, pages_on}
use Rattle.manager.specs.Outcomes.{add_outcome, read_found, read_outcome}
use Rattle.section.specs.Limits.{block_size, most_files}

take_all {ℓ} : {A : Type ℓ} (l : List A) → take (length l) (drop 0 l) ≡ l
take_all [] = refl
take_all (a ∷ l) = ap (λ z. a ∷ z) (take_all l)

pages_paged : (d : List ℕ) (c : ℕ) → length d ≡ block_size * c → {bs : List ℕ} → Each (λ b. b < c) bs
    → Paged (map (block d) bs)
pages_paged d c ld done = done
pages_paged d c ld (more {a = b} p e) = more {a = block d b} (block-length d b (omega arith)) (pages_paged d c ld e)

each_take {ℓ κ} : {A : Type ℓ} {P : A → Type κ} (n : ℕ) (l : List A) → Each P l → Each P (take n l)
each_take zero l e = done
each_take (suc n) [] e = done
each_take (suc n) (a ∷ l) (more p e) = more {a = a} p (each_take n l e)

each_drop {ℓ κ} : {A : Type ℓ} {P : A → Type κ} (n : ℕ) (l : List A) → Each P l → Each P (drop n l)
each_drop zero l e = e
each_drop (suc n) [] e = done
each_drop (suc n) (a ∷ l) (more p e) = each_drop n l e

module _ (v : Version) (room : Roomy v) (l : Layout) (s : Sound v.heights l) (d : List ℕ)
    (ld : length d ≡ block_size * l.blocks) where
  -- no condition of a read applies
  read_allowed : (i p : ℕ) (o : List ℕ) (f : File) → 1 ≤ i → find_file i l.files ≡ found f → unpaged o ≡ false
      → p + page_count o ≤ file_blocks f
      → first_refusal (read_checks i p o l) ≡ allowed
  read_allowed i p o f least e paged fits =
      none_applies
      (more {a = condition 5 (eqb i 0)} (ne_eqb i 0 (λ z. omega arith))
      (more {a = condition 6 (not (has_file i l.files))} (ap (λ x. not (is_found x)) e)
      (more {a = condition 8 (unpaged o)} paged
      (more {a = condition 9 (beyond (find_file i l.files) p (page_count o))}
      (ap (λ x. beyond x p (page_count o)) e ∙ le-ltb (file_blocks f) (p + page_count o) fits) done))))

  -- an answered read, from any sound catalogue
  pub read_from_sound : (i p : ℕ) (o : List ℕ) (f : File) → 1 ≤ i → find_file i l.files ≡ found f
      → unpaged o ≡ false → p + page_count o ≤ file_blocks f
      → read_outcome i p o (encode v l) d
      ≡ outcome (answered (page_count o)) (encode v l) d
      (join_pages (take (page_count o) (drop p (pages_on d f.pieces))))
  read_from_sound i p o f least e paged fits =
      read_on_sound v room l s d ld i p o
      ∙ ap₂ (λ j x. unless_refused j (encode v l) d o (read_found p o (encode v l) d x))
      (read_allowed i p o f least e paged fits) e

  file_paged : (i : ℕ) (f : File) → find_file i l.files ≡ found f → Paged (pages_on d f.pieces)
  unfolding pages_on
  file_paged i f e =
      let x = found_find i l.files f e in
      let on = (find_each x.1 (each_left (file_pieces l.files) l.free s.on_disk)).0 in
      pages_paged d l.blocks ld (blocks_within l.blocks on)

  -- the output keeps its length
  pub read_output_length : (i p : ℕ) (o : List ℕ) (f : File) → 1 ≤ i → find_file i l.files ≡ found f
      → unpaged o ≡ false → p + page_count o ≤ file_blocks f
      → length (read_outcome i p o (encode v l) d).output ≡ length o
  read_output_length i p o f least e paged fits =
      let ps = pages_on d f.pieces in
      let part = take (page_count o) (drop p ps) in
      let count : length part ≡ page_count o =
      length-take (page_count o) (drop p ps) ∙ omega (arith, length-drop p ps, pages-length d f.pieces) in
      ap (λ (x : Outcome). length x.output) (read_from_sound i p o f least e paged fits)
      ∙ (join_length (each_take (page_count o) (drop p ps) (each_drop p ps (file_paged i f e)))
      ∙ (ap (λ n. block_size * n) count ∙ (paged_length o paged).1))

-- adding a content and reading all of it gives it back
module _ (v : Version) (room : Roomy v) (l : Layout) (s : Sound v.heights l) (d : List ℕ)
    (ld : length d ≡ block_size * l.blocks)
    (i : ℕ) (bs : List ℕ) (least : 1 ≤ i) (most : i ≤ greatest_id) (fresh : has_file i l.files ≡ false)
    (paged : unpaged bs ≡ false)
    (few : length l.files < most_files) (fits : page_count bs ≤ free_blocks l) where
  pub read_back : (o : List ℕ) → length o ≡ length bs
      → (read_outcome i 0 o (add_outcome i bs (encode v l) d).catalogue
      (add_outcome i bs (encode v l) d).disk).output
      ≡ bs
  read_back o long =
      let a = add_from_sound v room l s d ld i bs least most fresh paged few fits in
      let m = with_file i a.pieces a.rest l in
      let f : File = record { id = i; pieces = a.pieces } in
      let found-new = found_inserted i a.pieces l.files fresh in
      let count : page_count o ≡ page_count bs = ap (λ n. n / block_size) long in
      let whole : unpaged o ≡ false = ap (λ n. eqb n 0 || not (eqb (n % block_size) 0)) long ∙ paged in
      let len : file_blocks f ≡ page_count bs =
      sym (pages-length (add_outcome i bs (encode v l) d).disk a.pieces)
      ∙ (ap length a.pages ∙ (cut_paged (page_count bs) bs (omega (arith, (paged_length bs paged).1))).1) in
      ap (λ z. (read_outcome i 0 o z (add_outcome i bs (encode v l) d).disk).output) a.catalogue
      ∙ (ap (λ (x : Outcome). x.output)
      (read_from_sound v room m a.sound_after (add_outcome i bs (encode v l) d).disk
      a.disk_length i 0 o f least found-new whole (omega (arith, len, count)))
      ∙ (ap (λ ps. join_pages (take (page_count o) (drop 0 ps))) a.pages
      ∙ (ap (λ n. join_pages (take n (drop 0 (cut_pages (page_count bs) bs))))
      (count ∙ sym (cut_paged (page_count bs) bs (omega (arith, (paged_length bs paged).1))).1)
      ∙ (ap join_pages (take_all (cut_pages (page_count bs) bs)) ∙ pages_joined bs paged))))

-- Each condition of a call decides its row of the table. Assumes nothing.
use mathlib.Core.Bool.{Bool, false, not, true}
use mathlib.Core.List.{List}
use mathlib.Core.Path.{◌≡◌, refl, subst, sym}
use Prim.Native.Nat.{◌%◌, ◌*◌, ◌+◌, ◌<◌, ◌≤◌, ℕ}
use native.Mathlib.Omega.{arith}
use lib.Dec.{leb}
use lib.ListN.{length}
use borrow.Author.Tests.{not-false, not-true}
use Rattle.layout.proofs.Finding.{find, find_file_lem, find_id, missing_none}
use Rattle.layout.specs.Layout.{File, Found, Layout, file_blocks, find_file, found, free_blocks, has_file, is_found}
use Rattle.layout.specs.Layout.{missing}
use Rattle.manager.proofs.Catalogues.{one-layout}
use Rattle.manager.proofs.Deciding.{Decides, decides_at_most, decides_below, decides_equal, decides_false}
use Rattle.manager.proofs.Deciding.{decides_not, decides_opposite, decides_or, decides_same}
use Rattle.manager.specs.Arguments.{Unpaged, buffer_of}
use Rattle.manager.specs.Call.{Call}
use Rattle.manager.specs.Conditions.{beyond, not_above, too_long, unpaged, wrong_disk}
use Rattle.manager.specs.Disk.{cut_pages, page_count, pages_on}
use Rattle.manager.specs.Table.{CatalogueOf, NoFile, blocks_found, first_rank, space_for}
use Rattle.section.specs.Limits.{block_size, most_files}

-- a file is found exactly if not every file has another id
pub decides_no_file : (i : ℕ) (l : Layout) → Decides (NoFile i l) (not (has_file i l.files))
decides_no_file i l = record {
  holds = λ e. missing_none i l.files (not-true (has_file i l.files) e);
  fails = λ e n. let x = find i l.files (not-false (has_file i l.files) e) in find_file_lem x.2 n (find_id x.2);
}

-- a statement about the file that is found, by a test that no missing file passes
decides_found : (P : File → Type 0) (t : Found → Bool) → ((f : File) → Decides (P f) (t (found f)))
    → t missing ≡ false → (x : Found) → Decides ((f : File) × (x ≡ found f) × P f) (t x)
decides_found P t each none (found f) =
    decides_same (λ p. (f, refl, p)) (λ w. subst P (same_file w.0 w.1) w.2) (each f)
  where
    same_file : (g : File) → found f ≡ found g → g ≡ f
    same_file g e = cc
decides_found P t each none missing =
    subst (Decides ((f : File) × (missing ≡ found f) × P f)) (sym none)
    (decides_false λ w. let e = w.1 in let z : ◌≡◌ {A = ℕ} 0 1 = cc in omega arith)

-- a content or an output that is empty or no multiple of a block
pub decides_unpaged : (bs : List ℕ) → Decides (Unpaged bs) (unpaged bs)
decides_unpaged bs =
    decides_or (decides_equal (length bs) 0) (decides_not (decides_equal (length bs % block_size) 0))

-- a content that exceeds f plus the n of a file that is there
pub decides_too_long : (bs : List ℕ) (l : Layout) (x : Found) → is_found x ≡ true
    → Decides (free_blocks l + blocks_found x < page_count bs) (too_long bs l x)
decides_too_long bs l (found f) e = decides_below (free_blocks l + file_blocks f) (page_count bs)
decides_too_long bs l missing e = absurd (let z : ◌≡◌ {A = ℕ} 0 1 = cc in omega arith)

module _ (cat d : List ℕ) (l : Layout) (h : CatalogueOf cat l) where
  -- a statement about the one layout that the catalogue encodes
  decides_layout : (P : Layout → Type 0) {b : Bool} → Decides (P l) b
      → Decides ((m : Layout) × CatalogueOf cat m × P m) b
  decides_layout P = decides_same (λ p. (l, h, p)) (λ w. subst P (one-layout h w.0 w.1) w.2)

  -- and about the file of an id in it
  decides_file : (i : ℕ) (P : File → Type 0) (t : Found → Bool) → ((f : File) → Decides (P f) (t (found f)))
      → t missing ≡ false
      → Decides ((m : Layout) × CatalogueOf cat m × (f : File) × (find_file i m.files ≡ found f) × P f)
      (t (find_file i l.files))
  decides_file i P t each none =
      decides_same (λ w. (w.0, w.1, w.2.0, w.2.1, w.2.2)) (λ w. (w.0, w.1, (w.2, w.3, w.4)))
      (decides_layout (λ m. (f : File) × (find_file i m.files ≡ found f) × P f)
      (decides_found P t each none (find_file i l.files)))

  pub disk-row : Decides ((m : Layout) × CatalogueOf cat m × (length d ≡ block_size * m.blocks → ⊥)) (wrong_disk l d)
  disk-row =
      decides_layout (λ m. length d ≡ block_size * m.blocks → ⊥)
      (decides_not (decides_equal (length d) (block_size * l.blocks)))

  pub missing_row : (i : ℕ) → Decides ((m : Layout) × CatalogueOf cat m × NoFile i m) (not (has_file i l.files))
  missing_row i = decides_layout (NoFile i) (decides_no_file i l)

  pub there_row : (i : ℕ) → Decides ((m : Layout) × CatalogueOf cat m × (NoFile i m → ⊥)) (has_file i l.files)
  there_row i = decides_layout (λ m. NoFile i m → ⊥) (decides_opposite (has_file i l.files) (decides_no_file i l))

  pub past_end_row : (i first count : ℕ)
      → Decides
      ((m : Layout) × CatalogueOf cat m × (f : File) × (find_file i m.files ≡ found f)
      × (file_blocks f < first + count))
      (beyond (find_file i l.files) first count)
  past_end_row i first count =
      decides_file i (λ f. file_blocks f < first + count) (λ x. beyond x first count)
      (λ f. decides_below (file_blocks f) (first + count)) refl

  pub full-row : Decides ((m : Layout) × CatalogueOf cat m × (most_files ≤ length m.files))
      (leb most_files (length l.files))
  full-row = decides_layout (λ m. most_files ≤ length m.files) (decides_at_most most_files (length l.files))

  pub space-row : (c : Call) {b : Bool} → Decides (space_for c l < page_count (buffer_of c)) b
      → Decides ((m : Layout) × CatalogueOf cat m × (space_for c m < page_count (buffer_of c))) b
  space-row c = decides_layout (λ m. space_for c m < page_count (buffer_of c))

  pub not_above_row : (i : ℕ) (bs : List ℕ)
      → Decides
      ((m : Layout) × CatalogueOf cat m × (f : File) × (find_file i m.files ≡ found f)
      × (first_rank (cut_pages (page_count bs) bs) ≤ first_rank (pages_on d f.pieces)))
      (not_above bs d (find_file i l.files))
  not_above_row i bs =
      decides_file i (λ f. first_rank (cut_pages (page_count bs) bs) ≤ first_rank (pages_on d f.pieces))
      (not_above bs d)
      (λ f. decides_at_most (first_rank (cut_pages (page_count bs) bs)) (first_rank (pages_on d f.pieces))) refl

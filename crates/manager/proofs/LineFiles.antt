-- What the claim says of the state after a list, line by line: each line's file, its pages and its pieces, the free
-- pieces, and every block. From any `Afterwards`: a weaker one proves less than this. Assumes nothing.
use mathlib.Core.List.{List}
use mathlib.Core.Path.{◌∙◌, ◌≡◌, ap, refl, subst, sym}
use Prim.Native.Nat.{◌%◌, ◌-◌, ◌/◌, ◌<◌, ◌^◌, ℕ}
use native.Mathlib.Omega.{arith}
use lib.ListN.{length}
use Rattle.catalogue.specs.declared.Version.{Version}
use Rattle.layout.proofs.Finding.{find_file_lem, found_find}
use Rattle.layout.specs.Layout.{File, Found, OnePiecePerOne, all_pieces, file_blocks, find_file, found, holds_block}
use Rattle.layout.specs.Layout.{missing, of_height}
use Rattle.layout.specs.Lists.{sum_of}
use Rattle.manager.proofs.Lines.{line_with_lem, line_found, pages-length}
use Rattle.manager.specs.Book.{Book, Line, line, line_with, pages_in_lines}
use Rattle.manager.specs.Disk.{pages_on}
use Rattle.manager.specs.Table.{CatalogueOf}
use Rattle.manager.specs.WholeList.{Afterwards, line_on}

module _ (v : Version) (cat d : List ℕ) (b : Book) (a : Afterwards v cat d b) where
  -- each line has a file of its id, whose blocks hold the line's pages in page order, as many as the line has, in one
  -- piece for each 1 of their number
  pub line_has_file : (i : ℕ) (x : Line) → line_with i b.lines ≡ line x
      → (f : File) × (find_file i a.layout.files ≡ found f) × (pages_on d f.pieces ≡ x.pages)
      × (file_blocks f ≡ length x.pages) × OnePiecePerOne (length x.pages) f.pieces
  line_has_file i x e =
      go (find_file i a.layout.files) refl
      (sym (line_with_lem d i a.layout.files) ∙ (ap (line_with i) a.lines ∙ e))
    where
      go : (y : Found) → find_file i a.layout.files ≡ y → line_found d y ≡ line x
          → (f : File) × (find_file i a.layout.files ≡ found f) × (pages_on d f.pieces ≡ x.pages)
          × (file_blocks f ≡ length x.pages) × OnePiecePerOne (length x.pages) f.pieces
      go missing q p = absurd (let z : ◌≡◌ {A = ℕ} 0 1 = cc in omega arith)
      go (found f) q p =
          let same : line_on d f ≡ x = cc in
          let pages : pages_on d f.pieces ≡ x.pages = ap (λ (y : Line). y.pages) same in
          let count : file_blocks f ≡ length x.pages = sym (pages-length d f.pieces) ∙ ap length pages in
          let ones = find_file_lem (found_find i a.layout.files f q).1 a.file_pieces in
          (f, q, pages, count, subst (λ n. OnePiecePerOne n f.pieces) count ones)

  -- of each height there is a free piece exactly if C less the pages in all lines has a 1 there
  pub free_has_ones : (h : ℕ) → sum_of (of_height h) a.layout.free
      ≡ (b.blocks - pages_in_lines b.lines) / 2 ^ h % 2
  free_has_ones h = a.free_pieces h

  -- every block of 512 bytes of the disk is in exactly one piece
  pub block_in_one_piece : (x : ℕ) → x < length d / 512 → sum_of (holds_block x) (all_pieces a.layout) ≡ 1
  block_in_one_piece x p = a.cover x (omega (arith, p, a.disk_length))

  -- the catalogue has the bytes of its version, and is that of a sound layout of the book's disk
  pub catalogue_sound : CatalogueOf cat a.layout × (a.layout.blocks ≡ b.blocks) × (length cat ≡ v.bytes)
  catalogue_sound = (a.catalogue, a.blocks, a.catalogue_length)

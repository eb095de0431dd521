-- What stands between two calls of a list: a sound catalogue, a disk of its length, and the book of its files'
-- lines. Assumes nothing.
use mathlib.Core.List.{List, map}
use mathlib.Core.Path.{◌∙◌, ◌≡◌, ap, refl, subst, sym}
use Prim.Native.Nat.{◌*◌, ◌-◌, ℕ}
use native.Mathlib.Omega.{arith}
use lib.ListN.{length}
use Rattle.catalogue.proofs.Size.{encode-bytes, encode-length}
use Rattle.catalogue.specs.Encoding.{encode}
use Rattle.catalogue.specs.declared.Version.{Version}
use Rattle.layout.proofs.Ranges.{in_range_inside}
use Rattle.layout.proofs.SoundPieces.{file_pieces_ones, free_pieces_ones, sound_fewest}
use Rattle.layout.specs.Divisions.{Fewest, lengths_of}
use Rattle.layout.specs.Layout.{Layout, OnePiecePerOne, free_blocks}
use Rattle.layout.specs.Sound.{Sound}
use Rattle.manager.proofs.Lines.{lines-blocks, pages_in_lines_lem}
use Rattle.manager.specs.Book.{Book, book_free}
use Rattle.manager.specs.WholeList.{Afterwards, line_on}
use Rattle.section.specs.Limits.{block_size}
use Rattle.manager.proofs.AllHeights.{all_heights}
use Rattle.catalogue.proofs.Roomy.{roomy}
use Rattle.catalogue.specs.Version.{OneOf, versions}

-- the book of a layout on a disk
abbrev pub book_on : List ℕ → Layout → Book
book_on d l = record { blocks = l.blocks; lines = map (line_on d) l.files }

pub record Standing (v : Version) (cat d : List ℕ) (b : Book) : Type 0 where
  pub layout : Layout
  pub encoded : cat ≡ encode v layout
  pub rules : Sound v.heights layout
  pub disk_length : length d ≡ block_size * layout.blocks
  pub book : b ≡ book_on d layout

-- the book's f is the catalogue's
pub book_free_lem : (d : List ℕ) (l : Layout) → book_free (book_on d l) ≡ free_blocks l
book_free_lem d l = ap (λ z. l.blocks - z) (pages_in_lines_lem d l.files)

module _ (v : Version) (known : OneOf v versions) where
  standing_on : (d : List ℕ) (l : Layout) → Sound v.heights l → length d ≡ block_size * l.blocks
      → Afterwards v (encode v l) d (book_on d l)
  standing_on d l s ld =
      let room = roomy known in
      let sums = all_heights v room l s in
      let fewest = sound_fewest v.heights l s in
      record {
        layout = l;
        catalogue_length = encode-length v room l s;
        catalogue_bytes = encode-bytes v l;
        catalogue = record { version = v; known = known; encoded = refl; rules = s };
        version = refl;
        blocks = refl;
        disk_length = ld;
        lines = refl;
        blocks_of_files = lines-blocks d l.files;
        file_pieces = file_pieces_ones v.heights l s;
        free_pieces =
            subst (λ n. OnePiecePerOne n l.free) (sym (book_free_lem d l)) (free_pieces_ones v.heights l s);
        file_fewest = fewest.files;
        free_fewest = subst (λ n. Fewest 2 n (lengths_of l.free)) (sym (book_free_lem d l)) fewest.free;
        cover = λ x p. sums.covers x ∙ in_range_inside x 0 l.blocks (omega arith) (omega arith);
      }

  -- all that is claimed afterwards
  pub standing_afterwards : (cat d : List ℕ) (b : Book) → Standing v cat d b → Afterwards v cat d b
  standing_afterwards cat d b t =
      subst (Afterwards v cat d) (sym t.book)
      (subst (λ z. Afterwards v z d (book_on d t.layout)) (sym t.encoded)
      (standing_on d t.layout t.rules t.disk_length))

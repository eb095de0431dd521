-- The quality letter of a file's first page: where its byte stands on the disk. Assumes nothing.
use mathlib.Core.List.{List, []}
use mathlib.Core.Path.{◌∙◌, ◌≡◌, ap, refl, sym}
use Prim.Native.Nat.{◌*◌, ◌+◌, ◌<◌, ◌≤◌, ℕ}
use native.Mathlib.Omega.{arith}
use lib.ListN.{drop, get_or, length}
use lib.Pow.{pow_pos}
use Rattle.blocks.proofs.DiskPieces.{piece_fits, piece_next, some_piece}
use Rattle.blocks.specs.DiskCode.{EntryFits}
use Rattle.layout.specs.Layout.{block_count}
use Rattle.manager.proofs.FirstPage.{first_page_byte}
use Rattle.manager.specs.Disk.{pages_on}
use Rattle.piece.specs.Packed.{no_piece, section_in, seen}
use Rattle.piece.specs.declared.Piece.{Piece}
use Rattle.quality.specs.Letters.{first_letter, letter_place}
use Rattle.section.specs.Limits.{block_size}
use Rattle.section.specs.declared.Section.{Section}
use Rattle.table.specs.Tables.{pieces_in}
use Rattle.table.specs.declared.Entry.{Entry}

module _ (d : List ℕ) (l : List Piece) (some : 1 ≤ block_count (seen l)) (a : ℕ)
    (at : a ≡ (section_in (get_or l 0 no_piece)).first) where
  abbrev first : Section
  first = section_in (get_or l 0 no_piece)

  -- it is among the bytes of the disk
  pub letter_on_disk : (e : Entry) → seen l ≡ pieces_in e → EntryFits (length d) e
      → block_size * a + letter_place < length d
  letter_on_disk e listed fits =
      omega (
        arith,
        (piece_fits l 0 (some_piece l some) first refl (length d) e listed fits).within,
        pow_pos first.height.value,
        at,
      )

  -- and is the letter of the pages
  pub letter_is : get_or d (block_size * a + letter_place) 0 ≡ first_letter (pages_on d (seen l))
  unfolding first_letter
  letter_is =
      ap (λ z. get_or d (block_size * z + letter_place) 0) at
      ∙ (sym (first_page_byte d first (drop 1 (seen l)) letter_place (omega arith))
      ∙ sym (ap (λ m. get_or (get_or (pages_on d m) 0 []) letter_place 0)
      (piece_next l 0 (some_piece l some) first refl)))

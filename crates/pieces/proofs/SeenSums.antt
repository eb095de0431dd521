-- The blocks of pieces: by their words they are those of the sections seen in them, and a file's are not too many.
-- Assumes nothing.
use Rattle.std.proofs.Common.{◌≡◌, ◌+◌, ◌*◌, ◌^◌, ◌≤◌, ◌∙◌, ap, refl, List, [], ◌∷◌, arith, length}
use Rattle.std.proofs.Math.Pow.{pow_mono}
use Rattle.std.specs.List.{sum_by}
use Rattle.std.proofs.lemmas.List.{length-take}
use Rattle.std.proofs.lemmas.List.Sums.{sum_by-cons}
use Rattle.section.specs.Limits.{greatest_height}
use Rattle.section.specs.declared.Section.{Section}
use Rattle.layout.specs.Layout.{block_count}
use Rattle.layout.specs.Lists.{Each, more}
use Rattle.piece.specs.Packed.{seen}
use Rattle.piece.specs.declared.Piece.{Piece}
use Rattle.piece_lists.specs.Few.{list_of, piece_places}
use Rattle.piece_lists.specs.declared.Pieces.{Pieces}
use Rattle.pieces.specs.Pieces.{Low, most_of_file, piece_blocks}

pub sum-seen : (l : List Piece) → sum_by piece_blocks l ≡ block_count (seen l)
unfolding seen
sum-seen [] = refl
sum-seen (p ∷ l) = sum_by-cons piece_blocks p l ∙ ap (λ n. piece_blocks p + n) (sum-seen l)

low-most : (l : List Section) → Each Low l → block_count l ≤ length l * 2 ^ greatest_height
low-most [] e = omega arith
low-most (s ∷ l) (more q e) = omega (arith, pow_mono q, low-most l e)

pub few-most : (p : Pieces) → p.count ≤ piece_places → Each Low (list_of p) → block_count (list_of p) ≤ most_of_file
unfolding list_of
few-most p h e = omega (arith, low-most (list_of p) e, length-take p.count (seen p.items))

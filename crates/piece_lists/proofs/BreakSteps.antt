-- The breaks of some pieces are those between each of them and the one after it. Assumes nothing.
use Rattle.std.proofs.Common.{◌≡◌, ◌+◌, ◌∙◌, ap, refl, List, [], ◌∷◌}
use Rattle.std.specs.List.{zip}
use Rattle.std.proofs.lemmas.List.Sums.{sum_by-cons}
use Rattle.layout.specs.Layout.{breaks_of}
use Rattle.piece.specs.Packed.{seen}
use Rattle.piece.specs.declared.Piece.{Piece}
use Rattle.piece_lists.specs.Few.{break_in, breaks_between}

pub breaks-between : (l : List Piece) → breaks_between l ≡ breaks_of (seen l)
unfolding seen breaks_of
breaks-between [] = refl
breaks-between (p ∷ []) = refl
breaks-between (p ∷ q ∷ l) =
    sum_by-cons break_in (p, q) (zip (q ∷ l) l) ∙ ap (λ n. break_in (p, q) + n) (breaks-between (q ∷ l))

-- One piece more laid for a new file. Assumes nothing.
use mathlib.Core.List.{List, [], ◌++◌, ◌∷◌}
use mathlib.Core.Path.{◌∙◌, ◌≡◌, ap}
use Prim.Native.Nat.{◌+◌, ◌<◌, ℕ}
use native.Mathlib.Numerals.{add-one}
use native.Mathlib.Omega.{arith}
use lib.ListN.{length, set, take}
use lib.Seq.{take-suc-set}
use Rattle.section.specs.declared.Section.{Section}
use Rattle.piece.proofs.Seen.{seen-length, seen-set}
use Rattle.piece.specs.Packed.{section_in, seen}
use Rattle.piece.specs.declared.Piece.{Piece}
use Rattle.piece_lists.specs.Few.{list_of}
use Rattle.piece_lists.specs.declared.Pieces.{Pieces}

pub pushed : (p : List Section) (m : ℕ) (s : Section) → m < length p
    → take (m + 1) (set p m s) ≡ take m p ++ (s ∷ [])
pushed p m s h = rw add-one (take-suc-set p m s h)

-- with what was drawn behind them
pub laid_more : (p : Pieces) (x : Piece) → p.count < length p.items
    → list_of (record { count = p.count + 1; items = set p.items p.count x }) ≡ list_of p ++ (section_in x ∷ [])
unfolding list_of
laid_more p x lt =
    ap (take (p.count + 1)) (seen-set p.items p.count x)
    ∙ pushed (seen p.items) p.count (section_in x) (omega (arith, seen-length p.items))

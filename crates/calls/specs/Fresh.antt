-- What the free pieces of a fresh disk are. Definitions only.
use Rattle.std.specs.Prelude.{◌≡◌, ◌≤◌, ℕ}
use Rattle.section.specs.Limits.{height_count}
use Rattle.layout.specs.Layout.{pieces_from}
use Rattle.piece_lists.specs.declared.Pieces.{Pieces}
use Rattle.piece_lists.specs.Few.{list_of, piece_places}

-- r has a piece for each 1 of c
pub record FreeFor (c : ℕ) (r : Pieces) : Type 0 where
  pub list : list_of r ≡ pieces_from height_count c 0
  pub most : r.count ≤ piece_places

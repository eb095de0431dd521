-- The pieces laid for a new file, and what allocating promises. Definitions only.
use Rattle.std.specs.Prelude.{IfSome, List, None, Option, Some, ◌≡◌, ◌≤◌}
use Rattle.layout.specs.Adding.{Allocated, allocated, too_few}
use Rattle.section.specs.declared.Section.{Section}
use Rattle.piece_lists.specs.Few.{list_of, piece_places}
use Rattle.free_pieces.specs.Free.{free_of}
use Rattle.free_pieces.specs.Taking.{Stocked}
use Rattle.free_pieces.specs.declared.Laid.{Laid}

abbrev pub laid_pieces : Laid → List Section
laid_pieces p = list_of p.pieces

-- the pieces and the free pieces that are left, if there were enough
abbrev pub allocated_of : Option Laid → Allocated
allocated_of (Some p) = allocated (laid_pieces p) (free_of p.free)
allocated_of None = too_few

-- r is what the definition allocates
pub record Allots (q : Allocated) (r : Option Laid) : Type 0 where
  pub meaning : allocated_of r ≡ q
  pub count : IfSome r (λ p. p.pieces.count ≤ piece_places)
  pub stocked : IfSome r (λ p. Stocked p.free)

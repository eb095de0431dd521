-- How the two free pieces to merge are found: their height, and what is taken at two places. Definitions only.
use Rattle.std.specs.Prelude.{Bool, List, MatchOption, Option, false, get_or, length, true, ℕ, ◌&&◌, ◌+◌, ◌<◌, ◌≡◌}
use Rattle.section.specs.declared.Section.{Section}
use Rattle.section.specs.Sections.{section}
use Rattle.layout.specs.Layout.{has_height}
use Rattle.layout.specs.Removing.{is_buddy_above}
use Rattle.piece.specs.Packed.{no_piece, section_in}
use Rattle.piece.specs.declared.Piece.{Piece}
use Rattle.piece_lists.specs.Places.{without_at}
use Rattle.free_pieces.specs.Free.{free_of}
use Rattle.free_pieces.specs.declared.Pair.{Pair}

-- the piece at place i has height h, and the next one is its buddy above it
abbrev pub has_buddy_next : ℕ → List Piece → ℕ → Bool
has_buddy_next h l i =
    has_height h (section_in (get_or l i no_piece))
    && is_buddy_above (section_in (get_or l i no_piece)) (section_in (get_or l (i + 1) no_piece))

-- r is the first place whose piece has height h and its buddy above it right behind it, if there is one
abbrev pub FirstBuddies : ℕ → List Piece → Option ℕ → Type 0
FirstBuddies h l r =
    MatchOption r ((k : ℕ) → k + 1 < length l → has_buddy_next h l k ≡ false)
    (λ i. (i + 1 < length l) × (has_buddy_next h l i ≡ true) × ((k : ℕ) → k < i → has_buddy_next h l k ≡ false))

-- r has the piece at place low of n free pieces, the one at place next of the others, and those that are left
pub record PairsAt (n : ℕ) (free : List Section) (low next : ℕ) (r : Pair) : Type 0 where
  pub lower : r.lower ≡ get_or free low (section 0 0)
  pub upper : r.upper ≡ get_or (without_at low free) next (section 0 0)
  pub others : free_of r.others ≡ without_at next (without_at low free)
  pub exact : length (free_of r.others) ≡ r.others.count
  pub less : r.others.count + 2 ≡ n

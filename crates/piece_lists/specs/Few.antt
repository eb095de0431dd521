-- Lists of few pieces, and what the functions on them promise. Definitions only.
use Rattle.std.specs.Prelude.{◌≡◌, List, ℕ, ◌≤◌, drop, length, take}
use Rattle.std.specs.List.{sum_by, zip}
use Rattle.section.specs.Limits.{height_count}
use Rattle.section.specs.declared.Section.{Section}
use Rattle.layout.specs.Layout.{break_between}
use Rattle.piece.specs.Packed.{section_in, seen}
use Rattle.piece.specs.declared.Piece.{Piece}
use Rattle.piece_lists.specs.declared.Pieces.{Pieces}

-- the places for a file's pieces, or for the free pieces of a sound layout: one for each height
abbrev pub piece_places : ℕ
piece_places = height_count

-- the pieces of a list
unfoldable pub list_of : Pieces → List Section
list_of p = take p.count (seen p.items)

-- 1 if the second piece does not start right after the first, else 0
abbrev pub break_in : Piece × Piece → ℕ
break_in z = break_between (section_in z.0) (section_in z.1)

-- the breaks between each of some pieces and the one after it
abbrev pub breaks_between : List Piece → ℕ
breaks_between l = sum_by break_in (zip l (drop 1 l))

-- r stands for the list l of n pieces, which are few
pub record ListsFew (n : ℕ) (l : List Section) (r : Pieces) : Type 0 where
  pub count : r.count ≡ n
  pub list : list_of r ≡ l
  pub exact : length l ≡ n
  pub few : n ≤ piece_places

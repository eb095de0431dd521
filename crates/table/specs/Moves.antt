-- Moving the pieces of a file: those that count are moved, the places past them are kept. Definitions only.
use Rattle.std.specs.Prelude.{Bool, List, ◌++◌, ℕ, drop, map, take}
use Rattle.layout.specs.Lists.{Each}
use Rattle.section.specs.Sections.{Addressable, is_inside, moved_into}
use Rattle.section.specs.declared.Section.{Section}
use Rattle.piece.specs.Packed.{piece_of, section_in}
use Rattle.piece.specs.declared.Piece.{Piece}
use Rattle.table.specs.Tables.{pieces_in}
use Rattle.table.specs.declared.Entry.{Entry}

-- the section lies inside b
abbrev pub lies_in : Section → Section → Bool
lies_in b s = is_inside s b

-- the first n items mapped, the others kept
abbrev pub map_first : {A : Type 0} → (A → A) → ℕ → List A → List A
map_first g n l = map g (take n l) ++ drop n l

-- a piece when what lies inside b has moved to the same distance inside u
unfoldable pub moved_piece : Section → Section → Piece → Piece
moved_piece b u p = piece_of (moved_into b u (section_in p))

-- a file when all that lies inside b has moved to the same distance inside u
abbrev pub moved_entry : Section → Section → Entry → Entry
moved_entry b u e = record {
  id = e.id;
  pieces = record {
    count = e.pieces.count;
    items = map_first (moved_piece b u) e.pieces.count e.pieces.items;
  };
}

-- what moving pieces from b to u asks for
pub record CanMove (b u : Section) (l : List Section) : Type 0 where
  pub from : Addressable b
  pub to : Addressable u
  pub pieces : Each Addressable l

abbrev pub PiecesServed : Entry → Type 0
PiecesServed e = Each Addressable (pieces_in e)

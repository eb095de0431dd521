-- The layouts of cases 3, 7, 8 and 11 of document 01, whose bytes and texts stand literally elsewhere. Pieces are in
-- page order, longest first. Definitions only.
use Rattle.std.specs.Prelude.{[], ◌∷◌}
use Rattle.layout.specs.Layout.{Layout}
use Rattle.section.specs.Sections.{section}

-- case 3: nothing but free (0,256) (256,4) (260,1)
abbrev pub case_three : Layout
case_three = record { blocks = 261; files = []; free = section 0 8 ∷ section 256 2 ∷ section 260 0 ∷ [] }

-- case 7: id 2 at (4,2), id 9 at (7,1), free (0,4) (6,1) (8,8)
abbrev pub case_seven : Layout
case_seven = record {
  blocks = 16;
  files = (record { id = 2; pieces = section 4 1 ∷ [] }) ∷ (record { id = 9; pieces = section 7 0 ∷ [] }) ∷ [];
  free = section 0 2 ∷ section 6 0 ∷ section 8 3 ∷ [];
}

-- case 8: id 2 at (4,2), id 5 at (0,2) (2,1), id 7 at (8,8) (6,2), id 9 at (3,1), nothing free
abbrev pub case_eight : Layout
case_eight = record {
  blocks = 16;
  files =
      (record { id = 2; pieces = section 4 1 ∷ [] })
      ∷ (record { id = 5; pieces = section 0 1 ∷ section 2 0 ∷ [] })
      ∷ (record { id = 7; pieces = section 8 3 ∷ section 6 1 ∷ [] })
      ∷ (record { id = 9; pieces = section 3 0 ∷ [] })
      ∷ [];
  free = [];
}

-- case 11 after the removal: id 2 at (0,4) (14,2) (13,1), id 3 at (8,4) (12,1), free (4,4)
abbrev pub case_eleven : Layout
case_eleven = record {
  blocks = 16;
  files =
      (record { id = 2; pieces = section 0 2 ∷ section 14 1 ∷ section 13 0 ∷ [] })
      ∷ (record { id = 3; pieces = section 8 2 ∷ section 12 0 ∷ [] })
      ∷ [];
  free = section 4 2 ∷ [];
}

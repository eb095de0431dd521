-- Breaks as rows of a table, written out by hand from document 02, W5: the pieces of a file in page order, the blocks
-- of its pages, its breaks, and the limit, the ones of n less one. Definitions only.
use Rattle.std.specs.Prelude.{List, [], ◌∷◌, ℕ}
use Rattle.section.specs.Sections.{section}
use Rattle.section.specs.declared.Section.{Section}

pub record Row : Type 0 where
  pub pieces : List Section
  pub blocks : List ℕ
  pub breaks : ℕ
  pub limit : ℕ

abbrev row : List Section → List ℕ → ℕ → ℕ → Row
row l bs n m = record { pieces = l; blocks = bs; breaks = n; limit = m }

abbrev pub break_rows : List Row
break_rows =
    -- no piece, and one
    row [] [] 0 0
    ∷ row (section 7 0 ∷ []) (7 ∷ []) 0 0
    ∷ row (section 4 2 ∷ []) (4 ∷ 5 ∷ 6 ∷ 7 ∷ []) 0 0
    -- case 4; case 8, id 7
    ∷ row (section 0 1 ∷ section 2 0 ∷ []) (0 ∷ 1 ∷ 2 ∷ []) 0 1
    ∷ row (section 8 3 ∷ section 6 1 ∷ []) (8 ∷ 9 ∷ 10 ∷ 11 ∷ 12 ∷ 13 ∷ 14 ∷ 15 ∷ 6 ∷ 7 ∷ []) 1 1
    -- case 11, id 2, before the removal and after it
    ∷ row (section 0 2 ∷ section 4 1 ∷ section 6 0 ∷ []) (0 ∷ 1 ∷ 2 ∷ 3 ∷ 4 ∷ 5 ∷ 6 ∷ []) 0 2
    ∷ row (section 0 2 ∷ section 14 1 ∷ section 13 0 ∷ []) (0 ∷ 1 ∷ 2 ∷ 3 ∷ 14 ∷ 15 ∷ 13 ∷ []) 2 2
    -- pieces that adjoin in block order, but not in page order
    ∷ row (section 4 1 ∷ section 3 0 ∷ []) (4 ∷ 5 ∷ 3 ∷ []) 1 1
    ∷ row (section 8 2 ∷ section 6 1 ∷ section 5 0 ∷ []) (8 ∷ 9 ∷ 10 ∷ 11 ∷ 6 ∷ 7 ∷ 5 ∷ []) 2 2
    -- a block between two pieces, and a piece that starts before the last one does
    ∷ row (section 0 1 ∷ section 3 0 ∷ []) (0 ∷ 1 ∷ 3 ∷ []) 1 1
    ∷ row (section 4 1 ∷ section 1 0 ∷ []) (4 ∷ 5 ∷ 1 ∷ []) 1 1
    -- of three pieces the first two adjoin, or the last two
    ∷ row (section 0 2 ∷ section 4 1 ∷ section 7 0 ∷ []) (0 ∷ 1 ∷ 2 ∷ 3 ∷ 4 ∷ 5 ∷ 7 ∷ []) 1 2
    ∷ row (section 0 2 ∷ section 8 1 ∷ section 10 0 ∷ []) (0 ∷ 1 ∷ 2 ∷ 3 ∷ 8 ∷ 9 ∷ 10 ∷ []) 1 2
    ∷ []

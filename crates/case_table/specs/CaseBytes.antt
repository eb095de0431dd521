-- The used bytes of the catalogues after cases 6 and 7 in both versions, written out by hand from documents 01 and 02.
-- Definitions only.
use Rattle.std.specs.Prelude.{List, [], ◌∷◌, ℕ}

-- the used bytes of the catalogue after case 6
abbrev pub used_in_six : List ℕ
used_in_six =
    -- version, C, number of files
    0 ∷ 1 ∷ 0 ∷ 16 ∷ 0 ∷ 3
    -- id 2, n, its pair
    ∷ 0 ∷ 2 ∷ 0 ∷ 2 ∷ 0 ∷ 4 ∷ 0 ∷ 2
    -- id 5, n, its pairs
    ∷ 0 ∷ 5 ∷ 0 ∷ 3 ∷ 0 ∷ 0 ∷ 0 ∷ 2 ∷ 0 ∷ 2 ∷ 0 ∷ 1
    -- id 9, n, its pair
    ∷ 0 ∷ 9 ∷ 0 ∷ 1 ∷ 0 ∷ 3 ∷ 0 ∷ 1
    -- the free pairs
    ∷ 0 ∷ 6 ∷ 0 ∷ 2
    ∷ 0 ∷ 8 ∷ 0 ∷ 8
    ∷ []

-- those of the large catalogue
abbrev pub used_in_large_six : List ℕ
used_in_large_six =
    -- version, C, number of files
    0 ∷ 2 ∷ 0 ∷ 0 ∷ 0 ∷ 16 ∷ 0 ∷ 3
    -- id 2, n, its pair
    ∷ 0 ∷ 2 ∷ 0 ∷ 0 ∷ 0 ∷ 2 ∷ 0 ∷ 0 ∷ 0 ∷ 4 ∷ 0 ∷ 0 ∷ 0 ∷ 2
    -- id 5, n, its pairs
    ∷ 0 ∷ 5 ∷ 0 ∷ 0 ∷ 0 ∷ 3 ∷ 0 ∷ 0 ∷ 0 ∷ 0 ∷ 0 ∷ 0 ∷ 0 ∷ 2 ∷ 0 ∷ 0 ∷ 0 ∷ 2 ∷ 0 ∷ 0 ∷ 0 ∷ 1
    -- id 9, n, its pair
    ∷ 0 ∷ 9 ∷ 0 ∷ 0 ∷ 0 ∷ 1 ∷ 0 ∷ 0 ∷ 0 ∷ 3 ∷ 0 ∷ 0 ∷ 0 ∷ 1
    -- the free pairs
    ∷ 0 ∷ 0 ∷ 0 ∷ 6 ∷ 0 ∷ 0 ∷ 0 ∷ 2
    ∷ 0 ∷ 0 ∷ 0 ∷ 8 ∷ 0 ∷ 0 ∷ 0 ∷ 8
    ∷ []

-- the used bytes of the catalogue after case 7
abbrev pub used_in_seven : List ℕ
used_in_seven =
    -- version, C, number of files
    0 ∷ 1 ∷ 0 ∷ 16 ∷ 0 ∷ 2
    -- id 2, n, its pair
    ∷ 0 ∷ 2 ∷ 0 ∷ 2 ∷ 0 ∷ 4 ∷ 0 ∷ 2
    -- id 9, n, its pair
    ∷ 0 ∷ 9 ∷ 0 ∷ 1 ∷ 0 ∷ 7 ∷ 0 ∷ 1
    -- the free pairs
    ∷ 0 ∷ 0 ∷ 0 ∷ 4
    ∷ 0 ∷ 6 ∷ 0 ∷ 1
    ∷ 0 ∷ 8 ∷ 0 ∷ 8
    ∷ []

-- those of the large catalogue
abbrev pub used_in_large_seven : List ℕ
used_in_large_seven =
    -- version, C, number of files
    0 ∷ 2 ∷ 0 ∷ 0 ∷ 0 ∷ 16 ∷ 0 ∷ 2
    -- id 2, n, its pair
    ∷ 0 ∷ 2 ∷ 0 ∷ 0 ∷ 0 ∷ 2 ∷ 0 ∷ 0 ∷ 0 ∷ 4 ∷ 0 ∷ 0 ∷ 0 ∷ 2
    -- id 9, n, its pair
    ∷ 0 ∷ 9 ∷ 0 ∷ 0 ∷ 0 ∷ 1 ∷ 0 ∷ 0 ∷ 0 ∷ 7 ∷ 0 ∷ 0 ∷ 0 ∷ 1
    -- the free pairs
    ∷ 0 ∷ 0 ∷ 0 ∷ 0 ∷ 0 ∷ 0 ∷ 0 ∷ 4
    ∷ 0 ∷ 0 ∷ 0 ∷ 6 ∷ 0 ∷ 0 ∷ 0 ∷ 1
    ∷ 0 ∷ 0 ∷ 0 ∷ 8 ∷ 0 ∷ 0 ∷ 0 ∷ 8
    ∷ []

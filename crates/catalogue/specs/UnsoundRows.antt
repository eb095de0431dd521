-- Catalogues that each break a rule of document 01, "The catalogue", as the fields after the version's number; the
-- same fields serve both versions. Where a rule can be broken alone, the row breaks no other. Definitions only.
use Rattle.std.specs.Prelude.{List, [], ◌++◌, ◌∷◌}
use Rattle.catalogue.specs.WrittenFields.{Field, entry, one_block_entries, row, short}

-- C and the number of files
abbrev pub header_rows : List (List Field)
header_rows =
    -- C is 0
    row 0 0 [] []
    -- 65 files
    ∷ row 65 65 (one_block_entries 65 1) []
    -- two entries and a number of files of 1
    ∷ row 2 1 (one_block_entries 2 1) []
    ∷ []

-- ids and n
abbrev pub entry_rows : List (List Field)
entry_rows =
    -- id 0
    row 4 1 (entry 0 1 ((0, 1) ∷ [])) ((1, 1) ∷ (2, 2) ∷ [])
    -- ids fall
    ∷ row 2 2 (entry 2 1 ((0, 1) ∷ []) ++ entry 1 1 ((1, 1) ∷ [])) []
    -- ids are equal
    ∷ row 2 2 (entry 1 1 ((0, 1) ∷ []) ++ entry 1 1 ((1, 1) ∷ [])) []
    -- n is 0, in the first file and in the last
    ∷ row 4 1 (entry 1 0 []) ((0, 4) ∷ [])
    ∷ row 4 2 (entry 1 4 ((0, 4) ∷ []) ++ entry 2 0 []) []
    -- the n sum to 5 of 4 blocks, so a block is shared
    ∷ row 4 2 (entry 1 4 ((0, 4) ∷ []) ++ entry 2 1 ((0, 1) ∷ [])) []
    -- the lengths of a file sum to 1 and n is 2: free pairs for C less 1, and for C less 2
    ∷ row 4 1 (entry 1 2 ((0, 1) ∷ [])) ((1, 1) ∷ (2, 2) ∷ [])
    ∷ row 4 1 (entry 1 2 ((0, 1) ∷ [])) ((2, 2) ∷ [])
    -- two pairs where n = 2 has one, of equal lengths
    ∷ row 4 1 (entry 1 2 ((0, 1) ∷ (1, 1) ∷ [])) ((2, 2) ∷ [])
    -- one pair where n = 3 has two
    ∷ row 4 1 (entry 1 3 ((0, 2) ∷ [])) ((3, 1) ∷ [])
    -- lengths in a file are equal
    ∷ row 4 1 (entry 1 3 ((0, 1) ∷ (1, 1) ∷ [])) ((2, 2) ∷ [])
    -- the pairs of a file are not by first block
    ∷ row 4 1 (entry 1 3 ((2, 1) ∷ (0, 2) ∷ [])) ((3, 1) ∷ [])
    ∷ []

-- each pair is a section of the disk
abbrev pub section_rows : List (List Field)
section_rows =
    -- a pair of a file ends past the disk, and one starts there
    row 3 1 (entry 1 2 ((2, 2) ∷ [])) ((0, 1) ∷ [])
    ∷ row 4 1 (entry 1 1 ((4, 1) ∷ [])) ((0, 1) ∷ (2, 2) ∷ [])
    -- a free pair ends past the disk
    ∷ row 3 1 (entry 1 1 ((0, 1) ∷ [])) ((2, 2) ∷ [])
    -- a pair of a file is not aligned, and a free one
    ∷ row 3 1 (entry 1 2 ((1, 2) ∷ [])) ((0, 1) ∷ [])
    ∷ row 3 1 (entry 1 1 ((0, 1) ∷ [])) ((1, 2) ∷ [])
    -- the length 5 of a file is no power of two, and a free one of 3, and one of 0
    ∷ row 6 1 (entry 1 6 ((0, 5) ∷ (5, 1) ∷ [])) []
    ∷ row 4 1 (entry 1 1 ((0, 1) ∷ [])) ((1, 3) ∷ (2, 0) ∷ [])
    ∷ row 1 1 (entry 1 1 ((0, 0) ∷ [])) []
    ∷ []

-- the free pairs
abbrev pub free_rows : List (List Field)
free_rows =
    -- not by first block
    row 4 1 (entry 1 1 ((0, 1) ∷ [])) ((2, 2) ∷ (1, 1) ∷ [])
    -- lengths are equal
    ∷ row 4 1 (entry 1 1 ((0, 1) ∷ [])) ((1, 1) ∷ (3, 1) ∷ [])
    -- distinct lengths sum to 3 and f is 5
    ∷ row 8 1 (entry 1 3 ((0, 2) ∷ (2, 1) ∷ [])) ((3, 1) ∷ (4, 2) ∷ [])
    -- one pair more than f has ones, and one fewer
    ∷ row 4 1 (entry 1 2 ((0, 2) ∷ [])) ((2, 1) ∷ (3, 1) ∷ [])
    ∷ row 4 1 (entry 1 1 ((0, 1) ∷ [])) ((2, 2) ∷ [])
    ∷ []

-- no two pairs share a block
abbrev pub shared_rows : List (List Field)
shared_rows =
    -- two files, and two with another between them
    row 4 2 (entry 1 2 ((0, 2) ∷ []) ++ entry 2 1 ((1, 1) ∷ [])) ((2, 1) ∷ [])
    ∷ row 4 3 (entry 1 2 ((0, 2) ∷ []) ++ (entry 2 1 ((2, 1) ∷ []) ++ entry 3 1 ((1, 1) ∷ []))) []
    -- two pairs of one file
    ∷ row 4 1 (entry 1 3 ((0, 2) ∷ (1, 1) ∷ [])) ((3, 1) ∷ [])
    -- a file and a free pair
    ∷ row 4 1 (entry 1 2 ((0, 2) ∷ [])) ((0, 2) ∷ [])
    -- two free pairs
    ∷ row 3 0 [] ((0, 2) ∷ (1, 1) ∷ [])
    ∷ []

-- the first byte after the free pairs is 1, and the second
abbrev pub end_rows : List (List Field)
end_rows =
    (row 4 0 [] ((0, 4) ∷ []) ++ (short 256 ∷ []))
    ∷ (row 4 0 [] ((0, 4) ∷ []) ++ (short 1 ∷ []))
    ∷ []

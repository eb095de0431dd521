-- Catalogues at the limits of the rules of document 01, as fields that hold in both versions, each with the layout
-- that it is read as. Definitions only.
use Rattle.std.specs.Prelude.{List, [], ◌++◌, ◌∷◌, ◌-◌, suc, zero, ℕ}
use Rattle.catalogue.specs.WrittenFields.{Field, entry, one_block_entries, row}
use Rattle.layout.specs.Layout.{File, Layout}
use Rattle.section.specs.Sections.{section}
use Rattle.section.specs.declared.Section.{Section}

abbrev pub file : ℕ → List Section → File
file i l = record { id = i; pieces = l }

abbrev pub layout : ℕ → List File → List Section → Layout
layout c files free = record { blocks = c; files = files; free = free }

-- the files of `one_block_entries`
abbrev one_block_files : ℕ → ℕ → List File
one_block_files zero i = []
one_block_files (suc k) i = file i (section (i - 1) 0 ∷ []) ∷ one_block_files k (suc i)

-- fields, and the layout that they are read as
abbrev pub sound_rows : List (List Field × Layout)
sound_rows =
    -- C = 1
    (row 1 0 [] ((0, 1) ∷ []), layout 1 [] (section 0 0 ∷ []))
    -- 64 files
    ∷ (row 64 64 (one_block_entries 64 1) [], layout 64 (one_block_files 64 1) [])
    -- the lowest id and the greatest, and n that sum to C
    ∷ (
      row 2 2 (entry 1 1 ((0, 1) ∷ []) ++ entry 65535 1 ((1, 1) ∷ [])) [],
      layout 2 (file 1 (section 0 0 ∷ []) ∷ file 65535 (section 1 0 ∷ []) ∷ []) [],
    )
    -- two pairs for n = 3, by first block: in page order the longer is first
    ∷ (
      row 4 1 (entry 1 3 ((0, 1) ∷ (2, 2) ∷ [])) ((1, 1) ∷ []),
      layout 4 (file 1 (section 2 1 ∷ section 0 0 ∷ []) ∷ []) (section 1 0 ∷ []),
    )
    -- a pair of a file up to the end of the disk
    ∷ (
      row 4 1 (entry 1 2 ((2, 2) ∷ [])) ((0, 2) ∷ []),
      layout 4 (file 1 (section 2 1 ∷ []) ∷ []) (section 0 1 ∷ []),
    )
    -- two free pairs for f = 5
    ∷ (
      row 8 1 (entry 1 3 ((0, 2) ∷ (2, 1) ∷ [])) ((3, 1) ∷ (4, 4) ∷ []),
      layout 8 (file 1 (section 0 1 ∷ section 2 0 ∷ []) ∷ []) (section 3 0 ∷ section 4 2 ∷ []),
    )
    ∷ []

-- Look-ups as rows of a table, written out by hand from document 02, W3: the files, the id sought, the file or none,
-- and the number of ids read. Definitions only.
use Rattle.std.specs.Prelude.{List, [], ◌∷◌, ℕ}
use Rattle.section.specs.Sections.{section}
use Rattle.layout.specs.Cases.{case_six, file, five, nine, singles, two}
use Rattle.layout.specs.Layout.{File, Found, found, missing}
use Rattle.layout.specs.LookingUp.{LookUp, look_up}

pub record Row : Type 0 where
  pub files : List File
  pub sought : ℕ
  pub given : LookUp

-- what the look-up of a row gives
abbrev pub looked_up : Row → LookUp
looked_up r = look_up r.sought r.files

-- these files, the id sought, the file or none, the number of ids read
abbrev row : List File → ℕ → Found → ℕ → Row
row fs i x n = record { files = fs; sought = i; given = record { file = x; ids_read = n } }

-- the files of case 6
abbrev three : List File
three = case_six.files

-- of the lowest id that a file can have
abbrev lowest : File
lowest = file 1 (section 0 0 ∷ [])

-- and of the greatest
abbrev greatest : File
greatest = file 65535 (section 1 0 ∷ [])

abbrev pub look_up_rows : List Row
look_up_rows =
    -- no file
    row [] 0 missing 0
    ∷ row [] 1 missing 0
    ∷ row [] 65535 missing 0
    -- below all
    ∷ row three 0 missing 1
    ∷ row three 1 missing 1
    -- equal to one, and between two
    ∷ row three 2 (found two) 1
    ∷ row three 3 missing 2
    ∷ row three 4 missing 2
    ∷ row three 5 (found five) 2
    ∷ row three 6 missing 3
    ∷ row three 8 missing 3
    ∷ row three 9 (found nine) 3
    -- above all
    ∷ row three 10 missing 3
    ∷ row three 65535 missing 3
    -- one file, and the two ids that are farthest apart
    ∷ row (five ∷ []) 4 missing 1
    ∷ row (five ∷ []) 5 (found five) 1
    ∷ row (five ∷ []) 6 missing 1
    ∷ row (lowest ∷ greatest ∷ []) 0 missing 1
    ∷ row (lowest ∷ greatest ∷ []) 1 (found lowest) 1
    ∷ row (lowest ∷ greatest ∷ []) 2 missing 2
    ∷ row (lowest ∷ greatest ∷ []) 65534 missing 2
    ∷ row (lowest ∷ greatest ∷ []) 65535 (found greatest) 2
    -- 64 files, of the ids 101 to 164
    ∷ row (singles 101 0 64) 0 missing 1
    ∷ row (singles 101 0 64) 100 missing 1
    ∷ row (singles 101 0 64) 101 (found (file 101 (section 0 0 ∷ []))) 1
    ∷ row (singles 101 0 64) 133 (found (file 133 (section 32 0 ∷ []))) 33
    ∷ row (singles 101 0 64) 164 (found (file 164 (section 63 0 ∷ []))) 64
    ∷ row (singles 101 0 64) 165 missing 64
    ∷ row (singles 101 0 64) 65535 missing 64
    ∷ []

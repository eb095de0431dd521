-- Which removals let n blocks in, as rows of tables written out by hand from document 02, W4: a layout, n and the ids;
-- and a layout and the blocks that the removal of each file copies. Definitions only.
use Rattle.std.specs.Prelude.{List, [], ◌++◌, ◌∷◌, map, ◌≡◌, ◌-◌, ◌^◌, ℕ}
use Rattle.section.specs.Sections.{section}
use Rattle.layout.specs.Cases.{case_six, disk, file, fresh, singles}
use Rattle.layout.specs.Helping.{copies_for, helping_ids}
use Rattle.layout.specs.Layout.{Layout}

-- ---- the disks

-- ids 1 to 4 of 3 blocks each and then id 6 of 2: f is 2
abbrev pub five_files : Layout
five_files =
    disk 16
    (file 1 (section 0 1 ∷ section 2 0 ∷ [])
    ∷ file 2 (section 4 1 ∷ section 3 0 ∷ [])
    ∷ file 3 (section 6 1 ∷ section 8 0 ∷ [])
    ∷ file 4 (section 10 1 ∷ section 9 0 ∷ [])
    ∷ file 6 (section 12 1 ∷ [])
    ∷ [])
    (section 14 1 ∷ [])

-- files of 1 to 5 blocks, three of equal copies and four: f is 7
abbrev pub eight_files : Layout
eight_files =
    disk 31
    (file 2 (section 20 1 ∷ [])
    ∷ file 3 (section 4 2 ∷ [])
    ∷ file 5 (section 28 1 ∷ section 30 0 ∷ [])
    ∷ file 6 (section 24 2 ∷ [])
    ∷ file 8 (section 0 2 ∷ section 23 0 ∷ [])
    ∷ file 10 (section 22 0 ∷ [])
    ∷ file 11 (section 16 0 ∷ [])
    ∷ file 12 (section 8 2 ∷ [])
    ∷ [])
    (section 12 2 ∷ section 17 0 ∷ section 18 1 ∷ [])

-- 64 files of one block each, and one free block: its buddy is that of the file 163
abbrev pub sixty_four : Layout
sixty_four = disk 65 (singles 101 0 63 ++ singles 164 64 1) (section 63 0 ∷ [])

-- one file of one block, and one that fills the disk
abbrev pub one_block : Layout
one_block = disk 2 (file 7 (section 0 0 ∷ []) ∷ []) (section 1 0 ∷ [])

abbrev pub filled : Layout
filled = disk 16 (file 65535 (section 0 4 ∷ []) ∷ []) []

-- no removal copies, and the ids do not rise
abbrev pub unordered : Layout
unordered =
    disk 4 (file 8 (section 0 0 ∷ []) ∷ file 3 (section 1 0 ∷ []) ∷ file 4 (section 2 1 ∷ []) ∷ []) []

-- no file
abbrev pub empty : Layout
empty = fresh 16 (section 0 4 ∷ [])

-- ---- the ids

pub record Row : Type 0 where
  pub layout : Layout
  pub blocks : ℕ
  pub ids : List ℕ

-- the ids that the definition gives for a row
abbrev pub ids_of : Row → List ℕ
ids_of r = helping_ids 13 r.blocks r.layout

-- this layout, n, the ids
abbrev row : Layout → ℕ → List ℕ → Row
row l n ids = record { layout = l; blocks = n; ids = ids }

-- the greatest n that a call can name
abbrev greatest : ℕ
greatest = 2 ^ 64 - 1

-- the rows give their ids
abbrev pub Gives : List Row → Type 0
Gives rows = map ids_of rows ≡ map (λ (r : Row). r.ids) rows

-- document 02's first disk; 10 is no more than f, and every file helps
abbrev pub case_six_rows : List Row
case_six_rows =
    row case_six 10 (2 ∷ 9 ∷ 5 ∷ [])
    ∷ row case_six 11 (2 ∷ 9 ∷ 5 ∷ [])
    ∷ row case_six 12 (2 ∷ 5 ∷ [])
    ∷ row case_six 13 (5 ∷ [])
    ∷ row case_six 14 []
    ∷ []

-- and its second
abbrev pub five_files_rows : List Row
five_files_rows =
    row five_files 3 (6 ∷ 1 ∷ 4 ∷ 2 ∷ 3 ∷ [])
    ∷ row five_files 4 (6 ∷ 1 ∷ 4 ∷ 2 ∷ 3 ∷ [])
    ∷ row five_files 5 (1 ∷ 4 ∷ 2 ∷ 3 ∷ [])
    ∷ row five_files 6 []
    ∷ []

-- three of 4 copies each, and four of 5
abbrev pub eight_files_rows : List Row
eight_files_rows =
    row eight_files 8 (12 ∷ 3 ∷ 6 ∷ 11 ∷ 2 ∷ 5 ∷ 8 ∷ 10 ∷ [])
    ∷ row eight_files 9 (12 ∷ 3 ∷ 6 ∷ 2 ∷ 5 ∷ 8 ∷ [])
    ∷ row eight_files 10 (12 ∷ 3 ∷ 6 ∷ 5 ∷ 8 ∷ [])
    ∷ row eight_files 11 (12 ∷ 3 ∷ 6 ∷ 8 ∷ [])
    ∷ row eight_files 12 (8 ∷ [])
    ∷ row eight_files 13 []
    ∷ []

-- one file, no file, more than any disk has, and files that do not stand by their ids
abbrev pub edge_rows : List Row
edge_rows =
    row one_block 2 (7 ∷ [])
    ∷ row one_block 3 []
    ∷ row filled 1 (65535 ∷ [])
    ∷ row filled 16 (65535 ∷ [])
    ∷ row filled 17 []
    ∷ row empty 16 []
    ∷ row empty 17 []
    ∷ row case_six 17 []
    ∷ row case_six 4097 []
    ∷ row case_six greatest []
    ∷ row five_files greatest []
    ∷ row filled greatest []
    ∷ row empty greatest []
    ∷ row unordered 1 (3 ∷ 4 ∷ 8 ∷ [])
    ∷ []

-- 64 files
abbrev pub sixty_four_rows : List Row
sixty_four_rows =
    row sixty_four 2
    (163 ∷ 101 ∷ 102 ∷ 103 ∷ 104 ∷ 105 ∷ 106 ∷ 107 ∷ 108 ∷ 109 ∷ 110 ∷ 111 ∷ 112 ∷ 113 ∷ 114 ∷ 115 ∷ 116 ∷ 117
    ∷ 118 ∷ 119 ∷ 120 ∷ 121 ∷ 122 ∷ 123 ∷ 124 ∷ 125 ∷ 126 ∷ 127 ∷ 128 ∷ 129 ∷ 130 ∷ 131 ∷ 132 ∷ 133 ∷ 134
    ∷ 135 ∷ 136 ∷ 137 ∷ 138 ∷ 139 ∷ 140 ∷ 141 ∷ 142 ∷ 143 ∷ 144 ∷ 145 ∷ 146 ∷ 147 ∷ 148 ∷ 149 ∷ 150 ∷ 151
    ∷ 152 ∷ 153 ∷ 154 ∷ 155 ∷ 156 ∷ 157 ∷ 158 ∷ 159 ∷ 160 ∷ 161 ∷ 162 ∷ 164 ∷ [])
    ∷ row sixty_four 3 []
    ∷ []

-- ---- the copied blocks

pub record CopiesRow : Type 0 where
  pub layout : Layout
  pub copies : List ℕ

-- the blocks that the removal of each file copies, in the files' order
abbrev pub copies_in : CopiesRow → List ℕ
copies_in r = map (copies_for 13 r.layout) r.layout.files

abbrev copies_row : Layout → List ℕ → CopiesRow
copies_row l c = record { layout = l; copies = c }

-- the rows give their copies
abbrev pub Copies : List CopiesRow → Type 0
Copies rows = map copies_in rows ≡ map (λ (r : CopiesRow). r.copies) rows

-- document 02's two disks
abbrev pub document_copies : List CopiesRow
document_copies = copies_row case_six (0 ∷ 1 ∷ 0 ∷ []) ∷ copies_row five_files (1 ∷ 2 ∷ 2 ∷ 1 ∷ 0 ∷ []) ∷ []

abbrev pub eight_files_copies : List CopiesRow
eight_files_copies = copies_row eight_files (5 ∷ 4 ∷ 5 ∷ 4 ∷ 5 ∷ 5 ∷ 4 ∷ 0 ∷ []) ∷ []

abbrev pub edge_copies : List CopiesRow
edge_copies =
    copies_row one_block (0 ∷ [])
    ∷ copies_row filled (0 ∷ [])
    ∷ copies_row unordered (0 ∷ 0 ∷ 0 ∷ [])
    ∷ copies_row empty []
    ∷ []

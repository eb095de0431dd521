-- What several rows of cases 4 to 11 share: their calls, their layouts and their files. Definitions only.
use Rattle.std.specs.Prelude.{List, [], ◌++◌, ◌∷◌}
use Rattle.case_table.specs.CaseRows.{FileSeen, content_of, file_seen, file_with, laid_out, pair_at}
use Rattle.layout.specs.Layout.{Layout}
use Rattle.manager.specs.Call.{Call, add, remove}

-- the add of case 4
abbrev pub up_to_four : List Call
up_to_four = add 5 (content_of 5 3) ∷ []

-- then that of case 5
abbrev pub up_to_five : List Call
up_to_five = up_to_four ++ add 9 (content_of 9 1) ∷ []

-- then that of case 6
abbrev pub up_to_six : List Call
up_to_six = up_to_five ++ add 2 (content_of 2 2) ∷ []

-- then the removal of case 7
abbrev pub up_to_seven : List Call
up_to_seven = up_to_six ++ remove 5 ∷ []

-- the layout of case 4
abbrev pub layout_four : Layout
layout_four = laid_out 16 (file_with 5 (pair_at 0 2 ∷ pair_at 2 1 ∷ []) ∷ []) (pair_at 3 1 ∷ pair_at 4 4 ∷ pair_at 8 8 ∷ [])

-- the layout of case 5
abbrev pub layout_five : Layout
layout_five =
    laid_out 16 (file_with 5 (pair_at 0 2 ∷ pair_at 2 1 ∷ []) ∷ file_with 9 (pair_at 3 1 ∷ []) ∷ [])
    (pair_at 4 4 ∷ pair_at 8 8 ∷ [])

-- the layout of case 6
abbrev pub layout_six : Layout
layout_six =
    laid_out 16
    (file_with 2 (pair_at 4 2 ∷ []) ∷ file_with 5 (pair_at 0 2 ∷ pair_at 2 1 ∷ []) ∷ file_with 9 (pair_at 3 1 ∷ []) ∷ [])
    (pair_at 6 2 ∷ pair_at 8 8 ∷ [])

-- the layout of case 7
abbrev pub layout_seven : Layout
layout_seven =
    laid_out 16 (file_with 2 (pair_at 4 2 ∷ []) ∷ file_with 9 (pair_at 7 1 ∷ []) ∷ [])
    (pair_at 0 4 ∷ pair_at 6 1 ∷ pair_at 8 8 ∷ [])

-- the layout of case 8
abbrev pub layout_eight : Layout
layout_eight =
    laid_out 16
    (file_with 2 (pair_at 4 2 ∷ []) ∷ file_with 5 (pair_at 0 2 ∷ pair_at 2 1 ∷ [])
    ∷ file_with 7 (pair_at 8 8 ∷ pair_at 6 2 ∷ []) ∷ file_with 9 (pair_at 3 1 ∷ [])
    ∷ []) []

-- the layout that case 11 starts from
abbrev pub layout_before_eleven : Layout
layout_before_eleven =
    laid_out 16
    (file_with 1 (pair_at 13 1 ∷ []) ∷ file_with 2 (pair_at 0 4 ∷ pair_at 4 2 ∷ pair_at 6 1 ∷ [])
    ∷ file_with 3 (pair_at 8 4 ∷ pair_at 12 1 ∷ []) ∷ [])
    (pair_at 7 1 ∷ pair_at 14 2 ∷ [])

-- id 2 in cases 6 to 8
abbrev pub file_two : FileSeen
file_two = file_seen 2 0 (4 ∷ 5 ∷ []) (32 ∷ 33 ∷ [])

-- id 5 in cases 4 to 6 and 8: its pieces adjoin
abbrev pub file_five : FileSeen
file_five = file_seen 5 0 (0 ∷ 1 ∷ 2 ∷ []) (80 ∷ 81 ∷ 82 ∷ [])

-- id 7 in case 8
abbrev pub file_seven : FileSeen
file_seven =
    file_seen 7 1 (8 ∷ 9 ∷ 10 ∷ 11 ∷ 12 ∷ 13 ∷ 14 ∷ 15 ∷ 6 ∷ 7 ∷ [])
    (112 ∷ 113 ∷ 114 ∷ 115 ∷ 116 ∷ 117 ∷ 118 ∷ 119 ∷ 120 ∷ 121 ∷ [])

-- id 9 in cases 5, 6 and 8
abbrev pub file_nine : FileSeen
file_nine = file_seen 9 0 (3 ∷ []) (144 ∷ [])

-- id 9 in case 7: its page was copied, and no block beside it
abbrev pub file_nine_moved : FileSeen
file_nine_moved = file_seen 9 0 (7 ∷ []) (144 ∷ [])

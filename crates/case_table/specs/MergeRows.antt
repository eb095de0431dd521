-- Removals beyond the cases of document 01, as rows of the table of cases, written out by hand: a page that is copied
-- twice, and free pieces in the buddy, whose blocks are not copied (document 02, W2). Definitions only.
use Rattle.std.specs.Prelude.{List, [], ◌∷◌}
use Rattle.layout.specs.Layout.{Layout}
use Rattle.case_table.specs.CaseRows.{Row, answer, copied, file_seen, file_with, given_layout, laid_out, pages_read}
use Rattle.case_table.specs.CaseRows.{pair_at, untouched}
use Rattle.manager.specs.Call.{read, remove}

-- the layout from which a removal copies a page twice
abbrev layout_before_twice : Layout
layout_before_twice =
    laid_out 8
    (file_with 1 (pair_at 2 1 ∷ []) ∷ file_with 2 (pair_at 0 1 ∷ []) ∷ file_with 3 (pair_at 4 2 ∷ pair_at 3 1 ∷ []) ∷ [])
    (pair_at 1 1 ∷ pair_at 6 2 ∷ [])

-- the layout with two free pieces apart from each other in the buddy of (0,8)
abbrev layout_before_apart : Layout
layout_before_apart =
    laid_out 24
    (file_with 1 (pair_at 16 8 ∷ []) ∷ file_with 2 (pair_at 10 2 ∷ pair_at 8 1 ∷ []) ∷ file_with 3 (pair_at 14 2 ∷ []) ∷ [])
    (pair_at 0 8 ∷ pair_at 9 1 ∷ pair_at 12 2 ∷ [])

abbrev pub merge_rows : List Row
merge_rows =
    -- a removal that copies a page twice, from block 0 to 2 and on to 6
    record {
      start = given_layout layout_before_twice;
      calls = remove 1 ∷ read 2 0 (untouched 1) ∷ [];
      replies = answer 3 ∷ pages_read 1 (0 ∷ []) ∷ [];
      copies = copied 0 2 ∷ copied 2 6 ∷ copied 3 7 ∷ [];
      layout =
          laid_out 8 (file_with 2 (pair_at 6 1 ∷ []) ∷ file_with 3 (pair_at 4 2 ∷ pair_at 7 1 ∷ []) ∷ [])
          (pair_at 0 4 ∷ []);
      files = file_seen 2 0 (6 ∷ []) (0 ∷ []) ∷ file_seen 3 1 (4 ∷ 5 ∷ 7 ∷ []) (4 ∷ 5 ∷ 3 ∷ []) ∷ [];
      disk = 0 ∷ 1 ∷ 0 ∷ 3 ∷ 4 ∷ 5 ∷ 0 ∷ 3 ∷ [];
    }
    -- 5 of the 8 blocks of the buddy are held, in three runs; 9, 12 and 13 are free, so 17, 20 and 21 keep their bytes
    ∷ record {
      start = given_layout layout_before_apart;
      calls = remove 1 ∷ read 2 0 (untouched 3) ∷ [];
      replies = answer 5 ∷ pages_read 3 (10 ∷ 11 ∷ 8 ∷ []) ∷ [];
      copies = copied 8 16 ∷ copied 10 18 ∷ copied 11 19 ∷ copied 14 22 ∷ copied 15 23 ∷ [];
      layout =
          laid_out 24 (file_with 2 (pair_at 18 2 ∷ pair_at 16 1 ∷ []) ∷ file_with 3 (pair_at 22 2 ∷ []) ∷ [])
          (pair_at 0 16 ∷ pair_at 17 1 ∷ pair_at 20 2 ∷ []);
      files = file_seen 2 1 (18 ∷ 19 ∷ 16 ∷ []) (10 ∷ 11 ∷ 8 ∷ []) ∷ file_seen 3 0 (22 ∷ 23 ∷ []) (14 ∷ 15 ∷ []) ∷ [];
      disk =
          0 ∷ 1 ∷ 2 ∷ 3 ∷ 4 ∷ 5 ∷ 6 ∷ 7 ∷ 8 ∷ 9 ∷ 10 ∷ 11 ∷ 12 ∷ 13 ∷ 14 ∷ 15 ∷ 8 ∷ 17 ∷ 10 ∷ 11 ∷ 20 ∷ 21 ∷ 14 ∷ 15
          ∷ [];
    }
    ∷ []

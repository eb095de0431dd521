-- Removals with two free buddies among the sections of a height, as rows of the table of cases, written out by hand
-- (document 02, W7): they are merged first, and nothing is copied for that; and one with three of which no two are
-- buddies, so that the two lowest are merged. Definitions only.
use Rattle.std.specs.Prelude.{List, [], ◌∷◌}
use Rattle.layout.specs.Layout.{Layout}
use Rattle.case_table.specs.CaseRows.{Row, answer, content_of, copied, file_seen, file_with, fresh_disk}
use Rattle.case_table.specs.CaseRows.{given_layout, laid_out, pages_read, pair_at, untouched}
use Rattle.manager.specs.Call.{add, read, remove}

-- the layout from which a removal copies more than if the two lowest were merged at each height
abbrev layout_before_dearer : Layout
layout_before_dearer =
    laid_out 28
    (file_with 1 (pair_at 0 8 ∷ pair_at 24 4 ∷ pair_at 22 2 ∷ pair_at 17 1 ∷ [])
    ∷ file_with 2 (pair_at 14 2 ∷ pair_at 16 1 ∷ [])
    ∷ file_with 3 (pair_at 8 4 ∷ pair_at 18 2 ∷ pair_at 12 1 ∷ []) ∷ [])
    (pair_at 13 1 ∷ pair_at 20 2 ∷ [])

-- the layout in which the two lowest are buddies
abbrev layout_before_lowest : Layout
layout_before_lowest =
    laid_out 8 (file_with 1 (pair_at 2 2 ∷ pair_at 4 1 ∷ []) ∷ file_with 2 (pair_at 6 2 ∷ []) ∷ [])
    (pair_at 0 2 ∷ pair_at 5 1 ∷ [])

-- the layout in which the two highest are buddies
abbrev layout_before_highest : Layout
layout_before_highest =
    laid_out 8
    (file_with 1 (pair_at 6 2 ∷ pair_at 2 1 ∷ []) ∷ file_with 2 (pair_at 1 1 ∷ []) ∷ file_with 3 (pair_at 3 1 ∷ []) ∷ [])
    (pair_at 0 1 ∷ pair_at 4 2 ∷ [])

-- the layout in which no two are buddies
abbrev layout_before_none : Layout
layout_before_none =
    laid_out 12
    (file_with 1 (pair_at 8 2 ∷ pair_at 2 1 ∷ []) ∷ file_with 2 (pair_at 1 1 ∷ []) ∷ file_with 3 (pair_at 3 1 ∷ [])
    ∷ file_with 4 (pair_at 6 2 ∷ []) ∷ file_with 5 (pair_at 10 2 ∷ [])
    ∷ [])
    (pair_at 0 1 ∷ pair_at 4 2 ∷ [])

abbrev pub buddy_rows : List Row
buddy_rows =
    -- of (0,2), (4,2) and (6,2) the last two are merged, and nothing is copied; the two lowest would take 2 copies
    record {
      start = fresh_disk 8;
      calls = add 1 (content_of 1 1) ∷ add 2 (content_of 2 2) ∷ add 3 (content_of 3 3) ∷ remove 1 ∷ remove 3 ∷ [];
      replies = answer 8 ∷ answer 1 ∷ answer 2 ∷ answer 3 ∷ answer 0 ∷ answer 0 ∷ [];
      copies = [];
      layout = laid_out 8 (file_with 2 (pair_at 2 2 ∷ []) ∷ []) (pair_at 0 2 ∷ pair_at 4 4 ∷ []);
      files = file_seen 2 0 (2 ∷ 3 ∷ []) (32 ∷ 33 ∷ []) ∷ [];
      disk = 16 ∷ 50 ∷ 32 ∷ 33 ∷ 48 ∷ 49 ∷ 255 ∷ 255 ∷ [];
    }
    -- of (12,2), (20,2) and (22,2) the last two are merged; the merges above take 11 copies in all, within the limit
    -- of 15, where the two lowest of each height would take 7
    ∷ record {
      start = given_layout layout_before_dearer;
      calls = remove 1 ∷ read 2 0 (untouched 3) ∷ [];
      replies = answer 11 ∷ pages_read 3 (14 ∷ 15 ∷ 16 ∷ []) ∷ [];
      copies =
          copied 12 17 ∷ copied 16 24 ∷ copied 17 25 ∷ copied 18 26 ∷ copied 19 27 ∷ copied 8 16 ∷ copied 9 17
          ∷ copied 10 18 ∷ copied 11 19 ∷ copied 14 22 ∷ copied 15 23 ∷ [];
      layout =
          laid_out 28
          (file_with 2 (pair_at 22 2 ∷ pair_at 24 1 ∷ [])
          ∷ file_with 3 (pair_at 16 4 ∷ pair_at 26 2 ∷ pair_at 25 1 ∷ []) ∷ [])
          (pair_at 0 16 ∷ pair_at 20 2 ∷ []);
      files =
          file_seen 2 0 (22 ∷ 23 ∷ 24 ∷ []) (14 ∷ 15 ∷ 16 ∷ [])
          ∷ file_seen 3 2 (16 ∷ 17 ∷ 18 ∷ 19 ∷ 26 ∷ 27 ∷ 25 ∷ []) (8 ∷ 9 ∷ 10 ∷ 11 ∷ 18 ∷ 19 ∷ 12 ∷ []) ∷ [];
      disk =
          0 ∷ 1 ∷ 2 ∷ 3 ∷ 4 ∷ 5 ∷ 6 ∷ 7 ∷ 8 ∷ 9 ∷ 10 ∷ 11 ∷ 12 ∷ 13 ∷ 14 ∷ 15 ∷ 8 ∷ 9 ∷ 10 ∷ 11 ∷ 20 ∷ 21 ∷ 14 ∷ 15
          ∷ 16 ∷ 12 ∷ 18 ∷ 19 ∷ [];
    }
    -- (4,1) and (5,1) are buddies, then of (0,2), (2,2) and (4,2) the first two: the lowest in each case
    ∷ record {
      start = given_layout layout_before_lowest;
      calls = remove 1 ∷ [];
      replies = answer 0 ∷ [];
      copies = [];
      layout = laid_out 8 (file_with 2 (pair_at 6 2 ∷ []) ∷ []) (pair_at 0 4 ∷ pair_at 4 2 ∷ []);
      files = file_seen 2 0 (6 ∷ 7 ∷ []) (6 ∷ 7 ∷ []) ∷ [];
      disk = 0 ∷ 1 ∷ 2 ∷ 3 ∷ 4 ∷ 5 ∷ 6 ∷ 7 ∷ [];
    }
    -- after 1 copy (0,2), (4,2) and (6,2) are free, of which the last two are merged
    ∷ record {
      start = given_layout layout_before_highest;
      calls = remove 1 ∷ [];
      replies = answer 1 ∷ [];
      copies = copied 1 2 ∷ [];
      layout =
          laid_out 8 (file_with 2 (pair_at 2 1 ∷ []) ∷ file_with 3 (pair_at 3 1 ∷ []) ∷ []) (pair_at 0 2 ∷ pair_at 4 4 ∷ []);
      files = file_seen 2 0 (2 ∷ []) (1 ∷ []) ∷ file_seen 3 0 (3 ∷ []) (3 ∷ []) ∷ [];
      disk = 0 ∷ 1 ∷ 1 ∷ 3 ∷ 4 ∷ 5 ∷ 6 ∷ 7 ∷ [];
    }
    -- after 1 copy (0,2), (4,2) and (8,2) are free: the first two are merged, by 2 copies
    ∷ record {
      start = given_layout layout_before_none;
      calls = remove 1 ∷ [];
      replies = answer 3 ∷ [];
      copies = copied 1 2 ∷ copied 2 4 ∷ copied 3 5 ∷ [];
      layout =
          laid_out 12
          (file_with 2 (pair_at 4 1 ∷ []) ∷ file_with 3 (pair_at 5 1 ∷ []) ∷ file_with 4 (pair_at 6 2 ∷ [])
          ∷ file_with 5 (pair_at 10 2 ∷ [])
          ∷ [])
          (pair_at 0 4 ∷ pair_at 8 2 ∷ []);
      files =
          file_seen 2 0 (4 ∷ []) (1 ∷ []) ∷ file_seen 3 0 (5 ∷ []) (3 ∷ []) ∷ file_seen 4 0 (6 ∷ 7 ∷ []) (6 ∷ 7 ∷ [])
          ∷ file_seen 5 0 (10 ∷ 11 ∷ []) (10 ∷ 11 ∷ []) ∷ [];
      disk = 0 ∷ 1 ∷ 1 ∷ 3 ∷ 1 ∷ 3 ∷ 6 ∷ 7 ∷ 8 ∷ 9 ∷ 10 ∷ 11 ∷ [];
    }
    ∷ []

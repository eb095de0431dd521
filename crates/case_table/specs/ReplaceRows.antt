-- Replacements as rows of a table of cases, written out by hand: document 02, W1, with the removals of W2 and W7. The
-- rows that start from a given layout have block x filled with the byte x. Definitions only.
use Rattle.std.specs.Prelude.{List, [], ◌++◌, ◌∷◌}
use Rattle.case_table.specs.CaseParts.{layout_before_eleven, layout_six}
use Rattle.case_table.specs.CaseRows.{FileSeen, Row, answer, blocks_of_bytes, content_of, copied, file_seen}
use Rattle.case_table.specs.CaseRows.{file_with, fresh_disk, given_layout, laid_out, pages_read, pair_at, refuse}
use Rattle.case_table.specs.CaseRows.{reviewed, untouched}
use Rattle.manager.specs.Call.{add, free, read, replace}

-- ---- case 6: id 5 at (0,2) (2,1), id 9 at (3,1), id 2 at (4,2), free (6,2) (8,8)

-- id 2 there, and id 9 after the removal of id 5, which copies 3 to 7 and leaves (0,4) (6,1) (8,8) free
abbrev two_kept : FileSeen
two_kept = file_seen 2 0 (4 ∷ 5 ∷ []) (4 ∷ 5 ∷ [])

abbrev nine_moved : FileSeen
nine_moved = file_seen 9 0 (7 ∷ []) (3 ∷ [])

abbrev case_six_rows : List Row
case_six_rows =
    -- as many blocks: two of (0,4), and (6,1); a letter outside the four is refused before
    record {
      start = given_layout layout_six;
      calls = replace 5 (reviewed 90 2) ∷ replace 5 (reviewed 68 2) ∷ read 5 1 (untouched 2) ∷ [];
      replies = refuse 12 ∷ answer 1 ∷ pages_read 2 (161 ∷ 162 ∷ []) ∷ [];
      copies = copied 3 7 ∷ [];
      layout =
          laid_out 16
          (file_with 2 (pair_at 4 2 ∷ []) ∷ file_with 5 (pair_at 0 2 ∷ pair_at 6 1 ∷ [])
          ∷ file_with 9 (pair_at 7 1 ∷ []) ∷ [])
          (pair_at 2 2 ∷ pair_at 8 8 ∷ []);
      files = two_kept ∷ file_seen 5 1 (0 ∷ 1 ∷ 6 ∷ []) (68 ∷ 161 ∷ 162 ∷ []) ∷ nine_moved ∷ [];
      disk = 68 ∷ 161 ∷ 2 ∷ 3 ∷ 4 ∷ 5 ∷ 162 ∷ 3 ∷ 8 ∷ 9 ∷ 10 ∷ 11 ∷ 12 ∷ 13 ∷ 14 ∷ 15 ∷ [];
    }
    -- more blocks: (0,4), and two of (8,8)
    ∷ record {
      start = given_layout layout_six;
      calls = replace 5 (reviewed 77 5) ∷ [];
      replies = answer 1 ∷ [];
      copies = copied 3 7 ∷ [];
      layout =
          laid_out 16
          (file_with 2 (pair_at 4 2 ∷ []) ∷ file_with 5 (pair_at 0 4 ∷ pair_at 8 2 ∷ [])
          ∷ file_with 9 (pair_at 7 1 ∷ []) ∷ [])
          (pair_at 6 1 ∷ pair_at 10 2 ∷ pair_at 12 4 ∷ []);
      files =
          two_kept ∷ file_seen 5 1 (0 ∷ 1 ∷ 2 ∷ 3 ∷ 8 ∷ 9 ∷ []) (77 ∷ 161 ∷ 162 ∷ 163 ∷ 164 ∷ 165 ∷ []) ∷ nine_moved ∷ [];
      disk = 77 ∷ 161 ∷ 162 ∷ 163 ∷ 4 ∷ 5 ∷ 6 ∷ 3 ∷ 164 ∷ 165 ∷ 10 ∷ 11 ∷ 12 ∷ 13 ∷ 14 ∷ 15 ∷ [];
    }
    -- fewer: (6,1)
    ∷ record {
      start = given_layout layout_six;
      calls = replace 5 (reviewed 81 0) ∷ [];
      replies = answer 1 ∷ [];
      copies = copied 3 7 ∷ [];
      layout =
          laid_out 16
          (file_with 2 (pair_at 4 2 ∷ []) ∷ file_with 5 (pair_at 6 1 ∷ []) ∷ file_with 9 (pair_at 7 1 ∷ []) ∷ [])
          (pair_at 0 4 ∷ pair_at 8 8 ∷ []);
      files = two_kept ∷ file_seen 5 0 (6 ∷ []) (81 ∷ []) ∷ nine_moved ∷ [];
      disk = 0 ∷ 1 ∷ 2 ∷ 3 ∷ 4 ∷ 5 ∷ 81 ∷ 3 ∷ 8 ∷ 9 ∷ 10 ∷ 11 ∷ 12 ∷ 13 ∷ 14 ∷ 15 ∷ [];
    }
    -- f is 10 and the old n 3: 14 blocks are one too many, and 13 leave nothing free
    ∷ record {
      start = given_layout layout_six;
      calls = replace 5 (reviewed 82 13) ∷ replace 5 (reviewed 82 12) ∷ free ∷ [];
      replies = refuse 11 ∷ answer 1 ∷ answer 0 ∷ [];
      copies = copied 3 7 ∷ [];
      layout =
          laid_out 16
          (file_with 2 (pair_at 4 2 ∷ []) ∷ file_with 5 (pair_at 8 8 ∷ pair_at 0 4 ∷ pair_at 6 1 ∷ [])
          ∷ file_with 9 (pair_at 7 1 ∷ []) ∷ [])
          [];
      files =
          two_kept
          ∷ file_seen 5 2 (8 ∷ 9 ∷ 10 ∷ 11 ∷ 12 ∷ 13 ∷ 14 ∷ 15 ∷ 0 ∷ 1 ∷ 2 ∷ 3 ∷ 6 ∷ [])
          (82 ∷ 161 ∷ 162 ∷ 163 ∷ 164 ∷ 165 ∷ 166 ∷ 167 ∷ 168 ∷ 169 ∷ 170 ∷ 171 ∷ 172 ∷ [])
          ∷ nine_moved ∷ [];
      disk =
          168 ∷ 169 ∷ 170 ∷ 171 ∷ 4 ∷ 5 ∷ 172 ∷ 3 ∷ 82 ∷ 161 ∷ 162 ∷ 163 ∷ 164 ∷ 165 ∷ 166 ∷ 167 ∷ [];
    }
    ∷ []

-- ---- case 11: id 1 at (13,1), id 2 at (0,4) (4,2) (6,1), id 3 at (8,4) (12,1), free (7,1) (14,2)

abbrev case_eleven_rows : List Row
case_eleven_rows =
    -- the removal of id 1 copies 3 blocks and leaves (4,4) free; f is 3 and the old n 1: 5 blocks are one too many,
    -- and 4 leave nothing free
    record {
      start = given_layout layout_before_eleven;
      calls = replace 1 (reviewed 82 4) ∷ replace 1 (reviewed 82 3) ∷ read 2 0 (untouched 7) ∷ [];
      replies = refuse 11 ∷ answer 3 ∷ pages_read 7 (0 ∷ 1 ∷ 2 ∷ 3 ∷ 4 ∷ 5 ∷ 6 ∷ []) ∷ [];
      copies = copied 6 13 ∷ copied 4 14 ∷ copied 5 15 ∷ [];
      layout =
          laid_out 16
          (file_with 1 (pair_at 4 4 ∷ []) ∷ file_with 2 (pair_at 0 4 ∷ pair_at 14 2 ∷ pair_at 13 1 ∷ [])
          ∷ file_with 3 (pair_at 8 4 ∷ pair_at 12 1 ∷ []) ∷ [])
          [];
      files =
          file_seen 1 0 (4 ∷ 5 ∷ 6 ∷ 7 ∷ []) (82 ∷ 161 ∷ 162 ∷ 163 ∷ [])
          ∷ file_seen 2 2 (0 ∷ 1 ∷ 2 ∷ 3 ∷ 14 ∷ 15 ∷ 13 ∷ []) (0 ∷ 1 ∷ 2 ∷ 3 ∷ 4 ∷ 5 ∷ 6 ∷ [])
          ∷ file_seen 3 0 (8 ∷ 9 ∷ 10 ∷ 11 ∷ 12 ∷ []) (8 ∷ 9 ∷ 10 ∷ 11 ∷ 12 ∷ []) ∷ [];
      disk = 0 ∷ 1 ∷ 2 ∷ 3 ∷ 82 ∷ 161 ∷ 162 ∷ 163 ∷ 8 ∷ 9 ∷ 10 ∷ 11 ∷ 12 ∷ 6 ∷ 4 ∷ 5 ∷ [];
    }
    ∷ []

-- ---- letters

abbrev letter_rows : List Row
letter_rows =
    -- id 2 at (2,2) (1,1): its first page, with R, is block 2, and its last, with Q, the block of its first pair; D
    -- ranks above R
    record {
      start = fresh_disk 4;
      calls = add 1 (content_of 1 1) ∷ add 2 (blocks_of_bytes (82 ∷ 33 ∷ 81 ∷ [])) ∷ replace 2 (reviewed 68 0) ∷ [];
      replies = answer 4 ∷ answer 1 ∷ answer 3 ∷ answer 0 ∷ [];
      copies = [];
      layout = laid_out 4 (file_with 1 (pair_at 0 1 ∷ []) ∷ file_with 2 (pair_at 1 1 ∷ []) ∷ []) (pair_at 2 2 ∷ []);
      files = file_seen 1 0 (0 ∷ []) (16 ∷ []) ∷ file_seen 2 0 (1 ∷ []) (68 ∷ []) ∷ [];
      disk = 16 ∷ 68 ∷ 82 ∷ 33 ∷ [];
    }
    -- the letters the other way round: D does not rank above Q
    ∷ record {
      start = fresh_disk 4;
      calls = add 1 (content_of 1 1) ∷ add 2 (blocks_of_bytes (81 ∷ 33 ∷ 82 ∷ [])) ∷ replace 2 (reviewed 68 0) ∷ [];
      replies = answer 4 ∷ answer 1 ∷ answer 3 ∷ refuse 13 ∷ [];
      copies = [];
      layout =
          laid_out 4 (file_with 1 (pair_at 0 1 ∷ []) ∷ file_with 2 (pair_at 2 2 ∷ pair_at 1 1 ∷ []) ∷ []) [];
      files = file_seen 1 0 (0 ∷ []) (16 ∷ []) ∷ file_seen 2 1 (2 ∷ 3 ∷ 1 ∷ []) (81 ∷ 33 ∷ 82 ∷ []) ∷ [];
      disk = 16 ∷ 82 ∷ 81 ∷ 33 ∷ [];
    }
    -- 12 before 13 and 11, 13 before 11, equal letters too, and 11; then two blocks, which fill the disk, and one
    ∷ record {
      start = fresh_disk 2;
      calls =
          add 1 (blocks_of_bytes (68 ∷ []))
          ∷ replace 1 (reviewed 90 2)
          ∷ replace 1 (reviewed 82 2)
          ∷ replace 1 (reviewed 68 2)
          ∷ replace 1 (reviewed 81 2)
          ∷ replace 1 (reviewed 81 1)
          ∷ free
          ∷ replace 1 (reviewed 77 0)
          ∷ [];
      replies =
          answer 2 ∷ answer 1 ∷ refuse 12 ∷ refuse 13 ∷ refuse 13 ∷ refuse 11 ∷ answer 0 ∷ answer 0 ∷ answer 0 ∷ [];
      copies = [];
      layout = laid_out 2 (file_with 1 (pair_at 0 1 ∷ []) ∷ []) (pair_at 1 1 ∷ []);
      files = file_seen 1 0 (0 ∷ []) (77 ∷ []) ∷ [];
      disk = 77 ∷ 161 ∷ [];
    }
    ∷ []

-- the rows that are computed with the large catalogue too
abbrev pub large_rows : List Row
large_rows = case_eleven_rows ++ letter_rows

-- all rows
abbrev pub replace_rows : List Row
replace_rows = case_six_rows ++ large_rows

-- Cases 1 to 11 of document 01, "Small disks by hand", as one table, written by hand, with the copies of document 02,
-- W2, and the breaks of W5; then reads of parts, calls that are refused, the removals of `merge_rows` and `buddy_rows`,
-- and the lengths of `length_rows`. `cases_hold` of `Cases` computes all rows together. Definitions only.
use Rattle.std.specs.Prelude.{List, [], ◌++◌, ◌∷◌, replicate}
use Rattle.case_table.specs.CaseParts.{file_five, file_nine, file_nine_moved, file_seven, file_two}
use Rattle.case_table.specs.CaseParts.{layout_before_eleven, layout_eight, layout_five, layout_four, layout_seven}
use Rattle.case_table.specs.CaseParts.{layout_six, up_to_five, up_to_four, up_to_seven, up_to_six}
use Rattle.case_table.specs.CaseRows.{Row, answer, as_before, content_of, copied, file_seen, file_with, fresh_disk}
use Rattle.case_table.specs.CaseRows.{given_layout, laid_out, pages_read, pair_at, read_refused, refuse, untouched}
use Rattle.case_table.specs.CaseRows.{unwritten}
use Rattle.case_table.specs.BuddyRows.{buddy_rows}
use Rattle.case_table.specs.LengthRows.{length_rows}
use Rattle.case_table.specs.MergeRows.{merge_rows}
use Rattle.manager.specs.Call.{add, breaks, check, free, read, remove, replace}

-- all rows
abbrev pub case_table : List Row
case_table =
    -- case 1
    record {
      start = fresh_disk 1;
      calls = [];
      replies = answer 1 ∷ [];
      copies = [];
      layout = laid_out 1 [] (pair_at 0 1 ∷ []);
      files = [];
      disk = as_before 1;
    }
    -- case 2
    ∷ record {
      start = fresh_disk 5;
      calls = [];
      replies = answer 5 ∷ [];
      copies = [];
      layout = laid_out 5 [] (pair_at 0 4 ∷ pair_at 4 1 ∷ []);
      files = [];
      disk = as_before 5;
    }
    -- case 3
    ∷ record {
      start = fresh_disk 261;
      calls = [];
      replies = answer 261 ∷ [];
      copies = [];
      layout = laid_out 261 [] (pair_at 0 256 ∷ pair_at 256 4 ∷ pair_at 260 1 ∷ []);
      files = [];
      disk = as_before 261;
    }
    -- case 4
    ∷ record {
      start = fresh_disk 16;
      calls = up_to_four;
      replies = answer 16 ∷ answer 3 ∷ [];
      copies = [];
      layout = layout_four;
      files = file_five ∷ [];
      disk = 80 ∷ 81 ∷ 82 ∷ as_before 13;
    }
    -- case 5
    ∷ record {
      start = fresh_disk 16;
      calls = up_to_five;
      replies = answer 16 ∷ answer 3 ∷ answer 1 ∷ [];
      copies = [];
      layout = layout_five;
      files = file_five ∷ file_nine ∷ [];
      disk = 80 ∷ 81 ∷ 82 ∷ 144 ∷ as_before 12;
    }
    -- case 6
    ∷ record {
      start = fresh_disk 16;
      calls = up_to_six;
      replies = answer 16 ∷ answer 3 ∷ answer 1 ∷ answer 2 ∷ [];
      copies = [];
      layout = layout_six;
      files = file_two ∷ file_five ∷ file_nine ∷ [];
      disk = 80 ∷ 81 ∷ 82 ∷ 144 ∷ 32 ∷ 33 ∷ as_before 10;
    }
    -- case 7
    ∷ record {
      start = fresh_disk 16;
      calls = up_to_seven;
      replies = answer 16 ∷ answer 3 ∷ answer 1 ∷ answer 2 ∷ answer 1 ∷ [];
      copies = copied 3 7 ∷ [];
      layout = layout_seven;
      files = file_two ∷ file_nine_moved ∷ [];
      disk = 80 ∷ 81 ∷ 82 ∷ 144 ∷ 32 ∷ 33 ∷ 255 ∷ 144 ∷ as_before 8;
    }
    -- case 8, and a read of two pages that lie in two pieces
    ∷ record {
      start = fresh_disk 16;
      calls = up_to_six ++ (add 7 (content_of 7 10) ∷ read 7 7 (untouched 2) ∷ []);
      replies = answer 16 ∷ answer 3 ∷ answer 1 ∷ answer 2 ∷ answer 10 ∷ pages_read 2 (119 ∷ 120 ∷ []) ∷ [];
      copies = [];
      layout = layout_eight;
      files = file_two ∷ file_five ∷ file_seven ∷ file_nine ∷ [];
      disk = 80 ∷ 81 ∷ 82 ∷ 144 ∷ 32 ∷ 33 ∷ 120 ∷ 121 ∷ 112 ∷ 113 ∷ 114 ∷ 115 ∷ 116 ∷ 117 ∷ 118 ∷ 119 ∷ [];
    }
    -- case 8, refused
    ∷ record {
      start = fresh_disk 16;
      calls = up_to_six ++ add 7 (content_of 7 11) ∷ [];
      replies = answer 16 ∷ answer 3 ∷ answer 1 ∷ answer 2 ∷ refuse 11 ∷ [];
      copies = [];
      layout = layout_six;
      files = file_two ∷ file_five ∷ file_nine ∷ [];
      disk = 80 ∷ 81 ∷ 82 ∷ 144 ∷ 32 ∷ 33 ∷ as_before 10;
    }
    -- case 9
    ∷ record {
      start = fresh_disk 2;
      calls = add 1 (content_of 1 1) ∷ remove 1 ∷ [];
      replies = answer 2 ∷ answer 1 ∷ answer 0 ∷ [];
      copies = [];
      layout = laid_out 2 [] (pair_at 0 2 ∷ []);
      files = [];
      disk = 16 ∷ as_before 1;
    }
    -- case 10
    ∷ record {
      start = fresh_disk 5;
      calls = add 1 (content_of 1 1) ∷ add 2 (content_of 2 1) ∷ remove 1 ∷ [];
      replies = answer 5 ∷ answer 1 ∷ answer 1 ∷ answer 1 ∷ [];
      copies = copied 0 4 ∷ [];
      layout = laid_out 5 (file_with 2 (pair_at 4 1 ∷ []) ∷ []) (pair_at 0 4 ∷ []);
      files = file_seen 2 0 (4 ∷ []) (32 ∷ []) ∷ [];
      disk = 32 ∷ 255 ∷ 255 ∷ 255 ∷ 32 ∷ [];
    }
    -- case 11, with the breaks of id 2 before and after the removal, and a read of the whole of it: blocks 0 to 3, 14,
    -- 15, 13, with what was in 0 to 6
    ∷ record {
      start = given_layout layout_before_eleven;
      calls = breaks 2 ∷ remove 1 ∷ breaks 2 ∷ read 2 0 (untouched 7) ∷ [];
      replies = answer 0 ∷ answer 3 ∷ answer 2 ∷ pages_read 7 (0 ∷ 1 ∷ 2 ∷ 3 ∷ 4 ∷ 5 ∷ 6 ∷ []) ∷ [];
      copies = copied 6 13 ∷ copied 4 14 ∷ copied 5 15 ∷ [];
      layout =
          laid_out 16
          (file_with 2 (pair_at 0 4 ∷ pair_at 14 2 ∷ pair_at 13 1 ∷ []) ∷ file_with 3 (pair_at 8 4 ∷ pair_at 12 1 ∷ [])
          ∷ [])
          (pair_at 4 4 ∷ []);
      files =
          file_seen 2 2 (0 ∷ 1 ∷ 2 ∷ 3 ∷ 14 ∷ 15 ∷ 13 ∷ []) (0 ∷ 1 ∷ 2 ∷ 3 ∷ 4 ∷ 5 ∷ 6 ∷ [])
          ∷ file_seen 3 0 (8 ∷ 9 ∷ 10 ∷ 11 ∷ 12 ∷ []) (8 ∷ 9 ∷ 10 ∷ 11 ∷ 12 ∷ []) ∷ [];
      disk = 0 ∷ 1 ∷ 2 ∷ 3 ∷ 4 ∷ 5 ∷ 6 ∷ 7 ∷ 8 ∷ 9 ∷ 10 ∷ 11 ∷ 12 ∷ 6 ∷ 4 ∷ 5 ∷ [];
    }
    -- case 4 with reads of parts
    ∷ record {
      start = fresh_disk 16;
      calls = up_to_four ++ (read 5 0 (untouched 3) ∷ read 5 1 (untouched 2) ∷ read 5 2 (untouched 1) ∷ []);
      replies =
          answer 16 ∷ answer 3 ∷ pages_read 3 (80 ∷ 81 ∷ 82 ∷ []) ∷ pages_read 2 (81 ∷ 82 ∷ [])
          ∷ pages_read 1 (82 ∷ []) ∷ [];
      copies = [];
      layout = layout_four;
      files = file_five ∷ [];
      disk = 80 ∷ 81 ∷ 82 ∷ as_before 13;
    }
    -- case 4 with reads that are refused
    ∷ record {
      start = fresh_disk 16;
      calls =
          up_to_four
          ++ (read 5 2 (untouched 2) ∷ read 5 4 (untouched 1) ∷ read 5 4 [] ∷ read 5 4 (unwritten 513)
          ∷ read 9 0 [] ∷ read 0 0 [] ∷ []);
      replies =
          answer 16 ∷ answer 3 ∷ read_refused 9 1024 ∷ read_refused 9 512 ∷ read_refused 8 0 ∷ read_refused 8 513
          ∷ read_refused 6 0 ∷ read_refused 5 0 ∷ [];
      copies = [];
      layout = layout_four;
      files = file_five ∷ [];
      disk = 80 ∷ 81 ∷ 82 ∷ as_before 13;
    }
    -- case 7, then breaks, free and check, and other calls that are refused; the last removal copies nothing
    ∷ record {
      start = fresh_disk 16;
      calls =
          up_to_seven
          ++ (breaks 9 ∷ free ∷ check ∷ add 0 [] ∷ add 9 [] ∷ add 3 [] ∷ add 3 (replicate 511 48)
          ∷ add 3 (content_of 3 14) ∷ breaks 0 ∷ breaks 5 ∷ replace 0 [] ∷ replace 5 [] ∷ replace 9 []
          ∷ replace 9 (content_of 3 1) ∷ remove 0 ∷ remove 5 ∷ []);
      replies =
          answer 16 ∷ answer 3 ∷ answer 1 ∷ answer 2 ∷ answer 1 ∷ answer 0 ∷ answer 13 ∷ answer 16 ∷ refuse 5
          ∷ refuse 7 ∷ refuse 8 ∷ refuse 8 ∷ refuse 11 ∷ refuse 5 ∷ refuse 6 ∷ refuse 5 ∷ refuse 6 ∷ refuse 8
          ∷ refuse 12 ∷ refuse 5 ∷ refuse 6 ∷ [];
      copies = [];
      layout = layout_seven;
      files = file_two ∷ file_nine_moved ∷ [];
      disk = 80 ∷ 81 ∷ 82 ∷ 144 ∷ 32 ∷ 33 ∷ 255 ∷ 144 ∷ as_before 8;
    }
    ∷ merge_rows ++ (buddy_rows ++ length_rows)

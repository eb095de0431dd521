-- Contents and outputs of literal lengths, one byte off on both sides of one and of two blocks, as rows of the table
-- of cases, written out by hand. Definitions only.
use Rattle.std.specs.Prelude.{List, [], ◌∷◌, replicate}
use Rattle.case_table.specs.CaseRows.{Row, answer, file_seen, file_with, fresh_disk, laid_out, pages_read, pair_at}
use Rattle.case_table.specs.CaseRows.{read_refused, refuse, unwritten}
use Rattle.manager.specs.Call.{add, read, replace}

abbrev pub length_rows : List Row
length_rows =
    -- contents and outputs of 0, 1, 511, 513, 1,023 and 1,025 bytes give 8; 512 bytes are one page, 1,024 two
    record {
      start = fresh_disk 4;
      calls =
          add 1 []
          ∷ add 1 (replicate 1 16)
          ∷ add 1 (replicate 511 16)
          ∷ add 1 (replicate 513 16)
          ∷ add 1 (replicate 1023 16)
          ∷ add 1 (replicate 1025 16)
          ∷ add 1 (replicate 512 16)
          ∷ add 2 (replicate 1024 32)
          ∷ read 2 0 []
          ∷ read 2 0 (unwritten 1)
          ∷ read 2 0 (unwritten 511)
          ∷ read 2 0 (unwritten 513)
          ∷ read 2 0 (unwritten 1023)
          ∷ read 2 0 (unwritten 1025)
          ∷ read 2 1 (unwritten 512)
          ∷ read 2 0 (unwritten 1024)
          ∷ [];
      replies =
          answer 4
          ∷ refuse 8
          ∷ refuse 8
          ∷ refuse 8
          ∷ refuse 8
          ∷ refuse 8
          ∷ refuse 8
          ∷ answer 1
          ∷ answer 2
          ∷ read_refused 8 0
          ∷ read_refused 8 1
          ∷ read_refused 8 511
          ∷ read_refused 8 513
          ∷ read_refused 8 1023
          ∷ read_refused 8 1025
          ∷ pages_read 1 (32 ∷ [])
          ∷ pages_read 2 (32 ∷ 32 ∷ [])
          ∷ [];
      copies = [];
      layout =
          laid_out 4 (file_with 1 (pair_at 0 1 ∷ []) ∷ file_with 2 (pair_at 2 2 ∷ []) ∷ []) (pair_at 1 1 ∷ []);
      files = file_seen 1 0 (0 ∷ []) (16 ∷ []) ∷ file_seen 2 0 (2 ∷ 3 ∷ []) (32 ∷ 32 ∷ []) ∷ [];
      disk = 16 ∷ 255 ∷ 32 ∷ 32 ∷ [];
    }
    -- new contents of 0, 1, 6, 7, 511, 513, 1,023 and 1,025 bytes give 8
    ∷ record {
      start = fresh_disk 2;
      calls =
          add 1 (replicate 512 16)
          ∷ replace 1 []
          ∷ replace 1 (replicate 1 82)
          ∷ replace 1 (replicate 6 82)
          ∷ replace 1 (replicate 7 82)
          ∷ replace 1 (replicate 511 82)
          ∷ replace 1 (replicate 513 82)
          ∷ replace 1 (replicate 1023 82)
          ∷ replace 1 (replicate 1025 82)
          ∷ replace 1 (replicate 512 82)
          ∷ replace 1 (replicate 1024 68)
          ∷ [];
      replies =
          answer 2
          ∷ answer 1
          ∷ refuse 8
          ∷ refuse 8
          ∷ refuse 8
          ∷ refuse 8
          ∷ refuse 8
          ∷ refuse 8
          ∷ refuse 8
          ∷ refuse 8
          ∷ answer 0
          ∷ answer 0
          ∷ [];
      copies = [];
      layout = laid_out 2 (file_with 1 (pair_at 0 2 ∷ []) ∷ []) [];
      files = file_seen 1 0 (0 ∷ 1 ∷ []) (68 ∷ 68 ∷ []) ∷ [];
      disk = 68 ∷ 68 ∷ [];
    }
    ∷ []

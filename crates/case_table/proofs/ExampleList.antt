-- Lists of calls on a disk of 16 blocks, one of ten mixed calls and one with replacements, made by the manager and by
-- the plain book side by side, computed: the replies of both, and the whole output of both, which is the same at each
-- call; and that the book replaces one of 64 lines. Assumes nothing.
use mathlib.Core.List.{[], ◌++◌, ◌∷◌}
use mathlib.Core.Path.{◌≡◌, refl}
use lib.ListN.{replicate}
use Rattle.case_table.specs.BesideBook.{book_with_lines, both_reply, from_format, lines_from, replacement_calls}
use Rattle.case_table.specs.BesideBook.{ten_calls}
use Rattle.case_table.specs.CaseRows.{blocks_of_bytes, filled_blocks, untouched}
use Rattle.case_table.specs.CaseRun.{performed}
use Rattle.manager.specs.Book.{answers, any_number, bytes_of, content_pages, count_from, in_book, line_with}
use Rattle.manager.specs.Book.{pages_in_lines}
use Rattle.manager.specs.BookLetters.{book_rank, counted_from, letter_on}
use Rattle.manager.specs.Book.{refuses, strike_line, write_line}
use Rattle.manager.specs.Call.{replace}
use Rattle.manager.specs.Conditions.{answered, refused}

-- the book has no number for breaks and for a removal; the removal copies all pages of id 9, and the read gives its
-- last two, which lie in two pieces
pub ten_calls_lem :
    from_format 16 ten_calls
    ≡ both_reply (answered 1) (answers 1) []
    ∷ both_reply (answered 3) (answers 3) []
    ∷ both_reply (answered 1) (answers 1) []
    ∷ both_reply (answered 1) any_number []
    ∷ both_reply (answered 3) any_number []
    ∷ both_reply (answered 2) (answers 2) (filled_blocks 145 2)
    ∷ both_reply (refused 9) (refuses 9) (untouched 1)
    ∷ both_reply (refused 11) (refuses 11) []
    ∷ both_reply (answered 12) (answers 12) []
    ∷ both_reply (answered 16) (answers 16) []
    ∷ []
unfolding performed count_from content_pages bytes_of pages_in_lines line_with write_line strike_line
ten_calls_lem = refl

-- the first replacement copies all pages of id 9, the second nothing and fills the disk; with 13 pages, which do not
-- fit, 12 and 13 come before 11
pub replacement_calls_lem :
    from_format 16 replacement_calls
    ≡ both_reply (answered 1) (answers 1) []
    ∷ both_reply (answered 3) (answers 3) []
    ∷ both_reply (answered 1) (answers 1) []
    ∷ both_reply (refused 5) (refuses 5) []
    ∷ both_reply (refused 6) (refuses 6) []
    ∷ both_reply (refused 8) (refuses 8) []
    ∷ both_reply (answered 3) any_number []
    ∷ both_reply (answered 2) (answers 2) (blocks_of_bytes (68 ∷ 161 ∷ []))
    ∷ both_reply (refused 12) (refuses 12) []
    ∷ both_reply (refused 13) (refuses 13) []
    ∷ both_reply (refused 13) (refuses 13) []
    ∷ both_reply (refused 11) (refuses 11) []
    ∷ both_reply (answered 10) (answers 10) []
    ∷ both_reply (answered 0) any_number []
    ∷ both_reply (answered 0) (answers 0) []
    ∷ both_reply (answered 2) (answers 2) (blocks_of_bytes (167 ∷ 168 ∷ []))
    ∷ both_reply (answered 3) (answers 3) (blocks_of_bytes (144 ∷ 145 ∷ 146 ∷ []))
    ∷ both_reply (answered 0) any_number []
    ∷ both_reply (answered 16) (answers 16) []
    ∷ []
unfolding performed count_from content_pages bytes_of pages_in_lines line_with write_line strike_line counted_from letter_on
    book_rank
replacement_calls_lem = refl

-- one of 64 lines is replaced
pub one_of_sixty_four_lines :
    in_book (replace 64 (replicate 512 82)) (book_with_lines (lines_from 0 64))
    ≡ record {
      reply = any_number;
      book = book_with_lines (lines_from 0 63 ++ (record { id = 64; pages = replicate 512 82 ∷ [] }) ∷ []);
      output = [];
    }
unfolding count_from content_pages pages_in_lines line_with write_line strike_line counted_from letter_on book_rank
one_of_sixty_four_lines = refl

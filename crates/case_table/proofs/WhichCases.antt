-- Which removal would let n blocks in, computed: on document 02's two disks beside the book, the first with both
-- catalogues; what the removals copy and let in; and on the bytes of catalogues, with 64 files too. Assumes nothing.
use mathlib.Core.List.{List, map}
use mathlib.Core.Path.{◌≡◌, refl}
use Prim.Native.Nat.{ℕ}
use Rattle.case_table.specs.BesideBook.{book_with_lines, from_format_in, lines_from}
use Rattle.case_table.specs.CaseBytes.{used_in_large_six, used_in_six}
use Rattle.case_table.specs.CaseRun.{performed}
use Rattle.case_table.specs.RefusalTable.{filled_up, small}
use Rattle.case_table.specs.WhichRows.{WhichRow, disks, expected_in, expected_on, five_asked, five_copies}
use Rattle.case_table.specs.WhichRows.{five_removed, five_shown, full_rows, outcome_on, six_asked, six_rows, six_shown}
use Rattle.case_table.specs.WhichRows.{step_in}
use Rattle.manager.specs.Book.{content_pages, count_from, ids_with_room, line_with, pages_in_lines, strike_line}
use Rattle.manager.specs.Book.{write_line}

-- ---- beside the book

pub case_six_asked : from_format_in 4096 16 six_asked ≡ six_shown
unfolding performed count_from content_pages pages_in_lines line_with write_line ids_with_room
case_six_asked = refl

pub large_case_six_asked : from_format_in 16384 16 six_asked ≡ six_shown
unfolding performed count_from content_pages pages_in_lines line_with write_line ids_with_room
large_case_six_asked = refl

pub five-files-asked : from_format_in 4096 16 five_asked ≡ five_shown
unfolding performed count_from content_pages pages_in_lines line_with write_line ids_with_room
five-files-asked = refl

-- the removals copy as many blocks as the order of the ids says, and let in as many as they were named for
pub five-files-removed : five_removed 4096 ≡ five_copies
unfolding performed count_from content_pages pages_in_lines line_with write_line strike_line
five-files-removed = refl

-- ---- on the bytes of a catalogue

-- the rows give what is expected of them with each of the disks, in a catalogue of n bytes that starts with the used
-- ones
abbrev Gives : ℕ → List ℕ → List WhichRow → Type 0
Gives n used rows =
    map (λ d. map (outcome_on (filled_up n used) d) rows) disks
    ≡ map (λ d. map (expected_on (filled_up n used) d) rows) disks

pub case_six_gives : Gives 4096 used_in_six six_rows
unfolding performed
case_six_gives = refl

pub large_case_six_gives : Gives 16384 used_in_large_six six_rows
unfolding performed
large_case_six_gives = refl

pub sixty_four_files_give : Gives 4096 small.full full_rows
unfolding performed
sixty_four_files_give = refl

-- 64 lines in the book
pub sixty_four_lines_give :
    map (step_in (book_with_lines (lines_from 0 64))) full_rows ≡ map (expected_in (book_with_lines (lines_from 0 64))) full_rows
unfolding pages_in_lines ids_with_room
sixty_four_lines_give = refl

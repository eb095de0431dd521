-- Replacements, computed: every row of their table with the small catalogue, some with the large one; each letter over
-- each, by the manager and by the book; and that one of 64 files is replaced. Assumes nothing.
use mathlib.Core.List.{[], ◌++◌, map}
use mathlib.Core.Path.{◌≡◌, refl}
use lib.ListN.{replicate}
use Rattle.catalogue.specs.Version.{version1, version2}
use Rattle.case_table.specs.CaseRows.{filled_blocks}
use Rattle.case_table.specs.CaseRun.{computed, expected, performed}
use Rattle.case_table.specs.RankRows.{all_ranks, book_with, large_one, place_rows, replaced, replaced_in_book}
use Rattle.case_table.specs.RankRows.{replaced_with, small_one}
use Rattle.case_table.specs.RefusalTable.{Catalogues, filled_up, large, small}
use Rattle.case_table.specs.ReplaceRows.{large_rows, replace_rows}
use Rattle.manager.specs.Book.{content_pages, count_from, line_with, pages_in_lines, strike_line, write_line}
use Rattle.manager.specs.BookLetters.{book_rank, counted_from, letter_on}
use Rattle.manager.specs.Call.{replace}
use Rattle.manager.specs.Conditions.{answered, outcome}

pub replacements_hold : map (computed version1) replace_rows ≡ map expected replace_rows
unfolding performed
replacements_hold = refl

pub large_replacements_hold : map (computed version2) large_rows ≡ map expected large_rows
unfolding performed
large_replacements_hold = refl

-- ---- letters

pub ranks_hold : map (replaced small_one) all_ranks ≡ map (replaced_with small_one) all_ranks
unfolding performed
ranks_hold = refl

pub large_ranks_hold : map (replaced large_one) place_rows ≡ map (replaced_with large_one) place_rows
unfolding performed
large_ranks_hold = refl

pub ranks_hold_in_book : map replaced_in_book all_ranks ≡ map book_with all_ranks
unfolding count_from content_pages pages_in_lines line_with write_line strike_line counted_from letter_on book_rank
ranks_hold_in_book = refl

-- ---- 64 files

-- one of 64 files is replaced, and the catalogue is the same afterwards
abbrev OneOfSixtyFour : Catalogues → Type 0
OneOfSixtyFour c =
    performed (replace 64 (replicate 512 82)) (filled_up c.bytes c.full) (filled_blocks 0 66)
    ≡ outcome (answered 0) (filled_up c.bytes c.full)
    (filled_blocks 0 63 ++ (replicate 512 82 ++ filled_blocks 64 2)) []

pub one_of_sixty_four : OneOfSixtyFour small
unfolding performed
one_of_sixty_four = refl

pub large-one_of_sixty_four : OneOfSixtyFour large
unfolding performed
large-one_of_sixty_four = refl

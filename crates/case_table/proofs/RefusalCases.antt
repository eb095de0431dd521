-- Every row of the table of refusals, computed in both versions: each call gives its number, and leaves catalogue,
-- disk and output as they were; and that the 64th file passes. Assumes nothing.
use mathlib.Core.List.{[], ◌++◌, map}
use mathlib.Core.Path.{◌≡◌, refl}
use Rattle.case_table.specs.CaseRows.{content_of, filled_blocks}
use Rattle.case_table.specs.CaseRun.{performed}
use Rattle.case_table.specs.RefusalRows.{outcomes, refused_all}
use Rattle.case_table.specs.RefusalTable.{Catalogues, filled_up, large, large_in_small, length_table}
use Rattle.case_table.specs.RefusalTable.{order_table, refusal_table, small, small_in_large}
use Rattle.manager.specs.Call.{add}
use Rattle.manager.specs.Conditions.{answered, outcome}

-- catalogues of the length of no version
pub lengths_refused : map outcomes length_table ≡ map refused_all length_table
unfolding performed
lengths_refused = refl

pub refusals_hold : map outcomes (refusal_table small) ≡ map refused_all (refusal_table small)
unfolding performed
refusals_hold = refl

pub large_refusals_hold : map outcomes (refusal_table large) ≡ map refused_all (refusal_table large)
unfolding performed
large_refusals_hold = refl

pub order_holds : map outcomes (order_table small) ≡ map refused_all (order_table small)
unfolding performed
order_holds = refl

-- a version that does not suit its buffer is not sound
pub version_one_in_large_buffer : outcomes small_in_large ≡ refused_all small_in_large
unfolding performed
version_one_in_large_buffer = refl

pub version_two_in_small_buffer : outcomes large_in_small ≡ refused_all large_in_small
unfolding performed
version_two_in_small_buffer = refl

-- ---- the 64th file

-- an add of one page with 63 files there, and what it leaves: the 64 files with which one more gives 10
abbrev SixtyFourthPasses : Catalogues → Type 0
SixtyFourthPasses c =
    performed (add 64 (content_of 12 1)) (filled_up c.bytes c.one_less) (filled_blocks 0 66)
    ≡ outcome (answered 1) (filled_up c.bytes c.full)
    (filled_blocks 0 63 ++ (filled_blocks 192 1 ++ filled_blocks 64 2)) []

pub sixty_fourth_passes : SixtyFourthPasses small
unfolding performed
sixty_fourth_passes = refl

pub large_sixty_fourth_passes : SixtyFourthPasses large
unfolding performed
large_sixty_fourth_passes = refl

-- Cases 1 to 11 with the large catalogue, in groups, since each call computes over 16,384 bytes, and without the rows
-- of cases 4 to 6, which case 7 goes through; removals with free buddies, and literal lengths; and the bytes of case 7.
-- Assumes nothing.
use mathlib.Core.List.{List, ◌++◌, map}
use mathlib.Core.Path.{◌≡◌, refl}
use Prim.Native.Nat.{◌-◌, ℕ}
use lib.ListN.{drop, replicate, take}
use Rattle.catalogue.specs.Version.{version2}
use Rattle.case_table.specs.CaseBytes.{used_in_large_seven}
use Rattle.case_table.specs.CaseParts.{up_to_seven}
use Rattle.case_table.specs.CaseRows.{Row, fresh_disk}
use Rattle.case_table.specs.CaseRun.{after_calls, computed, expected, performed, start_state}
use Rattle.case_table.specs.BuddyRows.{buddy_rows}
use Rattle.case_table.specs.CaseTable.{case_table}
use Rattle.case_table.specs.LengthRows.{length_rows}

-- these rows show what is expected of them in version 2
abbrev Hold : List Row → Type 0
Hold rows = map (computed version2) rows ≡ map expected rows

-- n rows of the table, from row a on
abbrev rows_from : ℕ → ℕ → List Row
rows_from a n = take n (drop a case_table)

pub cases_one_to_three : Hold (rows_from 0 3)
unfolding performed
cases_one_to_three = refl

pub case_seven_lem : Hold (rows_from 6 1)
unfolding performed
case_seven_lem = refl

pub case_eight_lem : Hold (rows_from 7 2)
unfolding performed
case_eight_lem = refl

pub cases_nine_to_eleven : Hold (rows_from 9 3)
unfolding performed
cases_nine_to_eleven = refl

pub free_buddies : Hold buddy_rows
unfolding performed
free_buddies = refl

pub literal_lengths : Hold length_rows
unfolding performed
literal_lengths = refl

-- all 16,384 bytes of the catalogue after case 7: the used ones, and zero bytes to the end
pub case_seven-large-bytes : (after_calls up_to_seven (start_state version2 (fresh_disk 16))).catalogue
    ≡ used_in_large_seven ++ replicate (16384 - 60) 0
unfolding performed
case_seven-large-bytes = refl

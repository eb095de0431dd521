-- Cases 1 to 11 of document 01, proved together by computing every row of the table from the definitions of the
-- calls, with the small catalogue, and its bytes in case 7. Assumes nothing.
use mathlib.Core.List.{◌++◌, map}
use mathlib.Core.Path.{◌≡◌, refl}
use Prim.Native.Nat.{◌-◌}
use lib.ListN.{replicate}
use Rattle.catalogue.specs.Version.{version1}
use Rattle.case_table.specs.CaseBytes.{used_in_seven}
use Rattle.case_table.specs.CaseParts.{up_to_seven}
use Rattle.case_table.specs.CaseRows.{fresh_disk}
use Rattle.case_table.specs.CaseRun.{after_calls, computed, expected, performed, start_state}
use Rattle.case_table.specs.CaseTable.{case_table}

-- every row shows what is expected of it, in version 1
pub cases_hold : map (computed version1) case_table ≡ map expected case_table
unfolding performed
cases_hold = refl

-- all 4,096 bytes of the catalogue after case 7: the used ones, and zero bytes to the end
pub case_seven-bytes : (after_calls up_to_seven (start_state version1 (fresh_disk 16))).catalogue
    ≡ used_in_seven ++ replicate (4096 - 34) 0
unfolding performed
case_seven-bytes = refl

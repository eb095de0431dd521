-- `write_files` appends the lines of each file. The loop's invariant: the lines of the files ahead are left to write.
-- Assumes nothing.
use mathlib.Core.List.{map}
use lib.ListN.{drop}
use Rattle.manager.specs.Printing.{all_file_lines}
use Rattle.table.specs.Tables.{file_of}
use Rattle.texts.proofs.Writing.{Left}
use Rattle.printing.proofs.files.write_files.Given as goal

abbrev pub invariant-loop-entry : goal.invariant-loop-entry
invariant-loop-entry l =
    Left l.at (all_file_lines (map file_of l.files)) l.initial.out l.out l.next
    (all_file_lines (map file_of (drop l.entry-index l.files)))

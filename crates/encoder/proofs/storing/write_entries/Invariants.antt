-- `encoder::storing::write_entries` meets its contract: the entries of the files passed stand. Assumes nothing.
use mathlib.Core.List.{map}
use lib.ListN.{take}
use Rattle.catalogue.specs.Encoding.{entries_bytes}
use Rattle.encoder.specs.Store.{Written}
use Rattle.table.specs.Tables.{file_of}
use Rattle.encoder.proofs.storing.write_entries.Given as goal

abbrev pub invariant-loop-entry : goal.invariant-loop-entry
invariant-loop-entry l =
    Written l.initial.cat l.at (entries_bytes l.width (map file_of (take l.entry-index l.files))) l.cat l.next

-- `read_pages` fills the output page by page. The pages read so far stand at its start, and the rest is as it was.
-- Assumes nothing.
use Prim.Native.Nat.{◌+◌}
use Rattle.blocks.proofs.DiskReading.{Filled, pages_from}
use Rattle.blocks.specs.Runs.{Follows}
use Rattle.layout.specs.Layout.{blocks_of}
use Rattle.table.specs.Tables.{pieces_in}
use Rattle.blocks.proofs.reading.read_pages.Given as goal

abbrev pub invariant-loop-i : goal.invariant-loop-i
invariant-loop-i l =
    Filled (pages_from l.disk (pieces_in l.e) l.first) l.initial.out l.out l.i
    × Follows (blocks_of (pieces_in l.e)) (l.first + l.i) l.run

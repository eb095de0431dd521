-- `run_of_page` goes through the pieces to the one that has the page. The blocks of the pieces left from the page
-- that is left to pass on are the blocks of all pieces from the page that is asked for on. Assumes nothing.
use mathlib.Core.Path.{◌≡◌}
use lib.ListN.{drop}
use Rattle.layout.specs.Layout.{blocks_of}
use Rattle.piece.specs.Packed.{seen}
use Rattle.blocks.proofs.reading.run_of_page.Given as goal

abbrev pub invariant-loop-piece : goal.invariant-loop-piece
invariant-loop-piece l =
    drop l.rest (blocks_of (drop l.piece-index (seen l.piece-items))) ≡ drop l.page (blocks_of (seen l.piece-items))

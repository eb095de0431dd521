-- `encoder::storing::write_pairs` meets its contract: the pairs of the pieces passed stand. Assumes nothing.
use lib.ListN.{take}
use Rattle.catalogue.specs.Encoding.{pairs_bytes}
use Rattle.encoder.specs.Store.{Written}
use Rattle.piece.specs.Packed.{seen}
use Rattle.encoder.proofs.storing.write_pairs.Given as goal

abbrev pub invariant-loop-piece : goal.invariant-loop-piece
invariant-loop-piece l =
    Written l.initial.cat l.at (pairs_bytes l.width (seen (take l.piece-index l.pieces))) l.cat l.next

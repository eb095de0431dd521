-- `table::free_with` meets its contract: what is left of the pieces is still to be put among the free ones. Assumes
-- nothing.
use mathlib.Core.Path.{◌≡◌}
use Prim.Native.Nat.{◌+◌}
use lib.ListN.{length}
use Rattle.layout.specs.Removing.{insert_all}
use Rattle.piece.specs.Packed.{seen}
use Rattle.free_pieces.specs.Free.{free_of}
use Rattle.table.specs.Tables.{pieces_in}
use Rattle.table.proofs.release.free_with.Given as goal

abbrev pub invariant-loop-piece : goal.invariant-loop-piece
invariant-loop-piece l =
    let rest = l.piece-iterator.iter.rest.now in
    (insert_all (seen rest) (free_of l.all) ≡ insert_all (pieces_in l.fn.e) (free_of l.fn.free))
    × (l.all.count + length rest ≡ l.fn.free.count + l.fn.e.pieces.count)
    × (length (free_of l.all) ≡ l.all.count)

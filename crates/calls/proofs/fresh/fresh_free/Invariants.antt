-- `calls::fresh::fresh_free` meets its contract. The loop's invariant: the pieces so far and those for the ones
-- below height `h` are all, and there is room for the pieces below `h`. A turn adds the piece of its height if the
-- quotient by the height's length is odd. Assumes nothing.
use mathlib.Core.Path.{◌≡◌}
use Prim.Native.Nat.{◌+◌, ◌≤◌}
use lib.ListN.{length}
use Rattle.section.specs.Limits.{height_count}
use Rattle.layout.specs.Layout.{pieces_from}
use Rattle.piece_lists.specs.Few.{piece_places}
use Rattle.calls.proofs.FreshPieces.{pieces_with}
use Rattle.calls.proofs.fresh.fresh_free.Given as goal

abbrev pub invariant-loop-h : goal.invariant-loop-h
invariant-loop-h l =
    (l.h ≤ height_count) × (l.free.count + l.h ≤ piece_places) × (length l.free.items ≡ piece_places)
    × (pieces_with l.blocks l.h l.free ≡ pieces_from height_count l.blocks 0)

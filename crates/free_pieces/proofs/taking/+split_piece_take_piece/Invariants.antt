-- `take_piece` and `split_piece` call each other: the measure is the number of heights above, twice, and one more to
-- take. Assumes nothing.
use Prim.Native.Nat.{◌*◌, ◌+◌, ◌-◌}
use Rattle.section.specs.Limits.{height_count}
use Rattle.free_pieces.proofs.taking.+split_piece_take_piece.Given as goal

abbrev pub decreases-split_piece : goal.decreases-split_piece
decreases-split_piece l = 2 * (height_count - l.h)

abbrev pub decreases-take_piece : goal.decreases-take_piece
decreases-take_piece l = 2 * (height_count - l.h) + 1

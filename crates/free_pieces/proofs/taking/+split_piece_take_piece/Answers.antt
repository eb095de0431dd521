-- `take_piece` and `split_piece` meet their contracts: a piece is taken, or split from one taken a height up. Assumes
-- nothing.
use Rattle.std.proofs.Common.{arith, refl, ◌+◌, ◌-◌}
use Rattle.layout.specs.Adding.{nothing}
use Rattle.section.specs.Limits.{greatest_height}
use Rattle.free_pieces.proofs.PieceTaken.{split_same, split_top, taken_here, taken_split, to_halve}
use Rattle.free_pieces.specs.Free.{free_of}
use Rattle.free_pieces.proofs.taking.+split_piece_take_piece.Goals as goal

pub split_piece-returns-then-h-eq-GREATEST : goal.split_piece-returns-then-h-eq-GREATEST
split_piece-returns-then-h-eq-GREATEST t c = record {
  meaning = split_top c.args.h (free_of c.args.free) c.if-h-eq-GREATEST.true;
  most = tt;
  exact = tt;
}

pub split_piece-halve-requires : goal.split_piece-halve-requires
split_piece-halve-requires t c =
    let h = c.args.h in
    let y = c.in_ok-drawn.ensures in
    to_halve (greatest_height - (h + 1)) h c.args.free _ (omega (arith, c.requires.0, c.if-h-eq-GREATEST.false))
    c.requires.1 y.meaning y.exact

pub split_piece-returns : goal.split_piece-returns
split_piece-returns t c =
    let w = c.halve.ensures in
    record {
      meaning = split_same c.args.h (free_of c.args.free) _ _ (omega (arith, c.requires.0, c.if-h-eq-GREATEST.false))
          c.in_ok-drawn.ensures.meaning w.meaning;
      most = w.most;
      exact = w.exact;
    }

pub split_piece-returns-in_err-drawn : goal.split_piece-returns-in_err-drawn
split_piece-returns-in_err-drawn t c = rw c.from_residual.ensures record {
  meaning = split_same c.args.h (free_of c.args.free) nothing nothing
      (omega (arith, c.requires.0, c.if-h-eq-GREATEST.false)) c.in_err-drawn.ensures.meaning refl;
  most = tt;
  exact = tt;
}

pub take_piece-returns-in-Some : goal.take_piece-returns-in-Some
take_piece-returns-in-Some t c =
    let y = c.in-Some.ensures in
    record {
      meaning = taken_here (greatest_height - c.args.h) c.args.h (free_of c.args.free) _ y.meaning;
      most = omega (arith, y.most, c.requires.1.most);
      exact = y.exact;
    }

pub take_piece-returns : goal.take_piece-returns
take_piece-returns t c =
    let z = c.split_piece.ensures in
    record {
      meaning = taken_split (greatest_height - c.args.h) c.args.h (free_of c.args.free) _ c.in_default.ensures.meaning
          z.meaning;
      most = z.most;
      exact = z.exact;
    }

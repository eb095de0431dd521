-- `allocate` is the definition: a turn lays one piece more if the quotient by the height's length is odd. Assumes
-- nothing.
use Rattle.std.proofs.Common.{◌%◌, ◌/◌, ◌≡◌, ◌^◌, ◌∙◌, ap, arith, sym, ℕ}
use Rattle.layout.specs.Layout.{digit}
use Rattle.free_pieces.proofs.PiecesLaid.{Laying, laying_at, laying_end, laying_failed, laying_more}
use Rattle.free_pieces.proofs.PiecesLaid.{laying_skip, laying_start}
use Rattle.free_pieces.proofs.allocating.allocate.Goals.{Joined-n-length-eq1}
use Rattle.free_pieces.proofs.allocating.allocate.Goals.{then-n-length-eq1+in_ok-drawn, else-n-length-eq1}
use Rattle.free_pieces.proofs.allocating.allocate.Goals as goal

pub loop-h-init : goal.loop-h-init
loop-h-init c = laying_start c.args.n c.args.free c.requires

pub take_piece-requires : goal.take_piece-requires
take_piece-requires c = (omega (arith, c.loop-h.auto.h), c.loop-h.invariant.stocked)

-- the quotient by the height's length is odd if n has a 1 there
digit_is : (n h m : ℕ) → m ≡ 2 ^ h → digit h n ≡ n / m % 2
digit_is n h m e = ap (λ z. n / z % 2) (sym e)

pub returns-in_err-drawn : goal.returns-in_err-drawn
returns-in_err-drawn c = rw c.from_residual.ensures record {
  meaning = laying_failed _ _ _ _ c.loop-h.invariant
      (digit_is _ _ _ c.length.ensures.equal ∙ c.if-n-length-eq1.true) c.in_err-drawn.ensures;
  count = tt;
  stocked = tt;
}

pub bounds-pieces-pieces : goal.bounds-pieces-pieces
bounds-pieces-pieces c = omega (arith, c.loop-h.invariant.room)

laid : (c : Joined-n-length-eq1)
    → Laying c.args.n c.loop-h.h c.args.free
    (record { pieces = c.if-n-length-eq1.pieces; free = c.if-n-length-eq1.left })
laid c =
    let digit = digit_is _ _ _ c.length.ensures.equal in
    elim c.if-n-length-eq1.branch [
      | then-n-length-eq1+in_ok-drawn w ↦ rw (w.pieces-is, w.left-is)
          (laying_more _ _ _ _ c.loop-h.invariant _ (digit ∙ w.if-n-length-eq1.true) w.in_ok-drawn.ensures)
      | else-n-length-eq1 w ↦ rw (w.pieces-is, w.left-is)
          (laying_skip _ _ _ _ c.loop-h.invariant (omega (arith, digit, w.if-n-length-eq1.false)))
    ]

pub loop-h-preserved : goal.loop-h-preserved
loop-h-preserved c = laying_at (laid (goal.at.loop-h-preserved c).Joined-n-length-eq1) (omega arith)

pub returns-after-n-length-eq1 : goal.returns-after-n-length-eq1
returns-after-n-length-eq1 c =
    laying_end _ _ _ (laying_at (laid (goal.at.returns-after-n-length-eq1 c).Joined-n-length-eq1) (omega arith))

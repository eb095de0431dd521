-- `calls::fresh::fresh_free` meets its contract. The loop's invariant: the pieces so far and those for the ones
-- below height `h` are all, and there is room for the pieces below `h`. A turn adds the piece of its height if the
-- quotient by the height's length is odd. Assumes nothing.
use mathlib.Core.Path.{◌∙◌, ◌≡◌, ap, refl, sym}
use Prim.Native.Nat.{◌%◌, ◌*◌, ◌-◌, ◌/◌, ◌^◌, suc, ℕ}
use native.Mathlib.Nat.{mod-le}
use native.Mathlib.Omega.{arith}
use lib.ListN.{length-set}
use borrow.Author.Rules.{rules}
use Rattle.piece_lists.specs.Few.{list_of}
use Rattle.calls.proofs.FreshPieces.{pieces_end, pieces_push, pieces_skip, pieces_start, pieces_with}
use Rattle.calls.proofs.fresh.fresh_free.Goals as goal

pub loop-h-init : goal.loop-h-init
unfolding list_of
loop-h-init c = (omega arith, omega arith, refl, pieces_start c.args.blocks _ c.requires refl)

pub length-length-requires : goal.length-length-requires
length-length-requires c = omega (arith, c.loop-h.invariant.0, c.loop-h-test.true)

pub overflow_sub-first : goal.overflow_sub-first
overflow_sub-first c = search (rules, mod-le)

pub of-requires : goal.of-requires
of-requires c =
    record { first = omega (arith, c.requires); height = omega (arith, c.loop-h.invariant.0) }

pub loop-h-preserved-then-blocks-length-eq1 : goal.loop-h-preserved-then-blocks-length-eq1
loop-h-preserved-then-blocks-length-eq1 c =
    let b = c.args.blocks in
    let l = c.loop-h in
    let n = c.length-length in
    let more = c.loop-h-test.true in
    let next : suc (l.h - 1) ≡ l.h = omega (arith, more) in
    let twice : 2 * n.result ≡ 2 ^ suc (l.h - 1) = omega (arith, n.ensures.equal) in (
      omega (arith, l.invariant.0),
      omega (arith, l.invariant.1, more),
      simp length-set l.invariant.2,
      pieces_push b (l.h - 1) l.free _ c.of.result c.of.ensures.holds
          (ap (λ (z : ℕ). b / z % 2) (sym n.ensures.equal) ∙ c.if-blocks-length-eq1.true)
          (ap (λ (z : ℕ). b - b % z) twice)
          (omega (arith, l.invariant.2, l.invariant.1, more))
          ∙ (ap (λ z. pieces_with b z l.free) next ∙ l.invariant.3),
    )

pub loop-h-preserved : goal.loop-h-preserved
loop-h-preserved c =
    let b = c.args.blocks in
    let l = c.loop-h in
    let n = c.length-length in
    let more = c.loop-h-test.true in
    let next : suc (l.h - 1) ≡ l.h = omega (arith, more) in
    let even : b / n.result % 2 ≡ 0 = omega (arith, c.if-blocks-length-eq1.false) in (
      omega (arith, l.invariant.0),
      omega (arith, l.invariant.1),
      l.invariant.2,
      pieces_skip b (l.h - 1) l.free (ap (λ (z : ℕ). b / z % 2) (sym n.ensures.equal) ∙ even)
          ∙ (ap (λ z. pieces_with b z l.free) next ∙ l.invariant.3),
    )

pub returns : goal.returns
returns c =
    let l = c.loop-h in
    let e : l.h ≡ 0 = omega (arith, c.loop-h-test.false) in
    record {
      list = pieces_end c.args.blocks l.h l.free e ∙ l.invariant.3;
      most = omega (arith, l.invariant.1);
    }

-- `copies_for` counts the copies of the file's removal: its pieces are freed, and the merges planned. Assumes nothing.
use native.Mathlib.Omega.{arith}
use Rattle.choosing.proofs.CountedCopies.{counted-copies, counted-plan, counted-room}
use Rattle.choosing.proofs.counting.copies_for.Goals as goal

pub free_with-requires : goal.free_with-requires
free_with-requires c =
    let s = c.requires.stored in
    (s.places, omega (arith, s.places, counted-room _ _ _ s))

pub plan-requires : goal.plan-requires
plan-requires c = counted-plan _ _ _ c.requires.stored _ c.free_with.ensures

pub returns : goal.returns
returns c = record {
  copies = λ l s. counted-copies l _ _ s _ c.free_with.ensures c.plan.result c.plan.ensures;
}

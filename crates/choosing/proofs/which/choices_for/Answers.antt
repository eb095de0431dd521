-- `choices_for` chooses from the last file down: after each turn the files behind those that are left are chosen from.
-- Assumes nothing.
use mathlib.Core.Path.{◌∙◌, ap, refl}
use native.Mathlib.Omega.{arith}
use Rattle.std.specs.Iterator.Adapters.{rev_source}
use Rattle.std.specs.Slice.Iter.{iter_rest}
use Rattle.table.specs.Tables.{layout_of}
use Rattle.choosing.proofs.ChoosingSteps.{choosing_end, choosing_in, choosing_out, choosing_start, chosen_low}
use Rattle.choosing.proofs.ChoosingSteps.{chosen_room, chosen_stored}
use Rattle.choosing.proofs.which.choices_for.Goals as goal

pub loop-e-init : goal.loop-e-init
loop-e-init c =
    let left = ap (λ it. iter_rest (rev_source it)) c.into_iter-e-iterator.ensures.into_iter_gives
    ∙ (ap iter_rest c.rev-e-items.ensures.source ∙ c.iter.ensures.rest) in
    (tt, tt, choosing_start c.args.t c.requires.opened c.args.n _ _ c.none-all.ensures left)

pub blocks_of-requires : goal.blocks_of-requires
blocks_of-requires c =
    chosen_low c.args.t c.requires.opened c.args.n _ _ _ _ c.loop-e.invariant.2 c.in-Some.ensures.steps

pub copies_for-copies-requires : goal.copies_for-copies-requires
copies_for-copies-requires c =
    record {
      layout = layout_of c.args.t;
      stored = chosen_stored c.args.t c.requires.opened c.args.n _ _ _ _ c.loop-e.invariant.2 c.in-Some.ensures.steps;
    }

pub with-all-requires : goal.with-all-requires
with-all-requires c =
    chosen_room c.args.t c.requires.opened c.args.n _ _ _ _ c.loop-e.invariant.2 c.in-Some.ensures.steps

pub loop-e-preserved-then-n-room : goal.loop-e-preserved-then-n-room
loop-e-preserved-then-n-room c =
    let t = c.args.t in
    let g = c.loop-e.invariant in
    let step = c.in-Some.ensures.steps in (
      g.0,
      g.1,
      choosing_in t c.requires.opened c.args.n _ _ _ _ g.2 step
          (omega (arith, c.if-n-room.true, c.blocks_of.ensures.equal, c.requires.free.equal))
          (record { copies = c.copies_for-copies.result; id = _ }) refl
          (c.copies_for-copies.ensures.copies (layout_of t)
          (chosen_stored t c.requires.opened c.args.n _ _ _ _ g.2 step))
          c.with-all.result c.with-all.ensures,
    )

pub loop-e-preserved : goal.loop-e-preserved
loop-e-preserved c =
    let g = c.loop-e.invariant in (
      g.0,
      g.1,
      choosing_out c.args.t c.requires.opened c.args.n _ _ _ _ g.2 c.in-Some.ensures.steps
          (omega (arith, c.if-n-room.false, c.blocks_of.ensures.equal, c.requires.free.equal)),
    )

pub returns : goal.returns
returns c =
    choosing_end c.args.t c.requires.opened c.args.n c.loop-e.all _ c.loop-e.invariant.2 c.in-None.ensures.steps.0

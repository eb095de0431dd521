-- `write_ids` writes zeros, and then the ids over them: after each turn one id more. Assumes nothing.
use mathlib.Core.Path.{◌∙◌, ap, ap₂, sym}
use Prim.Native.Nat.{◌≤◌}
use native.Mathlib.Omega.{arith}
use lib.ListN.{get_or-map, length-map, replicate, set}
use lib.Seq.{take_all}
use Rattle.layout.specs.Sound.{greatest_id}
use Rattle.piece_lists.proofs.EachItem.{each_get}
use Rattle.manager.specs.Outcomes.{then_zeros}
use Rattle.choosing.specs.Listing.{ids_in}
use Rattle.choosing.specs.declared.Choice.{Choice}
use Rattle.choosing.proofs.IdPlaces.{zeros-set}
use Rattle.choosing.proofs.listing.write_ids.Goals as goal

abbrev no_choice : Choice
no_choice = record { copies = 0; id = 0 }

pub loop-i-init : goal.loop-i-init
loop-i-init c = c.fill.ensures.after (λ _ e. e) ∙ ap (λ n. replicate n 0) c.requires.0

pub overflow_cast-places : goal.overflow_cast-places
overflow_cast-places c =
    omega (
      arith,
      each_get {P = λ (x : Choice). x.id ≤ greatest_id} c.loop-i.i no_choice c.requires.1.ids c.loop-i-test.true,
    )

pub loop-i-preserved : goal.loop-i-preserved
loop-i-preserved c =
    let l = c.args.choices.now in
    let i = c.loop-i.i in
    let n = length-map l (λ (x : Choice). x.id) in
    ap₂ (λ p x. set p i x) c.loop-i.invariant (sym (get_or-map (λ (x : Choice). x.id) l i no_choice))
    ∙ zeros-set (ids_in l) i (omega (arith, n, c.loop-i-test.true)) (omega (arith, n, c.requires.1.most))

pub returns : goal.returns
returns c =
    let l = c.args.choices.now in
    let n = length-map l (λ (x : Choice). x.id) in
    c.loop-i.invariant ∙ ap then_zeros (take_all c.loop-i.i (ids_in l) (omega (arith, n, c.loop-i-test.false)))

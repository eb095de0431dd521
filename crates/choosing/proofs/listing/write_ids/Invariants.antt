-- `write_ids` writes zeros, and then the ids over them: after each turn one id more. Assumes nothing.
use mathlib.Core.Path.{◌≡◌}
use lib.ListN.{take}
use Rattle.manager.specs.Outcomes.{then_zeros}
use Rattle.choosing.specs.Listing.{ids_in}
use Rattle.choosing.proofs.listing.write_ids.Given as goal

abbrev pub invariant-loop-i : goal.invariant-loop-i
invariant-loop-i l = l.places ≡ then_zeros (take l.i (ids_in l.choices))

-- `soundness::sharing::any_shared` meets its contract: every two pieces before `i`, and `i` up to `j`. Assumes
-- nothing.
use mathlib.Core.Bool.{false}
use mathlib.Core.List.{List}
use mathlib.Core.Path.{◌≡◌}
use Prim.Native.Nat.{◌<◌}
use Rattle.section.specs.declared.Section.{Section}
use Rattle.soundness.specs.Sharing.{Noted, far}
use Rattle.soundness.proofs.Groups.{apart}
use Rattle.soundness.proofs.Points.{Row, Rows}
use Rattle.soundness.proofs.sharing.any_shared.Given as goal

abbrev pub invariant-loop-j : goal.invariant-loop-j
invariant-loop-j l =
    (l.found ≡ false) × (l.i < l.j)
    × ((m : List Section) → Noted m l.firsts l.masks → Rows m l.count far apart l.i × Row m far apart l.i l.j)

abbrev pub invariant-pairs : goal.invariant-pairs
invariant-pairs l = (l.found ≡ false) × ((m : List Section) → Noted m l.firsts l.masks → Rows m l.count far apart l.i)

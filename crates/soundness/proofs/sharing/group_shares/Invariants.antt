-- `soundness::sharing::group_shares` meets its contract: what was found of the first `k` of a group. Assumes
-- nothing.
use mathlib.Core.List.{List}
use mathlib.Core.Path.{◌≡◌}
use Rattle.section.specs.Sections.{Spans}
use Rattle.section.specs.declared.Section.{Section}
use Rattle.soundness.specs.Sharing.{Noted, shares_among}
use Rattle.soundness.proofs.sharing.group_shares.Given as goal

abbrev pub invariant-loop-k : goal.invariant-loop-k
invariant-loop-k l =
    (m : List Section) (s : Section) → Noted m l.firsts l.masks → Spans s l.first l.mask
    → l.found ≡ shares_among s m l.at l.k

-- What an exported call without an output gives back is as its contract's clauses say. Assumes nothing.
use mathlib.Core.List.{List, []}
use mathlib.Core.Path.{◌≡◌, sym}
use Prim.Native.Nat.{ℕ}
use lib.IntN.{ℤ}
use Rattle.manager.specs.Conditions.{Outcome}
use Rattle.evdisk.specs.Codes.{code_of}
use Rattle.evdisk.specs.ExportedList.{AsPromised, returned}

pub as_promised : (o : Outcome) (r : ℤ) (cat d : List ℕ) → r ≡ code_of o.reply → cat ≡ o.catalogue → d ≡ o.disk
    → o.output ≡ [] → AsPromised o (returned r cat d [])
as_promised o r cat d answer catalogue disk silent =
    record { answer = answer; catalogue = catalogue; disk = disk; output = sym silent }

-- `decoder::fields::read_field` meets its contract: the number of the bytes so far. Assumes nothing.
use mathlib.Core.Path.{◌≡◌}
use Prim.Native.Nat.{◌+◌, ◌-◌, ◌<◌, ◌^◌}
use lib.ListN.{drop, take}
use Rattle.catalogue.specs.Encoding.{byte_values}
use Rattle.decoder.proofs.Places.{number}
use Rattle.decoder.proofs.fields.read_field.Given as goal

abbrev pub invariant-loop-byte : goal.invariant-loop-byte
invariant-loop-byte l =
    (l.value ≡ number 0 (take l.byte-index (take (l.at + l.width - l.at) (drop l.at l.s))))
    × (l.value < byte_values ^ l.byte-index)

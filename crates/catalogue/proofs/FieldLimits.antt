-- The numbers of the fields: 256 values of a byte, 2 bytes for an id and 4 at most for any number, and ids to the
-- greatest number of their field, 65,535. Assumes nothing.
use mathlib.Core.Path.{◌≡◌, refl}
use Prim.Native.Nat.{◌^◌, suc}
use Rattle.catalogue.specs.Encoding.{byte_values}
use Rattle.catalogue.specs.Version.{short_field, widest_field}
use Rattle.layout.specs.Sound.{greatest_id}

-- an id is a number of 2 bytes
pub greatest-id : suc greatest_id ≡ byte_values ^ short_field
greatest-id = refl

pub field_limits : (byte_values ≡ 256) × (short_field ≡ 2) × (widest_field ≡ 4) × (greatest_id ≡ 65535)
field_limits = (refl, refl, refl, refl)

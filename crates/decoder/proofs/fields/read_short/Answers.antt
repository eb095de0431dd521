-- `decoder::fields::read_short` meets its contract: the number of 2 bytes. Assumes nothing.
use native.Mathlib.Omega.{arith}
use Rattle.std.proofs.lemmas.Grind.{common_steps}
use Rattle.decoder.proofs.Places.{number-field}
use Rattle.decoder.proofs.fields.read_short.Goals as goal

pub returns : goal.returns
returns c = number-field _ _ _ _ c.requires (grind (arith, common_steps)) c.from_be_bytes.type_inv

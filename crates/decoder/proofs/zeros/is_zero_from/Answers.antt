-- `decoder::zeros::is_zero_from` meets its contract: no bit is gathered where each byte is zero. Assumes nothing.
use native.Mathlib.Omega.{arith}
use Rattle.std.proofs.lemmas.Grind.{common_steps}
use Rattle.decoder.proofs.ZeroBytes.{none_gathered}
use Rattle.decoder.proofs.zeros.is_zero_from.Goals as goal

pub returns : goal.returns
returns c = grind (arith, common_steps, none_gathered)

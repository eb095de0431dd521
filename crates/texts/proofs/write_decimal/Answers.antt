-- `write_decimal` appends the digits that the library writes. Assumes nothing.
use mathlib.Core.Path.{◌∙◌}
use native.Mathlib.Omega.{arith}
use Rattle.texts.proofs.Decimals.{library_writes}
use Rattle.texts.proofs.Writing.{appends_same, room_same}
use Rattle.texts.proofs.write_decimal.Goals as goal

pub write_bytes-requires : goal.write_bytes-requires
write_bytes-requires c =
    room_same (c.as_bytes.ensures.value ∙ (c.format.ensures.text ∙ library_writes c.args.n (omega arith))) c.requires

pub returns : goal.returns
returns c =
    appends_same (c.as_bytes.ensures.value ∙ (c.format.ensures.text ∙ library_writes c.args.n (omega arith)))
    c.write_bytes.ensures

-- `print_refusal` writes the word, the number and the line's end. Assumes nothing.
use native.Mathlib.Omega.{arith}
use Rattle.manager.specs.Printing.{refusal_text}
use Rattle.texts.proofs.Decimals.{digits_most}
use Rattle.printing.proofs.TextRoom.{refusal_length}
use Rattle.texts.proofs.Writing.{joined, prints}
use Rattle.printing.proofs.print_refusal.Goals as goal

pub write_decimal-b-requires : goal.write_decimal-b-requires
write_decimal-b-requires c = record { fits = omega (arith, digits_most 10 c.args.number) }

pub write_bytes-requires : goal.write_bytes-requires
write_bytes-requires c = record { fits = omega (arith, digits_most 10 c.args.number) }

pub returns : goal.returns
unfolding refusal_text
returns c =
    prints (joined c.write_bytes-a.ensures (joined c.write_decimal-b.ensures c.write_bytes.ensures))
    (record { fits = omega (arith, refusal_length c.args.number) })

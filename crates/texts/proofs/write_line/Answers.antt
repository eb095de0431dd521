-- `write_line` appends its five parts, one behind the other. Assumes nothing.
use native.Mathlib.Omega.{arith}
use Rattle.texts.proofs.Writing.{joined, line_size}
use Rattle.texts.proofs.write_line.Goals as goal

pub write_bytes-a-requires : goal.write_bytes-a-requires
write_bytes-a-requires c =
    record { fits = omega (arith, line_size c.args.start.now c.args.m c.args.middle.now c.args.n) }

pub write_decimal-b-requires : goal.write_decimal-b-requires
write_decimal-b-requires c =
    record { fits = omega (arith, line_size c.args.start.now c.args.m c.args.middle.now c.args.n) }

pub write_bytes-c-requires : goal.write_bytes-c-requires
write_bytes-c-requires c =
    let a =
    c.args in
    record { fits = omega (arith, line_size a.start.now a.m a.middle.now a.n) }

pub write_decimal-d-requires : goal.write_decimal-d-requires
write_decimal-d-requires c =
    record { fits = omega (arith, line_size c.args.start.now c.args.m c.args.middle.now c.args.n) }

pub write_bytes-requires : goal.write_bytes-requires
write_bytes-requires c =
    record { fits = omega (arith, line_size c.args.start.now c.args.m c.args.middle.now c.args.n) }

pub returns : goal.returns
returns c =
    joined
    c.write_bytes-a.ensures
    (joined
    c.write_decimal-b.ensures
    (joined
    c.write_bytes-c.ensures
    (joined c.write_decimal-d.ensures
    c.write_bytes.ensures)))

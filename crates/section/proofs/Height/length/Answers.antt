-- `section::Height::length` meets its contract. Assumes nothing.
use borrow.Author.Rules.{rules}
use lib.Pow.{pow_pos, pow_mono}
use Rattle.section.proofs.Bits.{one_shifted}
use Rattle.section.proofs.Height.length.Goals as goal

pub returns : goal.returns
returns c =
    let h = c.args.self.value in
    let e = one_shifted h (search rules) in
    record { equal = e; positive = rw e (pow_pos h); most = rw e (pow_mono c.requires) }

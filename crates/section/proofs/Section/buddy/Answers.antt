-- `section::Section::buddy` meets its contract: flipping the bit of a length adds the length or takes it away.
-- Assumes nothing.
use mathlib.Core.Path.{ap, ◌∙◌}
use Prim.Native.Nat.{ℕ}
use lib.Bits.{bit_xor}
use Rattle.section.specs.Sections.{section}
use Rattle.section.proofs.Bits.{xor_length}
use Rattle.section.proofs.Section.buddy.Goals as goal

pub returns : goal.returns
returns c =
    let s = c.args.self in
    let h = s.height.value in
    let flipped = ap (bit_xor s.first) c.length.ensures.equal ∙ xor_length h s.first in
    ap (λ (a : ℕ). section a h) flipped

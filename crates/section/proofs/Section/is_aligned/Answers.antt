-- `section::Section::is_aligned` meets its contract: the mask keeps the remainder. Assumes nothing.
use mathlib.Core.Path.{ap, ◌∙◌}
use Prim.Native.Nat.{ℕ}
use lib.Bits.{and_mask, bit_and}
use lib.Dec.{eqb}
use Rattle.section.specs.Sections.{is_aligned}
use Rattle.section.proofs.Section.is_aligned.Goals as goal

pub returns : goal.returns
unfolding is_aligned
returns c =
    let s = c.args.self in
    let masked = ap (bit_and s.first) c.mask.ensures in
    ap (λ (r : ℕ). eqb r 0) (masked ∙ and_mask s.first s.height.value)

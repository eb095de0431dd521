-- `section::Section::parent` meets its contract. Assumes nothing.
use mathlib.Core.Path.{sym, ap, ap₂, ◌∙◌}
use Prim.Native.Nat.{ℕ, ◌*◌, ◌/◌}
use native.Mathlib.Nat.{div-mul-le_self}
use native.Mathlib.Numerals.{add-one}
use native.Mathlib.Omega.{arith}
use Rattle.section.specs.Sections.{parent_first, section}
use Rattle.section.proofs.Multiples.{length_double}
use Rattle.section.proofs.Section.parent.Goals as goal

pub overflow_mul-result : goal.overflow_mul-result
overflow_mul-result c =
    omega (arith, div-mul-le_self c.args.self.first (2 * c.length-length.result))

pub returns : goal.returns
unfolding parent_first
returns c =
    let h = c.args.self.height.value in
    let a = c.args.self.first in
    let length = ap (λ (n : ℕ). 2 * n) c.length-length.ensures.equal ∙ sym (length_double h) in
    ap₂ section (ap (λ (n : ℕ). a / n * n) length) (add-one h)

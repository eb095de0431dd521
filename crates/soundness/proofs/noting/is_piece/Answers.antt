-- `is_piece` meets its contract: its two tests are the definition's. Assumes nothing.
use mathlib.Core.Path.{◌∙◌, sym}
use native.Mathlib.Omega.{arith}
use borrow.Author.Tests.{le-ltb, lt-leb, lt-ltb}
use Rattle.section.proofs.Booleans.{and_true_right, false_and}
use Rattle.section.specs.Limits.{greatest_height, height_count}
use Rattle.section.specs.Sections.{is_on_disk}
use Rattle.soundness.proofs.noting.is_piece.Goals as goal

pub returns-then-section-le-GREATEST : goal.returns-then-section-le-GREATEST
returns-then-section-le-GREATEST c =
    let s = c.args.section in
    c.is_on_disk.ensures
    ∙ sym (and_true_right (is_on_disk c.args.blocks s) (lt-ltb s.height.value height_count (omega arith)))

pub returns-else-section-le-GREATEST : goal.returns-else-section-le-GREATEST
returns-else-section-le-GREATEST c =
    let s = c.args.section in
    lt-leb s.height.value greatest_height (omega arith)
    ∙ sym (false_and (is_on_disk c.args.blocks s) (le-ltb s.height.value height_count (omega arith)))

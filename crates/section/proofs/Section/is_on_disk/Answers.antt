-- `section::Section::is_on_disk` meets its contract: its differences are the definition's sum. Assumes nothing.
use mathlib.Core.Path.{◌≡◌, sym, ◌∙◌}
use mathlib.Core.Bool.{false}
use Prim.Native.Nat.{◌<◌, ◌≤◌, ℕ}
use native.Mathlib.Omega.{arith}
use borrow.Author.Tests.{le-leb, lt-leb}
use Rattle.section.specs.Sections.{is_aligned, is_on_disk, end_of}
use Rattle.section.proofs.Booleans.{false_and, and_true_right}
use Rattle.section.specs.declared.Section.{Section}
use Rattle.section.proofs.Section.is_on_disk.Goals as goal

too_long : (blocks : ℕ) (s : Section) → blocks < end_of s → false ≡ is_on_disk blocks s
unfolding is_on_disk
too_long blocks s l = sym (false_and (is_aligned s) (lt-leb (end_of s) blocks l))

short-enough : (blocks : ℕ) (s : Section) → end_of s ≤ blocks → is_aligned s ≡ is_on_disk blocks s
unfolding is_on_disk
short-enough blocks s l = sym (and_true_right (is_aligned s) (le-leb (end_of s) blocks l))

pub returns-then-blocks-length : goal.returns-then-blocks-length
returns-then-blocks-length c =
    let a = c.args in
    too_long a.blocks a.self (omega (arith, c.length-length.ensures.equal))

pub returns-then-blocks-length-2 : goal.returns-then-blocks-length-2
returns-then-blocks-length-2 c =
    let a = c.args in
    too_long a.blocks a.self (omega (arith, c.length-length.ensures.equal))

pub returns : goal.returns
returns c =
    let a = c.args in
    c.is_aligned.ensures
    ∙ short-enough a.blocks a.self (omega (arith, c.length-length.ensures.equal))

-- `section::Section::has_buddy` meets its contract: what is tried on the disk is the buddy. Assumes nothing.
use mathlib.Core.Path.{ap, ◌∙◌}
use native.Mathlib.Omega.{arith}
use Rattle.section.specs.Sections.{has_buddy, is_on_disk}
use Rattle.section.specs.declared.Section.{Section}
use Rattle.section.proofs.Section.has_buddy.Goals as goal

pub is_on_disk-requires : goal.is_on_disk-requires
is_on_disk-requires c = omega (arith, ap (λ (s : Section). s.height.value) c.buddy.ensures, c.requires)

pub returns : goal.returns
unfolding has_buddy
returns c =
    c.is_on_disk.ensures ∙ ap (is_on_disk c.args.blocks) c.buddy.ensures

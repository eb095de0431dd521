-- `section_cases::check_lower_buddy` passes its check. Assumes nothing.
use Rattle.std.proofs.Common.{refl, ap}
use Rattle.section.specs.Sections.{is_on_disk, is_aligned, buddy_first}
use Rattle.section.specs.declared.Section.{Section}
use Rattle.section_cases.proofs.check_lower_buddy.Goals as goal

pub lower_buddy-buddy-requires-clause-lower_value :
    goal.lower_buddy-buddy-requires-clause-lower_value
unfolding is_on_disk is_aligned
lower_buddy-buddy-requires-clause-lower_value c = refl

pub lower_buddy-buddy-requires-clause-upper_value :
    goal.lower_buddy-buddy-requires-clause-upper_value
unfolding is_on_disk is_aligned
lower_buddy-buddy-requires-clause-upper_value c = refl

pub prove-unreachable-requires : goal.prove-unreachable-requires
unfolding buddy_first
prove-unreachable-requires c = c.if-prove.true (ap (λ (s : Section). s.first) c.lower_buddy-buddy.ensures.answer)

-- `section_cases::print_section` is safe for all numbers: what has a height is no higher than the greatest.
-- Assumes nothing.
use Rattle.std.proofs.Common.{sym}
use Rattle.section.proofs.Lengths.{length-of-height}
use Rattle.section_cases.proofs.print_section.Goals as goal

pub is_on_disk-requires : goal.is_on_disk-requires
is_on_disk-requires g c = (length-of-height c.args.length c.in-Some.height (sym c.in-Some.ensures)).0

pub print_parent_and_buddy-requires : goal.print_parent_and_buddy-requires
print_parent_and_buddy-requires g c =
    (length-of-height c.args.length c.in-Some.height (sym c.in-Some.ensures)).0

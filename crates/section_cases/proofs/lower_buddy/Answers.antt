-- `section_cases::lower_buddy` meets its contract, by the laws of `section` alone. Assumes nothing.
use Rattle.std.proofs.Common.{ap, ◌∙◌}
use Rattle.section.proofs.Answers.{on_disk_iff, has_buddy_iff}
use Rattle.section.proofs.Buddies.{buddy_of_lower}
use Rattle.section.specs.Sections.{is_on_disk, has_buddy}
use Rattle.section.specs.declared.Height.{Height}
use Rattle.section_cases.proofs.lower_buddy.Goals as goal

pub returns-clause-on_disk : goal.returns-clause-on_disk
unfolding has_buddy
returns-clause-on_disk c =
    let a = c.args in
    let h = a.lower.height.value in
    let low = (on_disk_iff a.blocks a.lower).0 c.requires.lower_value in
    let up = (on_disk_iff a.blocks a.upper).0 c.requires.upper_value in
    let same = ap (λ (x : Height). x.value) c.requires.height_value in
    let multiple = rw same at up.0 in
    let end = rw same at up.1 in
    let first = a.lower.first in
    let fits = buddy_of_lower h first a.upper.first a.blocks low.0 multiple c.requires.first_lt_first end in
    let there = (has_buddy_iff a.blocks a.lower low.0).1 fits in
    ap (is_on_disk a.blocks) c.buddy.ensures ∙ there

-- Sections in literal numbers: buddies and parents, what is inside what, what moves where, and which numbers are
-- lengths. Assumes nothing.
use mathlib.Core.Bool.{true, false}
use mathlib.Core.List.{[], ◌∷◌}
use mathlib.Core.Path.{◌≡◌, refl}
use Rattle.section.specs.Heights.{height_of}
use Rattle.std.specs.Prelude.{Some, None}
use Rattle.section.specs.Sections.{buddy_first, buddy_of, has_buddy, is_aligned, is_inside, is_on_disk, moved_into}
use Rattle.section.specs.Sections.{parent_first, parent_of, section, shares_block}

-- lower and upper halves, at several heights, and the halves of the greatest section
pub buddies_of_cases :
    buddy_of (section 4 0) ∷ buddy_of (section 5 0) ∷ buddy_of (section 8 2) ∷ buddy_of (section 12 2)
    ∷ buddy_of (section 0 19) ∷ buddy_of (section 524288 19) ∷ []
    ≡ section 5 0 ∷ section 4 0 ∷ section 12 2 ∷ section 8 2 ∷ section 524288 19 ∷ section 0 19 ∷ []
unfolding buddy_first
buddies_of_cases = refl

pub parents_of_cases :
    parent_of (section 4 0) ∷ parent_of (section 5 0) ∷ parent_of (section 8 2) ∷ parent_of (section 12 2)
    ∷ parent_of (section 524288 19) ∷ []
    ≡ section 4 1 ∷ section 4 1 ∷ section 8 3 ∷ section 8 3 ∷ section 0 20 ∷ []
unfolding parent_first
parents_of_cases = refl

-- case 10: the last section of a height has no buddy where that would end past C; with 6 blocks it has one
pub buddies_on_disk :
    has_buddy 5 (section 4 0) ∷ has_buddy 6 (section 4 0) ∷ has_buddy 5 (section 0 2) ∷ has_buddy 8 (section 0 2)
    ∷ has_buddy 7 (section 4 1) ∷ []
    ≡ false ∷ true ∷ false ∷ true ∷ false ∷ []
unfolding has_buddy is_on_disk is_aligned buddy_first
buddies_on_disk = refl

-- one inside the other, from its first block on and up to its last, and neighbours
pub shared_and_inside :
    shares_block (section 4 2) (section 7 0) ∷ shares_block (section 4 0) (section 4 2)
    ∷ shares_block (section 0 2) (section 4 2) ∷ shares_block (section 4 2) (section 0 2)
    ∷ is_inside (section 4 0) (section 4 2) ∷ is_inside (section 7 0) (section 4 2) ∷ is_inside (section 4 2) (section 4 2)
    ∷ is_inside (section 4 2) (section 4 0) ∷ is_inside (section 8 0) (section 4 2) ∷ is_inside (section 3 0) (section 4 2)
    ∷ []
    ≡ true ∷ true ∷ false ∷ false ∷ true ∷ true ∷ true ∷ false ∷ false ∷ false ∷ []
unfolding shares_block is_inside
shared_and_inside = refl

-- case 7: what lies at 3 inside (2,2) goes to 7 inside (6,2), and what is not inside stays
pub moves_of_cases :
    moved_into (section 2 1) (section 6 1) (section 3 0) ∷ moved_into (section 2 1) (section 6 1) (section 4 1)
    ∷ moved_into (section 2 1) (section 6 1) (section 0 2) ∷ []
    ≡ section 7 0 ∷ section 4 1 ∷ section 0 2 ∷ []
unfolding moved_into is_inside
moves_of_cases = refl

-- 1, 2, 32 and the greatest are lengths; 0, 3 and the double of the greatest are none
pub lengths_of_cases :
    height_of 1 ∷ height_of 2 ∷ height_of 32 ∷ height_of 4096 ∷ height_of 1048576 ∷ height_of 0 ∷ height_of 3
    ∷ height_of 2097152 ∷ []
    ≡ Some (record { value = 0 }) ∷ Some (record { value = 1 })
    ∷ Some (record { value = 5 }) ∷ Some (record { value = 12 })
    ∷ Some (record { value = 20 }) ∷ None ∷ None ∷ None ∷ []
unfolding height_of
lengths_of_cases = refl

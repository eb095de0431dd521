-- Which two are merged, and removals in which two free sections are buddies, computed in literal numbers: they pin the
-- definitions within this crate. Assumes nothing.
use mathlib.Core.List.{[], ◌∷◌}
use mathlib.Core.Path.{◌≡◌, refl}
use Rattle.layout.specs.Adding.{take_first}
use Rattle.layout.specs.Cases.{copy, file, removed}
use Rattle.layout.specs.Layout.{file_pieces, in_range}
use Rattle.layout.specs.Lists.{insert_by, sort_by}
use Rattle.layout.specs.Removing.{buddy_pair, copies_from, copies_of, copy_run, fewer, insert_all, layout_after}
use Rattle.layout.specs.Removing.{lowest_two, merge, merge_all, merge_copies, merge_pair, next_merge, pair}
use Rattle.layout.specs.Removing.{release, removal, without_file}
use Rattle.section.specs.Sections.{buddy_first, is_inside, moved_into, parent_first, section}

-- ---- choices

-- two that are buddies: the two highest, the two lowest, and in whatever order they stand the lower is the first
pub choices_of_buddies :
    merge_pair 1 (section 0 1 ∷ section 4 1 ∷ section 6 1 ∷ [])
    ∷ merge_pair 1 (section 0 1 ∷ section 2 1 ∷ section 4 1 ∷ [])
    ∷ merge_pair 1 (section 2 1 ∷ section 0 1 ∷ [])
    ∷ []
    ≡ pair (section 4 1) (section 6 1) (section 0 1 ∷ [])
    ∷ pair (section 0 1) (section 2 1) (section 4 1 ∷ [])
    ∷ pair (section 0 1) (section 2 1) []
    ∷ []
unfolding merge_pair buddy_pair lowest_two take_first buddy_first
choices_of_buddies = refl

-- else the two lowest: where two others are neighbours and no buddies, where there are buddies of another height, and
-- where a section of another height begins where the buddy would
pub choices_of_lowest :
    merge_pair 1 (section 0 1 ∷ section 6 1 ∷ section 8 1 ∷ [])
    ∷ merge_pair 0 (section 0 1 ∷ section 2 1 ∷ section 5 0 ∷ section 8 0 ∷ [])
    ∷ merge_pair 1 (section 0 1 ∷ section 2 0 ∷ section 4 1 ∷ [])
    ∷ []
    ≡ pair (section 0 1) (section 6 1) (section 8 1 ∷ [])
    ∷ pair (section 5 0) (section 8 0) (section 0 1 ∷ section 2 1 ∷ [])
    ∷ pair (section 0 1) (section 4 1) (section 2 0 ∷ [])
    ∷ []
unfolding merge_pair buddy_pair lowest_two take_first buddy_first
choices_of_lowest = refl

-- no two of the height are buddies: neighbours, buddies of another height, and a section of another height where the
-- buddy would begin
pub no_buddies :
    buddy_pair 1 (section 2 1 ∷ section 4 1 ∷ [])
    ∷ buddy_pair 0 (section 0 1 ∷ section 2 1 ∷ [])
    ∷ buddy_pair 1 (section 0 1 ∷ section 2 0 ∷ [])
    ∷ []
    ≡ fewer ∷ fewer ∷ fewer ∷ []
unfolding buddy_pair take_first buddy_first
no_buddies = refl

-- nothing is copied onto itself where the upper section is the buddy, and what files hold of the buddy where it is not
pub copies-of-two :
    merge_copies (file 1 (section 2 1 ∷ []) ∷ []) (section 0 1) (section 2 1)
    ∷ merge_copies (file 1 (section 2 1 ∷ []) ∷ []) (section 0 1) (section 4 1)
    ∷ []
    ≡ [] ∷ (copy 2 4 ∷ copy 3 5 ∷ []) ∷ []
unfolding file_pieces in_range copy_run copies_from buddy_first
copies-of-two = refl

-- ---- removals

-- height 1 has free sections at 0, 4 and 6: those at 4 and 6 are merged, nothing is copied, and id 2 stays
pub removal_buddies_highest :
    removed (file 3 (section 4 1 ∷ section 1 0 ∷ []))
    (record {
      blocks = 8;
      files = file 2 (section 2 1 ∷ []) ∷ file 3 (section 4 1 ∷ section 1 0 ∷ []) ∷ [];
      free = section 0 0 ∷ section 6 1 ∷ [];
    })
    ≡ record {
      copies = [];
      after = record { blocks = 8; files = file 2 (section 2 1 ∷ []) ∷ []; free = section 0 1 ∷ section 4 2 ∷ [] };
    }
unfolding removal release merge_all next_merge merge_pair buddy_pair lowest_two merge take_first file_pieces in_range copy_run
    copies_from copies_of layout_after insert_all without_file insert_by sort_by moved_into is_inside buddy_first parent_first
removal_buddies_highest = refl

-- height 1 has free sections at 0, 2 and 4: the buddies are the two lowest
pub removal_buddies_lowest :
    removed (file 1 (section 2 1 ∷ section 4 0 ∷ []))
    (record {
      blocks = 8;
      files = file 1 (section 2 1 ∷ section 4 0 ∷ []) ∷ file 2 (section 6 1 ∷ []) ∷ [];
      free = section 0 1 ∷ section 5 0 ∷ [];
    })
    ≡ record {
      copies = [];
      after = record { blocks = 8; files = file 2 (section 6 1 ∷ []) ∷ []; free = section 0 2 ∷ section 4 1 ∷ [] };
    }
unfolding removal release merge_all next_merge merge_pair buddy_pair lowest_two merge take_first file_pieces in_range copy_run
    copies_from copies_of layout_after insert_all without_file insert_by sort_by moved_into is_inside buddy_first parent_first
removal_buddies_lowest = refl

-- height 1 has free sections at 12, 20 and 22: those at 20 and 22 are merged without a copy, and the merges above copy
-- the more for it, 11 blocks in all, where the two lowest of each height would copy 7
pub removal_buddies_dearer :
    removed (file 1 (section 0 3 ∷ section 24 2 ∷ section 22 1 ∷ section 17 0 ∷ []))
    (record {
      blocks = 28;
      files =
          file 1 (section 0 3 ∷ section 24 2 ∷ section 22 1 ∷ section 17 0 ∷ [])
          ∷ file 2 (section 14 1 ∷ section 16 0 ∷ [])
          ∷ file 3 (section 8 2 ∷ section 18 1 ∷ section 12 0 ∷ []) ∷ [];
      free = section 13 0 ∷ section 20 1 ∷ [];
    })
    ≡ record {
      copies =
          copy 12 17
          ∷ copy 16 24 ∷ copy 17 25 ∷ copy 18 26 ∷ copy 19 27
          ∷ copy 8 16 ∷ copy 9 17 ∷ copy 10 18 ∷ copy 11 19 ∷ copy 14 22 ∷ copy 15 23 ∷ [];
      after = record {
        blocks = 28;
        files =
            file 2 (section 22 1 ∷ section 24 0 ∷ []) ∷ file 3 (section 16 2 ∷ section 26 1 ∷ section 25 0 ∷ []) ∷ [];
        free = section 0 4 ∷ section 20 1 ∷ [];
      };
    }
unfolding removal release merge_all next_merge merge_pair buddy_pair lowest_two merge take_first file_pieces in_range copy_run
    copies_from copies_of layout_after insert_all without_file insert_by sort_by moved_into is_inside buddy_first parent_first
removal_buddies_dearer = refl

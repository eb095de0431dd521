-- The rows of which removals let n blocks in, computed: they pin the definitions within this crate. Assumes nothing.
use mathlib.Core.List.{[], ◌∷◌}
use mathlib.Core.Path.{◌≡◌, refl}
use Rattle.layout.specs.Adding.{allocate, take_first, take_piece}
use Rattle.layout.specs.Cases.{added, case_six, singles}
use Rattle.layout.specs.Helping.{candidates_of, helping_ids}
use Rattle.layout.specs.HelpingRows.{Copies, Gives, case_six_rows, document_copies, edge_copies, edge_rows}
use Rattle.layout.specs.HelpingRows.{eight_files_copies, eight_files_rows, five_files, five_files_rows, sixty_four_rows}
use Rattle.layout.specs.Layout.{file_pieces, fresh_layout, in_range, pieces_from}
use Rattle.layout.specs.Lists.{insert_by, sort_by, times_in}
use Rattle.layout.specs.Removing.{buddy_pair, copies_from, copies_of, copy_run, insert_all, lowest_two}
use Rattle.layout.specs.Removing.{merge, merge_all, merge_pair, next_merge, release, removal, without_file}
use Rattle.section.specs.Sections.{buddy_first, is_inside, moved_into, parent_first}

-- the disks of the rows are those that the adds make
pub disks-added :
    added 2 2 (added 9 1 (added 5 3 (fresh_layout 13 16)))
    ∷ added 6 2 (added 4 3 (added 3 3 (added 2 3 (added 1 3 (fresh_layout 13 16)))))
    ∷ []
    ≡ case_six ∷ five_files ∷ []
unfolding fresh_layout pieces_from allocate take_piece take_first insert_by
disks-added = refl

-- the blocks that the removal of each file copies
pub copies-computed : Copies document_copies × Copies eight_files_copies × Copies edge_copies
unfolding removal release merge_all next_merge merge_pair buddy_pair lowest_two merge take_first file_pieces in_range copy_run
    copies_from copies_of insert_all without_file insert_by sort_by moved_into is_inside buddy_first parent_first
copies-computed = (refl, refl, refl)

-- the ids; and where nothing but single blocks is merged no removal of case 6 copies, and the ids alone decide
pub ids-computed :
    Gives case_six_rows × Gives five_files_rows × Gives eight_files_rows × Gives edge_rows × Gives sixty_four_rows
    × (helping_ids 1 11 case_six ≡ 2 ∷ 5 ∷ 9 ∷ [])
unfolding helping_ids candidates_of singles removal release merge_all next_merge merge_pair buddy_pair lowest_two merge
    take_first file_pieces in_range copy_run copies_from copies_of insert_all without_file insert_by sort_by moved_into is_inside
    buddy_first parent_first
ids-computed = (refl, refl, refl, refl, refl, refl)

-- how often a number stands in a list
pub times_computed :
    times_in 5 [] ∷ times_in 5 (2 ∷ 9 ∷ []) ∷ times_in 5 (2 ∷ 9 ∷ 5 ∷ []) ∷ times_in 5 (5 ∷ 2 ∷ 5 ∷ 9 ∷ 5 ∷ [])
    ∷ times_in 0 (0 ∷ 1 ∷ 0 ∷ []) ∷ []
    ≡ 0 ∷ 0 ∷ 1 ∷ 3 ∷ 2 ∷ []
times_computed = refl

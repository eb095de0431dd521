-- Cases 3, 4, 7, 9, 10 and 11 of document 01 on layouts alone, computed: they pin the definitions within this
-- crate. The table of all cases on bytes is in the crate `manager`. Assumes nothing.
use mathlib.Core.List.{[], ◌∷◌}
use mathlib.Core.Path.{◌≡◌, refl}
use Rattle.layout.specs.Adding.{allocate, allocated, take_first, take_piece}
use Rattle.layout.specs.Cases.{case_six, copy, file, five, removed}
use Rattle.layout.specs.Layout.{block_run, blocks_of, file_pieces, fresh_layout, in_range, pieces_from}
use Rattle.layout.specs.Lists.{insert_by, sort_by}
use Rattle.layout.specs.Removing.{buddy_pair, copies_from, copies_of, copy_run, insert_all, layout_after, lowest_two}
use Rattle.layout.specs.Removing.{merge, merge_all, merge_pair, next_merge, release, removal, without_file}
use Rattle.section.specs.Sections.{buddy_first, is_inside, moved_into, parent_first, section}

-- case 3: longest first from block 0
pub case_three_lem : (fresh_layout 13 261).free ≡ section 0 8 ∷ section 256 2 ∷ section 260 0 ∷ []
unfolding fresh_layout pieces_from
case_three_lem = refl

-- case 4: the lower half is used, the upper joins the free pieces
pub case_four : allocate 0 13 3 (section 0 4 ∷ [])
    ≡ allocated (section 0 1 ∷ section 2 0 ∷ []) (section 3 0 ∷ section 4 2 ∷ section 8 3 ∷ [])
unfolding allocate take_piece take_first insert_by
case_four = refl

-- cases 7, 9, 10 and 11
pub removals :
    removed five case_six
    ∷ removed (file 1 (section 0 0 ∷ []))
    (record { blocks = 2; files = file 1 (section 0 0 ∷ []) ∷ []; free = section 1 0 ∷ [] })
    ∷ removed (file 1 (section 4 0 ∷ []))
    (record {
      blocks = 5;
      files = file 1 (section 4 0 ∷ []) ∷ file 2 (section 0 0 ∷ []) ∷ [];
      free = section 1 0 ∷ section 2 1 ∷ [];
    })
    ∷ removed (file 1 (section 13 0 ∷ []))
    (record {
      blocks = 16;
      files =
          file 1 (section 13 0 ∷ []) ∷ file 2 (section 0 2 ∷ section 4 1 ∷ section 6 0 ∷ [])
          ∷ file 3 (section 8 2 ∷ section 12 0 ∷ []) ∷ [];
      free = section 7 0 ∷ section 14 1 ∷ [];
    })
    ∷ []
    ≡ (record {
      copies = copy 3 7 ∷ [];
      after = record {
        blocks = 16;
        files = file 2 (section 4 1 ∷ []) ∷ file 9 (section 7 0 ∷ []) ∷ [];
        free = section 0 2 ∷ section 6 0 ∷ section 8 3 ∷ [];
      };
    })
    ∷ (record { copies = []; after = record { blocks = 2; files = []; free = section 0 1 ∷ [] } })
    ∷ (record {
      copies = copy 0 4 ∷ [];
      after = record { blocks = 5; files = file 2 (section 4 0 ∷ []) ∷ []; free = section 0 2 ∷ [] };
    })
    ∷ (record {
      copies = copy 6 13 ∷ copy 4 14 ∷ copy 5 15 ∷ [];
      after = record {
        blocks = 16;
        files =
            file 2 (section 0 2 ∷ section 14 1 ∷ section 13 0 ∷ []) ∷ file 3 (section 8 2 ∷ section 12 0 ∷ []) ∷ [];
        free = section 4 2 ∷ [];
      };
    })
    ∷ []
unfolding removal release merge_all next_merge merge_pair buddy_pair lowest_two merge take_first file_pieces in_range copy_run
    copies_from copies_of layout_after insert_all without_file insert_by sort_by moved_into is_inside buddy_first parent_first
removals = refl

-- two free pieces that lie apart in the buddy: the blocks before, between and behind them are copied, and they move
pub removal_around_free_pieces :
    removed (file 1 (section 16 3 ∷ []))
    (record {
      blocks = 24;
      files =
          file 1 (section 16 3 ∷ []) ∷ file 2 (section 10 1 ∷ section 8 0 ∷ []) ∷ file 3 (section 14 1 ∷ []) ∷ [];
      free = section 0 3 ∷ section 9 0 ∷ section 12 1 ∷ [];
    })
    ≡ record {
      copies = copy 8 16 ∷ copy 10 18 ∷ copy 11 19 ∷ copy 14 22 ∷ copy 15 23 ∷ [];
      after = record {
        blocks = 24;
        files = file 2 (section 18 1 ∷ section 16 0 ∷ []) ∷ file 3 (section 22 1 ∷ []) ∷ [];
        free = section 0 4 ∷ section 17 0 ∷ section 20 1 ∷ [];
      };
    }
unfolding removal release merge_all next_merge merge_pair buddy_pair lowest_two merge take_first file_pieces in_range copy_run
    copies_from copies_of layout_after insert_all without_file insert_by sort_by moved_into is_inside buddy_first parent_first
removal_around_free_pieces = refl

-- case 11: id 2 is read as blocks 0 to 3, 14, 15, 13
pub case_eleven_blocks : blocks_of (section 0 2 ∷ section 14 1 ∷ section 13 0 ∷ [])
    ≡ 0 ∷ 1 ∷ 2 ∷ 3 ∷ 14 ∷ 15 ∷ 13 ∷ []
unfolding blocks_of block_run
case_eleven_blocks = refl

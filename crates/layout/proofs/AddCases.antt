-- Cases 5, 6 and 8 of document 01 on layouts, splits through all heights, the files of case 6 by id, page order and
-- blocks in a range, in literal numbers. Assumes nothing.
use mathlib.Core.Bool.{false, true}
use mathlib.Core.List.{[], ◌∷◌}
use mathlib.Core.Path.{◌≡◌, refl}
use Rattle.layout.specs.Adding.{allocate, allocated, take_first, take_piece, too_few, with_file}
use Rattle.layout.specs.Layout.{by_length, find_file, found, free_blocks, has_file, in_range, missing}
use Rattle.layout.specs.Lists.{insert_by, sort_by}
use Rattle.section.specs.Sections.{section}
use Rattle.layout.specs.Cases.{case_six, disk, five, nine}

-- case 5: one block; case 6: two; case 8: ten, and eleven are too many
pub cases_five_to_eight :
    allocate 0 13 1 (section 3 0 ∷ section 4 2 ∷ section 8 3 ∷ [])
    ∷ allocate 0 13 2 (section 4 2 ∷ section 8 3 ∷ [])
    ∷ allocate 0 13 10 (section 6 1 ∷ section 8 3 ∷ [])
    ∷ allocate 0 13 11 (section 6 1 ∷ section 8 3 ∷ [])
    ∷ []
    ≡ allocated (section 3 0 ∷ []) (section 4 2 ∷ section 8 3 ∷ [])
    ∷ allocated (section 4 1 ∷ []) (section 6 1 ∷ section 8 3 ∷ [])
    ∷ allocated (section 8 3 ∷ section 6 1 ∷ []) []
    ∷ too_few
    ∷ []
unfolding allocate take_piece take_first insert_by
cases_five_to_eight = refl

-- one block of the greatest disk: a split at each of the 20 heights below the greatest
pub split_all_heights : allocate 0 21 1 (section 0 20 ∷ [])
    ≡ allocated (section 0 0 ∷ [])
    (section 1 0 ∷ section 2 1 ∷ section 4 2 ∷ section 8 3 ∷ section 16 4 ∷ section 32 5 ∷ section 64 6
    ∷ section 128 7 ∷ section 256 8 ∷ section 512 9 ∷ section 1024 10 ∷ section 2048 11 ∷ section 4096 12
    ∷ section 8192 13 ∷ section 16384 14 ∷ section 32768 15 ∷ section 65536 16 ∷ section 131072 17
    ∷ section 262144 18 ∷ section 524288 19 ∷ [])
unfolding allocate take_piece take_first insert_by
split_all_heights = refl

-- five blocks: four split from the piece at 32, since the one at 0 is too short, and one from that at 0
pub split_two_pieces : allocate 0 13 5 (section 0 1 ∷ section 32 5 ∷ [])
    ≡ allocated (section 32 2 ∷ section 0 0 ∷ []) (section 1 0 ∷ section 36 2 ∷ section 40 3 ∷ section 48 4 ∷ [])
unfolding allocate take_piece take_first insert_by
split_two_pieces = refl

-- case 6: id 2 stands before 5 and 9, and f is 10
pub case_six_layout :
    with_file 2 (section 4 1 ∷ []) (section 6 1 ∷ section 8 3 ∷ [])
    (disk 16 (five ∷ nine ∷ []) (section 4 2 ∷ section 8 3 ∷ []))
    ≡ case_six
unfolding insert_by
case_six_layout = refl

pub case_six_free : free_blocks case_six ≡ 10
case_six_free = refl

-- the files of case 6 by their ids
pub case_six_files :
    find_file 9 case_six.files ∷ find_file 5 case_six.files ∷ find_file 7 case_six.files ∷ []
    ≡ found nine ∷ found five ∷ missing ∷ []
unfolding find_file
case_six_files = refl

pub case_six_has :
    has_file 9 case_six.files ∷ has_file 2 case_six.files ∷ has_file 7 case_six.files ∷ []
    ≡ true ∷ true ∷ false ∷ []
unfolding find_file
case_six_has = refl

-- case 11: the pairs by first block, and by length for page order
pub case_eleven_order : sort_by by_length (section 0 2 ∷ section 13 0 ∷ section 14 1 ∷ [])
    ≡ section 0 2 ∷ section 14 1 ∷ section 13 0 ∷ []
unfolding sort_by insert_by
case_eleven_order = refl

-- the two blocks from 4 on are 4 and 5
pub blocks_in_range : in_range 3 4 2 ∷ in_range 4 4 2 ∷ in_range 5 4 2 ∷ in_range 6 4 2 ∷ [] ≡ 0 ∷ 1 ∷ 1 ∷ 0 ∷ []
unfolding in_range
blocks_in_range = refl

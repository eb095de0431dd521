-- The bytes of cases 3, 7, 8 and 11 of document 01, literally, in both versions: header, a line for each file's entry,
-- the free pairs, and for case 8 the zero bytes to the end. Assumes nothing.
use mathlib.Core.List.{[], ◌∷◌}
use mathlib.Core.Path.{◌≡◌, refl}
use lib.ListN.{replicate}
use Rattle.catalogue.specs.Cases.{case_eight, case_eleven, case_seven, case_three}
use Rattle.catalogue.specs.Encoding.{big_endian, encode, entries_bytes, entry_bytes, header_bytes, pair_bytes}
use Rattle.catalogue.specs.Encoding.{pairs_bytes, used_bytes}
use Rattle.catalogue.specs.Version.{version1, version2}
use Rattle.layout.specs.Lists.{insert_by, sort_by}

-- numbers above 255
pub case_three-bytes : used_bytes version1 case_three
    ≡ 0 ∷ 1 ∷ 1 ∷ 5 ∷ 0 ∷ 0
    ∷ 0 ∷ 0 ∷ 1 ∷ 0 ∷ 1 ∷ 0 ∷ 0 ∷ 4 ∷ 1 ∷ 4 ∷ 0 ∷ 1 ∷ []
unfolding used_bytes header_bytes entries_bytes entry_bytes pairs_bytes pair_bytes big_endian sort_by insert_by
case_three-bytes = refl

pub case_three-large-bytes : used_bytes version2 case_three
    ≡ 0 ∷ 2 ∷ 0 ∷ 0 ∷ 1 ∷ 5 ∷ 0 ∷ 0
    ∷ 0 ∷ 0 ∷ 0 ∷ 0 ∷ 0 ∷ 0 ∷ 1 ∷ 0 ∷ 0 ∷ 0 ∷ 1 ∷ 0 ∷ 0 ∷ 0 ∷ 0 ∷ 4 ∷ 0 ∷ 0 ∷ 1 ∷ 4 ∷ 0 ∷ 0 ∷ 0 ∷ 1 ∷ []
unfolding used_bytes header_bytes entries_bytes entry_bytes pairs_bytes pair_bytes big_endian sort_by insert_by
case_three-large-bytes = refl

pub case_seven-bytes : used_bytes version1 case_seven
    ≡ 0 ∷ 1 ∷ 0 ∷ 16 ∷ 0 ∷ 2
    ∷ 0 ∷ 2 ∷ 0 ∷ 2 ∷ 0 ∷ 4 ∷ 0 ∷ 2
    ∷ 0 ∷ 9 ∷ 0 ∷ 1 ∷ 0 ∷ 7 ∷ 0 ∷ 1
    ∷ 0 ∷ 0 ∷ 0 ∷ 4 ∷ 0 ∷ 6 ∷ 0 ∷ 1 ∷ 0 ∷ 8 ∷ 0 ∷ 8 ∷ []
unfolding used_bytes header_bytes entries_bytes entry_bytes pairs_bytes pair_bytes big_endian sort_by insert_by
case_seven-bytes = refl

pub case_seven-large-bytes : used_bytes version2 case_seven
    ≡ 0 ∷ 2 ∷ 0 ∷ 0 ∷ 0 ∷ 16 ∷ 0 ∷ 2
    ∷ 0 ∷ 2 ∷ 0 ∷ 0 ∷ 0 ∷ 2 ∷ 0 ∷ 0 ∷ 0 ∷ 4 ∷ 0 ∷ 0 ∷ 0 ∷ 2
    ∷ 0 ∷ 9 ∷ 0 ∷ 0 ∷ 0 ∷ 1 ∷ 0 ∷ 0 ∷ 0 ∷ 7 ∷ 0 ∷ 0 ∷ 0 ∷ 1
    ∷ 0 ∷ 0 ∷ 0 ∷ 0 ∷ 0 ∷ 0 ∷ 0 ∷ 4 ∷ 0 ∷ 0 ∷ 0 ∷ 6 ∷ 0 ∷ 0 ∷ 0 ∷ 1 ∷ 0 ∷ 0 ∷ 0 ∷ 8 ∷ 0 ∷ 0 ∷ 0 ∷ 8 ∷ []
unfolding used_bytes header_bytes entries_bytes entry_bytes pairs_bytes pair_bytes big_endian sort_by insert_by
case_seven-large-bytes = refl

-- id 7 has its pairs by first block, (6,2) (8,8); zero bytes follow the last entry, as nothing is free
pub case_eight_bytes : encode version1 case_eight
    ≡ 0 ∷ 1 ∷ 0 ∷ 16 ∷ 0 ∷ 4
    ∷ 0 ∷ 2 ∷ 0 ∷ 2 ∷ 0 ∷ 4 ∷ 0 ∷ 2
    ∷ 0 ∷ 5 ∷ 0 ∷ 3 ∷ 0 ∷ 0 ∷ 0 ∷ 2 ∷ 0 ∷ 2 ∷ 0 ∷ 1
    ∷ 0 ∷ 7 ∷ 0 ∷ 10 ∷ 0 ∷ 6 ∷ 0 ∷ 2 ∷ 0 ∷ 8 ∷ 0 ∷ 8
    ∷ 0 ∷ 9 ∷ 0 ∷ 1 ∷ 0 ∷ 3 ∷ 0 ∷ 1
    ∷ replicate 4050 0
unfolding encode used_bytes header_bytes entries_bytes entry_bytes pairs_bytes pair_bytes big_endian sort_by insert_by
case_eight_bytes = refl

pub case_eight_large_bytes : encode version2 case_eight
    ≡ 0 ∷ 2 ∷ 0 ∷ 0 ∷ 0 ∷ 16 ∷ 0 ∷ 4
    ∷ 0 ∷ 2 ∷ 0 ∷ 0 ∷ 0 ∷ 2 ∷ 0 ∷ 0 ∷ 0 ∷ 4 ∷ 0 ∷ 0 ∷ 0 ∷ 2
    ∷ 0 ∷ 5 ∷ 0 ∷ 0 ∷ 0 ∷ 3 ∷ 0 ∷ 0 ∷ 0 ∷ 0 ∷ 0 ∷ 0 ∷ 0 ∷ 2 ∷ 0 ∷ 0 ∷ 0 ∷ 2 ∷ 0 ∷ 0 ∷ 0 ∷ 1
    ∷ 0 ∷ 7 ∷ 0 ∷ 0 ∷ 0 ∷ 10 ∷ 0 ∷ 0 ∷ 0 ∷ 6 ∷ 0 ∷ 0 ∷ 0 ∷ 2 ∷ 0 ∷ 0 ∷ 0 ∷ 8 ∷ 0 ∷ 0 ∷ 0 ∷ 8
    ∷ 0 ∷ 9 ∷ 0 ∷ 0 ∷ 0 ∷ 1 ∷ 0 ∷ 0 ∷ 0 ∷ 3 ∷ 0 ∷ 0 ∷ 0 ∷ 1
    ∷ replicate 16304 0
unfolding encode used_bytes header_bytes entries_bytes entry_bytes pairs_bytes pair_bytes big_endian sort_by insert_by
case_eight_large_bytes = refl

-- id 2 has its pairs by first block, (0,4) (13,1) (14,2)
pub case_eleven_bytes : used_bytes version1 case_eleven
    ≡ 0 ∷ 1 ∷ 0 ∷ 16 ∷ 0 ∷ 2
    ∷ 0 ∷ 2 ∷ 0 ∷ 7 ∷ 0 ∷ 0 ∷ 0 ∷ 4 ∷ 0 ∷ 13 ∷ 0 ∷ 1 ∷ 0 ∷ 14 ∷ 0 ∷ 2
    ∷ 0 ∷ 3 ∷ 0 ∷ 5 ∷ 0 ∷ 8 ∷ 0 ∷ 4 ∷ 0 ∷ 12 ∷ 0 ∷ 1
    ∷ 0 ∷ 4 ∷ 0 ∷ 4 ∷ []
unfolding used_bytes header_bytes entries_bytes entry_bytes pairs_bytes pair_bytes big_endian sort_by insert_by
case_eleven_bytes = refl

pub case_eleven_large_bytes : used_bytes version2 case_eleven
    ≡ 0 ∷ 2 ∷ 0 ∷ 0 ∷ 0 ∷ 16 ∷ 0 ∷ 2
    ∷ 0 ∷ 2 ∷ 0 ∷ 0 ∷ 0 ∷ 7
    ∷ 0 ∷ 0 ∷ 0 ∷ 0 ∷ 0 ∷ 0 ∷ 0 ∷ 4 ∷ 0 ∷ 0 ∷ 0 ∷ 13 ∷ 0 ∷ 0 ∷ 0 ∷ 1 ∷ 0 ∷ 0 ∷ 0 ∷ 14 ∷ 0 ∷ 0 ∷ 0 ∷ 2
    ∷ 0 ∷ 3 ∷ 0 ∷ 0 ∷ 0 ∷ 5 ∷ 0 ∷ 0 ∷ 0 ∷ 8 ∷ 0 ∷ 0 ∷ 0 ∷ 4 ∷ 0 ∷ 0 ∷ 0 ∷ 12 ∷ 0 ∷ 0 ∷ 0 ∷ 1
    ∷ 0 ∷ 0 ∷ 0 ∷ 4 ∷ 0 ∷ 0 ∷ 0 ∷ 4 ∷ []
unfolding used_bytes header_bytes entries_bytes entry_bytes pairs_bytes pair_bytes big_endian sort_by insert_by
case_eleven_large_bytes = refl

-- The text of cases 3, 7, 8 and 11 of document 01, of numbers of several digits and of refusals, literally. Assumes
-- nothing.
use mathlib.Core.List.{List, [], ◌∷◌, map}
use mathlib.Core.Path.{◌≡◌, refl}
use Prim.Native.Nat.{ℕ}
use Prim.Native.String.{String}
use lib.ListN.{replicate}
use Rattle.catalogue.specs.Cases.{case_eight, case_eleven, case_seven, case_three}
use Rattle.catalogue.specs.Reading.{judged, read_catalogue, read_from, read_header, read_layout}
use Rattle.catalogue.specs.Version.{version_for}
use Rattle.layout.specs.Layout.{Layout}
use Rattle.layout.specs.Lists.{insert_by, sort_by}
use Rattle.manager.specs.Cases.{codes, lines}
use Rattle.manager.specs.Printing.{all_file_lines, decimal, decimal_in, file_lines, first_line, layout_text, pair_line}
use Rattle.manager.specs.Printing.{pair_lines, printed, printed_in, refusal_text}
use Rattle.section.specs.Sections.{section}

-- the characters of the texts in ASCII
pub character_codes : codes " 0123456789bcdefiklorsu"
    ≡ 32 ∷ 48 ∷ 49 ∷ 50 ∷ 51 ∷ 52 ∷ 53 ∷ 54 ∷ 55 ∷ 56 ∷ 57
    ∷ 98 ∷ 99 ∷ 100 ∷ 101 ∷ 102 ∷ 105 ∷ 107 ∷ 108 ∷ 111 ∷ 114 ∷ 115 ∷ 117 ∷ []
character_codes = refl

-- numbers of three digits
pub case_three_text : layout_text case_three
    ≡ lines (
    "blocks 261 free 261"
    ∷ "free"
    ∷ "0 256"
    ∷ "256 4"
    ∷ "260 1"
    ∷ []
    )
unfolding layout_text first_line all_file_lines file_lines pair_lines pair_line decimal_in sort_by insert_by
case_three_text = refl

-- the whole output that document 01 gives
pub case_seven_text : layout_text case_seven
    ≡ lines (
    "blocks 16 free 13"
    ∷ "file 2 blocks 2"
    ∷ "4 2"
    ∷ "file 9 blocks 1"
    ∷ "7 1"
    ∷ "free"
    ∷ "0 4"
    ∷ "6 1"
    ∷ "8 8"
    ∷ []
    )
unfolding layout_text first_line all_file_lines file_lines pair_lines pair_line decimal_in sort_by insert_by
case_seven_text = refl

-- the pairs of id 7 by first block; the line "free" stands though nothing is free
pub case_eight_text : layout_text case_eight
    ≡ lines (
    "blocks 16 free 0"
    ∷ "file 2 blocks 2"
    ∷ "4 2"
    ∷ "file 5 blocks 3"
    ∷ "0 2"
    ∷ "2 1"
    ∷ "file 7 blocks 10"
    ∷ "6 2"
    ∷ "8 8"
    ∷ "file 9 blocks 1"
    ∷ "3 1"
    ∷ "free"
    ∷ []
    )
unfolding layout_text first_line all_file_lines file_lines pair_lines pair_line decimal_in sort_by insert_by
case_eight_text = refl

-- the pairs of id 2 by first block
pub case_eleven_text : layout_text case_eleven
    ≡ lines (
    "blocks 16 free 4"
    ∷ "file 2 blocks 7"
    ∷ "0 4"
    ∷ "13 1"
    ∷ "14 2"
    ∷ "file 3 blocks 5"
    ∷ "8 4"
    ∷ "12 1"
    ∷ "free"
    ∷ "4 4"
    ∷ []
    )
unfolding layout_text first_line all_file_lines file_lines pair_lines pair_line decimal_in sort_by insert_by
case_eleven_text = refl

-- the greatest disk, and the greatest id
abbrev halves : Layout
halves = record {
  blocks = 1048576;
  files = (record { id = 65535; pieces = section 524288 19 ∷ [] }) ∷ [];
  free = section 0 19 ∷ [];
}

pub greatest_numbers_text : layout_text halves
    ≡ lines (
    "blocks 1048576 free 524288"
    ∷ "file 65535 blocks 524288"
    ∷ "524288 524288"
    ∷ "free"
    ∷ "0 524288"
    ∷ []
    )
unfolding layout_text first_line all_file_lines file_lines pair_lines pair_line decimal_in sort_by insert_by
greatest_numbers_text = refl

pub refusal_texts : (refusal_text 1 ≡ lines ("refused 1" ∷ [])) × (refusal_text 3 ≡ lines ("refused 3" ∷ []))
unfolding refusal_text decimal_in
refusal_texts = (refl, refl)

-- no leading zero, and the digits from the highest on
pub decimals : (decimal 0 ≡ codes "0") × (decimal 9 ≡ codes "9") × (decimal 10 ≡ codes "10")
    × (decimal 261 ≡ codes "261") × (decimal 1048576 ≡ codes "1048576")
unfolding decimal_in
decimals = (refl, refl, refl, refl, refl)

-- inputs of zero bytes alone, as many as each number says, are printed as this one line
abbrev ZerosPrinted : String → List ℕ → Type 0
ZerosPrinted s counts = map (λ n. printed (replicate n 0)) counts ≡ map (λ n. lines (s ∷ [])) counts

-- an input that has not the length of a catalogue, and one that has it and is not sound
pub zeros-printed :
    ZerosPrinted "refused 1" (0 ∷ 4095 ∷ 4097 ∷ 16383 ∷ 16385 ∷ []) × ZerosPrinted "refused 3" (4096 ∷ 16384 ∷ [])
unfolding printed_in version_for refusal_text decimal_in read_catalogue judged read_layout read_header read_from
zeros-printed = (refl, refl)

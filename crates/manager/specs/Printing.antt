-- The text of a catalogue: document 01, "Printing a catalogue". Definitions only.
-- Text is a list of ASCII bytes; a line ends with the byte 0A hex.
use Rattle.std.specs.Prelude.{true, false, List, [], ◌∷◌, ◌++◌, ℕ, zero, suc, ◌+◌, ◌/◌, ◌%◌, ltb, eqb, length}
use Rattle.section.specs.declared.Section.{Section}
use Rattle.section.specs.Sections.{length_of}
use Rattle.layout.specs.Lists.{sort_by}
use Rattle.layout.specs.Layout.{File, Layout, by_first, file_blocks, free_blocks}
use Rattle.catalogue.specs.Version.{version_of}
use Rattle.catalogue.specs.declared.Version.{Version}
use Rattle.catalogue.specs.Reading.{Reading, sound, unsound, read_catalogue}

-- the byte of the digit 0
abbrev pub digit_zero : ℕ
digit_zero = 48

abbrev pub space : List ℕ
space = 32 ∷ []

abbrev pub line_end : List ℕ
line_end = 10 ∷ []

-- n in decimal without leading zeros; the first argument is at least the number of digits
unfoldable pub decimal_in : ℕ → ℕ → List ℕ
decimal_in zero n = []
decimal_in (suc k) n =
    elim (ltb n 10) as (λ _. List ℕ) [
      | true ↦ (digit_zero + n) ∷ []
      | false ↦ decimal_in k (n / 10) ++ ((digit_zero + n % 10) ∷ [])
    ]

-- numbers below 10 ^ 10
abbrev pub decimal : ℕ → List ℕ
decimal n = decimal_in 10 n

-- "blocks", "free", "file" and "refused"
abbrev pub blocks_word : List ℕ
blocks_word = 98 ∷ 108 ∷ 111 ∷ 99 ∷ 107 ∷ 115 ∷ []

abbrev pub free_word : List ℕ
free_word = 102 ∷ 114 ∷ 101 ∷ 101 ∷ []

abbrev pub file_word : List ℕ
file_word = 102 ∷ 105 ∷ 108 ∷ 101 ∷ []

abbrev pub refused_word : List ℕ
refused_word = 114 ∷ 101 ∷ 102 ∷ 117 ∷ 115 ∷ 101 ∷ 100 ∷ []

-- a pair line: first block and length
unfoldable pub pair_line : Section → List ℕ
pair_line s = decimal s.first ++ (space ++ (decimal (length_of s) ++ line_end))

unfoldable pub pair_lines : List Section → List ℕ
pair_lines [] = []
pair_lines (s ∷ l) = pair_line s ++ pair_lines l

-- a file line: id and n; then its pairs by first block
unfoldable pub file_lines : File → List ℕ
file_lines f =
    file_word
    ++ (space ++ (decimal f.id ++ (space ++ (blocks_word ++ (space ++ (decimal (file_blocks f) ++ line_end))))))
    ++ pair_lines (sort_by by_first f.pieces)

unfoldable pub all_file_lines : List File → List ℕ
all_file_lines [] = []
all_file_lines (f ∷ l) = file_lines f ++ all_file_lines l

-- the first line: C and f
unfoldable pub first_line : Layout → List ℕ
first_line l =
    blocks_word
    ++ (space ++ (decimal l.blocks ++ (space ++ (free_word ++ (space ++ (decimal (free_blocks l) ++ line_end))))))

-- the whole text of a layout; the line "free" always stands
unfoldable pub layout_text : Layout → List ℕ
layout_text l = first_line l ++ (all_file_lines l.files ++ ((free_word ++ line_end) ++ pair_lines l.free))

-- a refusal is the only line
unfoldable pub refusal_text : ℕ → List ℕ
refusal_text n = refused_word ++ (space ++ (decimal n ++ line_end))

abbrev pub reading_text : Reading → List ℕ
reading_text (sound l) = layout_text l
reading_text unsound = refusal_text 3

-- the output for an input, in version v
unfoldable pub printed_in : Version → List ℕ → List ℕ
printed_in v cat =
    elim (eqb (length cat) v.bytes) as (λ _. List ℕ) [
      | true ↦ reading_text (read_catalogue v cat)
      | false ↦ refusal_text 1
    ]

-- the output for an input, in the version of its length
abbrev pub printed : List ℕ → List ℕ
printed cat = printed_in (version_of cat) cat

-- A section in a word of 32 bits, and lists of words seen as lists of sections. Definitions only. Whoever reads the
-- contracts of the calls need not believe them: no call gives a word away, and any word in which a section is found
-- again would do.
use Rattle.std.specs.Prelude.{List, map, ◌≡◌, ℕ, ◌%◌, ◌*◌, ◌+◌, ◌/◌, ◌<◌, ◌^◌}
use Rattle.section.specs.Sections.{section}
use Rattle.section.specs.declared.Section.{Section}
use Rattle.piece.specs.declared.Piece.{Piece}

-- how many heights a word tells apart
abbrev pub heights_in_word : ℕ
heights_in_word = 32

-- how many first blocks: 2 ^ 32 words in all
abbrev pub firsts_in_word : ℕ
firsts_in_word = 2 ^ 32 / heights_in_word

-- the section in a word
unfoldable pub section_in : Piece → Section
section_in p = section (p.word / heights_in_word) (p.word % heights_in_word)

-- the word of a section
unfoldable pub piece_of : Section → Piece
piece_of s = record { word = s.first * heights_in_word + s.height.value }

-- the section fits a word
pub record FitsWord (s : Section) : Type 0 where
  pub first : s.first < firsts_in_word
  pub height : s.height.value < heights_in_word

-- r is the word of the section, and has it
pub record Packs (s : Section) (r : Piece) : Type 0 where
  pub word : r ≡ piece_of s
  pub holds : section_in r ≡ s

-- the sections in words
unfoldable pub seen : List Piece → List Section
seen l = map section_in l

-- the word where no piece is
abbrev pub no_piece : Piece
no_piece = record { word = 0 }

-- The order of pieces in the bytes. Definitions only.
use Rattle.std.specs.Prelude.{Bool, ◌&&◌, not, List, ltb, eqb}
use Rattle.section.specs.declared.Section.{Section}
use Rattle.section.specs.Sections.{length_of}
use Rattle.catalogue.specs.Reading.{pairwise}

-- t starts after s and has another length
unfoldable pub in_turn : Section → Section → Bool
in_turn s t = ltb s.first t.first && not (eqb (length_of s) (length_of t))

-- first blocks rise and lengths are distinct
abbrev pub in_order : List Section → Bool
in_order l = pairwise in_turn l

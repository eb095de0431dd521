-- The bytes of a catalogue, from a layout: document 01, "The catalogue". Definitions only.
use Rattle.std.specs.Prelude.{List, [], ◌∷◌, ◌++◌, ◌%◌, ◌-◌, ◌/◌, ◌<◌, ◌^◌, suc, zero, ℕ, length, replicate}
use Rattle.section.specs.declared.Section.{Section}
use Rattle.section.specs.Sections.{length_of}
use Rattle.layout.specs.Lists.{Each, sort_by}
use Rattle.layout.specs.Layout.{File, Layout, file_blocks, by_first}
use Rattle.catalogue.specs.Version.{short_field}
use Rattle.catalogue.specs.declared.Version.{Version}

-- the values of a byte
abbrev pub byte_values : ℕ
byte_values = 256

-- each number is a byte
abbrev pub Bytes : List ℕ → Type 0
Bytes bs = Each (λ b. b < byte_values) bs

-- x in w bytes, the highest first
unfoldable pub big_endian : ℕ → ℕ → List ℕ
big_endian zero x = []
big_endian (suc w) x = x / byte_values ^ w % byte_values ∷ big_endian w x

-- a pair: first block and length
unfoldable pub pair_bytes : ℕ → Section → List ℕ
pair_bytes w s = big_endian w s.first ++ big_endian w (length_of s)

unfoldable pub pairs_bytes : ℕ → List Section → List ℕ
pairs_bytes w [] = []
pairs_bytes w (s ∷ l) = pair_bytes w s ++ pairs_bytes w l

-- a file entry: id, n, and the pairs by rising first block
unfoldable pub entry_bytes : ℕ → File → List ℕ
entry_bytes w f =
    big_endian short_field f.id ++ (big_endian w (file_blocks f) ++ pairs_bytes w (sort_by by_first f.pieces))

unfoldable pub entries_bytes : ℕ → List File → List ℕ
entries_bytes w [] = []
entries_bytes w (f ∷ l) = entry_bytes w f ++ entries_bytes w l

-- version, C and the number of files
unfoldable pub header_bytes : Version → Layout → List ℕ
header_bytes v l =
    big_endian short_field v.number
    ++ (big_endian v.width l.blocks ++ big_endian short_field (length l.files))

-- header, file entries, free pairs
unfoldable pub used_bytes : Version → Layout → List ℕ
used_bytes v l = header_bytes v l ++ (entries_bytes v.width l.files ++ pairs_bytes v.width l.free)

-- the used bytes, and zero bytes to the end
unfoldable pub encode : Version → Layout → List ℕ
encode v l = used_bytes v l ++ replicate (v.bytes - length (used_bytes v l)) 0

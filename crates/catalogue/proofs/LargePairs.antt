-- Pairs of the large catalogue, literally: four bytes a field, lengths up to 1,048,576. Assumes nothing.
use mathlib.Core.List.{[], ◌∷◌}
use mathlib.Core.Path.{◌≡◌, refl}
use Rattle.catalogue.proofs.Grouping.{pair_bytes_parts}
use Rattle.catalogue.specs.Encoding.{big_endian, pair_bytes}
use Rattle.catalogue.specs.Reading.{bad, got, read_from, read_pair}
use Rattle.catalogue.specs.Version.{version2}
use Rattle.section.specs.Heights.{height_of}
use Rattle.section.specs.Sections.{section}

-- the last block of the greatest disk
pub last-block-bytes : pair_bytes version2.width (section 1048575 0)
    ≡ 0 ∷ 15 ∷ 255 ∷ 255 ∷ 0 ∷ 0 ∷ 0 ∷ 1 ∷ []
unfolding big_endian
last-block-bytes = pair_bytes_parts version2.width (section 1048575 0)

pub last-block-read : read_pair version2.width (0 ∷ 15 ∷ 255 ∷ 255 ∷ 0 ∷ 0 ∷ 0 ∷ 1 ∷ [])
    ≡ got (section 1048575 0) []
unfolding read_pair read_from height_of
last-block-read = refl

-- the whole of the greatest disk, and a length of twice as many blocks
pub greatest-length-read : read_pair version2.width (0 ∷ 0 ∷ 0 ∷ 0 ∷ 0 ∷ 16 ∷ 0 ∷ 0 ∷ [])
    ≡ got (section 0 20) []
unfolding read_pair read_from height_of
greatest-length-read = refl

pub longer_is_no_length : read_pair version2.width (0 ∷ 0 ∷ 0 ∷ 0 ∷ 0 ∷ 32 ∷ 0 ∷ 0 ∷ []) ≡ bad
unfolding read_pair read_from height_of
longer_is_no_length = refl

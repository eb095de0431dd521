-- The versions of the catalogue: everything about its bytes is over this record. Definitions only.
-- The record is the struct `Version` of src/lib.rt: the number in the header, the bytes of a field for a number of
-- blocks, those of the whole catalogue, and how many heights there are, from 0 on.
use Rattle.std.specs.Prelude.{cond, List, [], ◌∷◌, ℕ, ◌+◌, ◌-◌, ◌^◌, ◌≤◌, eqb, length}
use Rattle.section.specs.Limits.{height_count, large_catalogue, small_catalogue, small_height_count}
use Rattle.catalogue.specs.declared.Version.{Version}

-- the bytes of a field for a version, a number of files or an id
abbrev pub short_field : ℕ
short_field = 2

-- the most bytes of a field
abbrev pub widest_field : ℕ
widest_field = 4

-- the bytes of version, C and number of files, with w bytes for C
abbrev pub header_size : ℕ → ℕ
header_size w = short_field + w + short_field

-- the small catalogue: fields of two bytes
abbrev pub version1 : Version
version1 = record { number = 1; width = 2; bytes = small_catalogue; heights = small_height_count }

-- the large catalogue: fields of four bytes for numbers of blocks
abbrev pub version2 : Version
version2 = record { number = 2; width = 4; bytes = large_catalogue; heights = height_count }

-- the versions that are read and written
abbrev pub versions : List Version
versions = version1 ∷ version2 ∷ []

-- a is one of a list
pub data OneOf {A : Type 0} (a : A) : List A → Type 0 where
  here : {l : List A} → OneOf a (a ∷ l)
  later : {b : A} {l : List A} → OneOf a l → OneOf a (b ∷ l)

-- the greatest C of a version: one section of the greatest height
abbrev pub greatest_blocks : Version → ℕ
greatest_blocks v = 2 ^ (v.heights - 1)

-- the version that format makes in a buffer of n bytes; a length that is no version's is wrong for this one too
unfoldable pub version_for : ℕ → Version
version_for n = cond (eqb n version2.bytes) version2 version1

-- the version of a catalogue: the one of its length
abbrev pub version_of : List ℕ → Version
version_of cat = version_for (length cat)

-- a version whose fields and heights are no more than the code serves, and whose buffer has a header
pub record Served (v : Version) : Type 0 where
  pub width : v.width ≤ widest_field
  pub some_heights : 1 ≤ v.heights
  pub most_heights : v.heights ≤ height_count
  pub header : header_size v.width ≤ v.bytes
  pub most_bytes : v.bytes ≤ large_catalogue

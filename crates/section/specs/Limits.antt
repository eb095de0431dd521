-- The limits of a block, a disk and a catalogue, as documents 01 and 02 have them. Definitions only.
use Rattle.std.specs.Prelude.{ℕ, suc}

-- the bytes of a block
abbrev pub block_size : ℕ
block_size = 512

-- the greatest number of blocks of a disk, C
abbrev pub greatest_disk : ℕ
greatest_disk = 1048576

-- heights run from 0 to this
abbrev pub greatest_height : ℕ
greatest_height = 20

-- how many heights there are
abbrev pub height_count : ℕ
height_count = suc greatest_height

-- how many a disk with the small catalogue has
abbrev pub small_height_count : ℕ
small_height_count = 13

-- the bytes of the small catalogue
abbrev pub small_catalogue : ℕ
small_catalogue = 4096

-- the bytes of the large catalogue
abbrev pub large_catalogue : ℕ
large_catalogue = 16384

-- the most files of a catalogue
abbrev pub most_files : ℕ
most_files = 64

-- The limits of documents 01 and 02 in literal numbers. Assumes nothing.
use mathlib.Core.Path.{◌≡◌, refl}
use Prim.Native.Nat.{◌^◌, ◌-◌}
use native.Mathlib.Omega.{arith}
use Rattle.section.specs.Limits.{block_size, greatest_disk, greatest_height, height_count, large_catalogue, most_files}
use Rattle.section.specs.Limits.{small_catalogue, small_height_count}
use Rattle.section.specs.Sections.{Addressable, section}

-- a block has 512 bytes; a disk has up to 1,048,576 blocks, and up to 4,096 with the small catalogue, which are the
-- greatest of 21 and of 13 lengths; catalogues have 4,096 and 16,384 bytes and up to 64 files
pub limits_literal : (block_size ≡ 512) × (greatest_disk ≡ 1048576) × (greatest_height ≡ 20) × (height_count ≡ 21)
    × (2 ^ (height_count - 1) ≡ 1048576) × (small_height_count ≡ 13) × (2 ^ (small_height_count - 1) ≡ 4096)
    × (small_catalogue ≡ 4096) × (large_catalogue ≡ 16384) × (most_files ≡ 64)
limits_literal = (refl, refl, refl, refl, refl, refl, refl, refl, refl, refl)

-- the last block of the greatest disk and the whole of it are served
pub greatest_served : Addressable (section 1048575 0) × Addressable (section 0 20)
greatest_served = ((omega arith, omega arith), (omega arith, omega arith))

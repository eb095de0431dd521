-- The most bytes that a catalogue uses, and what a version must keep to, as each of the list `versions` does.
-- Definitions only.
use Rattle.std.specs.Prelude.{◌≡◌, ◌*◌, ◌+◌, ◌-◌, ◌<◌, ◌^◌, ◌≤◌, ℕ}
use Rattle.section.specs.Limits.{most_files}
use Rattle.catalogue.specs.Encoding.{byte_values}
use Rattle.catalogue.specs.Version.{Served, greatest_blocks, header_size, short_field, version_for}
use Rattle.catalogue.specs.declared.Version.{Version}

-- the most bytes that a catalogue uses: each list of pairs has at most one fewer than there are heights
abbrev pub used_most : Version → ℕ
used_most v =
    header_size v.width + most_files * (short_field + v.width + 2 * v.width * (v.heights - 1))
    + 2 * v.width * (v.heights - 1)

-- numbers of blocks fit their field, there are heights, and the buffer has room
pub record Roomy (v : Version) : Type 0 where
  pub number : v.number < byte_values ^ short_field
  pub wide : greatest_blocks v < byte_values ^ v.width
  pub some_heights : 2 ≤ v.heights
  pub room : used_most v ≤ v.bytes
  -- its buffer's length picks it
  pub picked : version_for v.bytes ≡ v
  -- and the code serves it
  pub served : Served v

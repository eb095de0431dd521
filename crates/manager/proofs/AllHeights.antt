-- Format, add and removal are over the heights of all versions: a layout that is sound in a version is sound for all
-- heights, and what they make is sound in the version, by its C. Assumes nothing.
use Prim.Native.Nat.{◌≤◌, ℕ}
use native.Mathlib.Omega.{arith}
use Rattle.catalogue.proofs.Roomy.{served_blocks}
use Rattle.catalogue.specs.Roomy.{Roomy}
use Rattle.catalogue.specs.Version.{greatest_blocks}
use Rattle.catalogue.specs.declared.Version.{Version}
use Rattle.layout.proofs.Fresh.{fresh_sound}
use Rattle.layout.proofs.SoundHeights.{sound_higher, sound_lower}
use Rattle.layout.proofs.Soundness.{sound_sums, sums_sound}
use Rattle.layout.specs.Layout.{Layout, fresh_layout}
use Rattle.layout.specs.Sound.{Sound}
use Rattle.layout.specs.Sums.{SoundSums}
use Rattle.section.specs.Limits.{greatest_disk, height_count}

module _ (v : Version) (room : Roomy v) (l : Layout) where
  pub all_heights : Sound v.heights l → SoundSums height_count l
  all_heights s =
      sound_sums height_count l (omega arith)
      (sound_higher v.heights height_count l room.served.most_heights s)

  pub own_heights : l.blocks ≤ greatest_blocks v → SoundSums height_count l → Sound v.heights l
  own_heights most s =
      sound_lower v.heights height_count l (omega (arith, room.some_heights)) most
      (sums_sound height_count l s)

-- a fresh layout of as many blocks as the version allows
pub fresh_in : (v : Version) → Roomy v → (c : ℕ) → 1 ≤ c → c ≤ greatest_blocks v
    → Sound v.heights (fresh_layout height_count c)
unfolding fresh_layout
fresh_in v room c some most =
    own_heights v room (fresh_layout height_count c) most (fresh_sound height_count c some (omega (arith, fits)) fits)
  where
    fits : c ≤ greatest_disk
    fits = omega (arith, most, served_blocks room.served)

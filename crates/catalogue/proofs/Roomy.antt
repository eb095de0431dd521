-- What a version must keep to, and that every version does. Assumes nothing.
use mathlib.Core.Path.{◌≡◌, refl}
use mathlib.Core.Bool.{Bool, cond, false, true}
use mathlib.Core.List.{List}
use Prim.Native.Nat.{◌-◌, ◌≤◌, ℕ}
use lib.Dec.{eqb}
use lib.Pow.{pow_mono}
use native.Mathlib.Omega.{arith}
use Rattle.catalogue.specs.Roomy.{Roomy, used_most}
use Rattle.catalogue.specs.Version.{OneOf, Served, greatest_blocks, here, later, version1, version2, version_for}
use Rattle.catalogue.specs.Version.{versions}
use Rattle.catalogue.specs.declared.Version.{Version}
use Rattle.layout.specs.Lists.{Each, done, more}
use Rattle.section.specs.Limits.{greatest_disk, greatest_height}

version1_roomy : Roomy version1
unfolding version_for
version1_roomy = record {
  number = omega arith;
  wide = omega arith;
  some_heights = omega arith;
  room = omega arith;
  picked = refl;
  served = record {
    width = omega arith;
    some_heights = omega arith;
    most_heights = omega arith;
    header = omega arith;
    most_bytes = omega arith;
  };
}

version2_roomy : Roomy version2
unfolding version_for
version2_roomy = record {
  number = omega arith;
  wide = omega arith;
  some_heights = omega arith;
  room = omega arith;
  picked = refl;
  served = record {
    width = omega arith;
    some_heights = omega arith;
    most_heights = omega arith;
    header = omega arith;
    most_bytes = omega arith;
  };
}

-- every version keeps to it: a version more is a line more here
all_roomy : Each Roomy versions
all_roomy = more version1_roomy (more version2_roomy done)

-- what holds of each of a list holds of one of it
pub each_one {κ} : {A : Type 0} {P : A → Type κ} {l : List A} {a : A} → Each P l → OneOf a l → P a
each_one (more p e) here = p
each_one (more p e) (later o) = each_one e o
each_one {A = A} {P = P} {a = a} done o = elim o [ ]

pub roomy : {v : Version} → OneOf v versions → Roomy v
roomy = each_one all_roomy

pub served : {v : Version} → OneOf v versions → Served v
served known = (roomy known).served

-- no version has a greater C than the greatest disk
pub served_blocks : {v : Version} → Served v → greatest_blocks v ≤ greatest_disk
served_blocks {v} z =
    omega (arith, pow_mono {i = v.heights - 1} {j = greatest_height} (omega (arith, z.most_heights)))

-- the version of a catalogue is one of them
pub version_of-one : (n : ℕ) → OneOf (version_for n) versions
unfolding version_for
version_of-one n = go (eqb n version2.bytes)
  where
    go : (b : Bool) → OneOf (cond b version2 version1) versions
    go true = later here
    go false = here

-- version 1 uses at most 3,382 bytes of its 4,096, and version 2 at most 10,792 of its 16,384
pub used_mosts : (used_most version1 ≡ 3382) × (used_most version2 ≡ 10792)
used_mosts = (refl, refl)

-- version 1 has C to 4,096 and heights 0 to 12, version 2 C to 1,048,576 and heights 0 to 20
pub version_limits : (greatest_blocks version1 ≡ 4096) × (version1.heights ≡ 13) × (version1.bytes ≡ 4096)
    × (version1.width ≡ 2) × (version1.number ≡ 1)
    × (greatest_blocks version2 ≡ 1048576) × (version2.heights ≡ 21) × (version2.bytes ≡ 16384)
    × (version2.width ≡ 4) × (version2.number ≡ 2)
version_limits = (refl, refl, refl, refl, refl, refl, refl, refl, refl, refl)

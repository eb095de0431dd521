-- The pieces of a disk are its sections: the rule of a layout says what the test of section arithmetic says, and
-- those of height h begin at i * 2 ^ h for each i below C / 2 ^ h. Assumes nothing.
use mathlib.Core.Bool.{true}
use mathlib.Core.Logic.{◌↔◌}
use mathlib.Core.Path.{◌≡◌}
use Prim.Native.Nat.{◌*◌, ◌/◌, ◌<◌, ℕ}
use Rattle.layout.specs.Layout.{OnDisk}
use Rattle.section.proofs.Answers.{on_disk_iff}
use Rattle.section.proofs.Indexes.{on_disk_index}
use Rattle.section.specs.Sections.{is_on_disk, length_of}
use Rattle.section.specs.declared.Section.{Section}

pub on_disk_test : (c : ℕ) (s : Section) → OnDisk c s ↔ (is_on_disk c s ≡ true)
on_disk_test c s = (
  λ d. (on_disk_iff c s).1 (d.aligned, d.within),
  λ e. (let d = (on_disk_iff c s).0 e in record { aligned = d.0; within = d.1 }),
)

pub piece_index : (c : ℕ) (s : Section) → OnDisk c s ↔ ((i : ℕ) × (i < c / length_of s) × (s.first ≡ i * length_of s))
piece_index c s = (
  λ d. (on_disk_index c s.height.value s.first).0 ((on_disk_test c s).0 d),
  λ i. (on_disk_test c s).1 ((on_disk_index c s.height.value s.first).1 i),
)

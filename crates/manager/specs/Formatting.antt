-- When a format gives each of its refusals: document 01, "Calls", numbers 1 and 2. Definitions only.
use Rattle.std.specs.Prelude.{List, ◌↔◌, ◌⊎◌, ◌≡◌, ◌*◌, ◌≤◌, ℕ, length}
use Rattle.section.specs.Limits.{block_size}
use Rattle.catalogue.specs.Version.{OneOf, greatest_blocks, versions}
use Rattle.catalogue.specs.declared.Version.{Version}
use Rattle.manager.specs.Conditions.{Reply, refused}

-- the catalogue has the length of no version
abbrev pub NoVersion : List ℕ → Type 0
NoVersion cat = (v : Version) → OneOf v versions → length cat ≡ v.bytes → ⊥

-- d has the length of C blocks, for a C from 1 to the version's greatest
abbrev pub SomeDisk : Version → List ℕ → Type 0
SomeDisk v d = (C : ℕ) × (1 ≤ C) × (C ≤ greatest_blocks v) × (length d ≡ block_size * C)

-- when a format gives each of its numbers
pub record FormatRefused (cat d : List ℕ) (r : Reply) : Type 0 where
  pub catalogue_length : (r ≡ refused 1) ↔ NoVersion cat
  pub disk_length : (r ≡ refused 2)
      ↔ ((v : Version) × OneOf v versions × (length cat ≡ v.bytes) × (SomeDisk v d → ⊥))
  pub no_other : (n : ℕ) → r ≡ refused n → (n ≡ 1) ⊎ (n ≡ 2)

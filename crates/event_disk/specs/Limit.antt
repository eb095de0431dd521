-- The limits that the service contract quotes: on the copies of a removal, also that of a replacement, the carries of
-- f + n of the catalogue at entry; on the breaks of a file, the ones of n less one. Definitions only.
use Rattle.std.specs.Prelude.{◌≡◌, List, ℕ, ◌-◌, ◌≤◌}
use Rattle.std.specs.Int.Count.{ones}
use Rattle.section.specs.Limits.{height_count}
use Rattle.layout.specs.Carries.{carries}
use Rattle.layout.specs.Layout.{File, Layout, file_blocks, find_file, found, free_blocks}
use Rattle.manager.specs.Conditions.{Reply, answered}
use Rattle.manager.specs.Table.{CatalogueOf}

-- an answered number is at most the carries of the free blocks and the blocks of the file i
abbrev pub WithinCarries : List ℕ → ℕ → Reply → Type 0
WithinCarries cat i r =
    (l : Layout) (f : File) (n : ℕ) → CatalogueOf cat l → find_file i l.files ≡ found f
    → r ≡ answered n → n ≤ carries height_count (free_blocks l) (file_blocks f)

-- an answered number is at most the ones of the blocks of the file i, less one
abbrev pub WithinOnes : List ℕ → ℕ → Reply → Type 0
WithinOnes cat i r =
    (l : Layout) (f : File) (n : ℕ) → CatalogueOf cat l → find_file i l.files ≡ found f
    → r ≡ answered n → n ≤ ones (file_blocks f) - 1

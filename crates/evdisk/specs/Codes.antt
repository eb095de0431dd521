-- What an exported call gives back: the answered number, 256 for "fits already", or minus the number of the refusal.
-- Definitions only.
use Rattle.std.specs.Prelude.{◌≡◌, List, ℕ, ◌-◌, ◌≤◌, ℤ, pos, neg_ℤ}
use Rattle.std.specs.Int.Count.{ones}
use Rattle.std.specs.Int.{w64}
use Rattle.std.proofs.Common.{of_z, to_z}
use Rattle.layout.specs.Carries.{carries}
use Rattle.layout.specs.Layout.{File, Layout, file_blocks, find_file, found, free_blocks}
use Rattle.section.specs.Limits.{height_count}
use Rattle.manager.specs.Conditions.{Reply, answered, fits_already, refused}
use Rattle.manager.specs.Table.{CatalogueOf}

-- the number of "fits already": no count of files is as high
abbrev pub fits_number : ℕ
fits_number = 256

abbrev pub code_of : Reply → ℤ
code_of (answered n) = pos n
code_of (refused n) = neg_ℤ (pos n)
code_of fits_already = pos fits_number

-- r is a signed number of 64 bits
abbrev pub Signed : ℤ → Type 0
Signed r = to_z w64 (of_z w64 r) ≡ r

-- a number that is no refusal is at most the carries of the free blocks and the blocks of the file i
abbrev pub CodeWithinCarries : List ℕ → ℕ → ℤ → Type 0
CodeWithinCarries cat i r =
    (l : Layout) (f : File) (n : ℕ) → CatalogueOf cat l → find_file i l.files ≡ found f
    → r ≡ pos n → n ≤ carries height_count (free_blocks l) (file_blocks f)

-- a number that is no refusal is at most the ones of the blocks of the file i, less one
abbrev pub CodeWithinOnes : List ℕ → ℕ → ℤ → Type 0
CodeWithinOnes cat i r =
    (l : Layout) (f : File) (n : ℕ) → CatalogueOf cat l → find_file i l.files ≡ found f
    → r ≡ pos n → n ≤ ones (file_blocks f) - 1

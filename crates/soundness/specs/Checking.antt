-- What the tests on a table that was read promise. Definitions only.
use Rattle.std.specs.Prelude.{Bool, ◌&&◌, List, ℕ, ◌-◌, leb, ltb, eqb}
use Rattle.section.specs.Limits.{greatest_disk}
use Rattle.layout.specs.Layout.{File}
use Rattle.catalogue.specs.Reading.{pairwise}

-- C and the blocks of the files and of the free pieces agree
unfoldable pub sums_agree : ℕ → ℕ → ℕ → Bool
sums_agree c pages free = leb 1 c && (leb c greatest_disk && (leb pages c && eqb free (c - pages)))

abbrev pub ids_rise : List File → Bool
ids_rise l = pairwise (λ (f g : File). ltb f.id g.id) l

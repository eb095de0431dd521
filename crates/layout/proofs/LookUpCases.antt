-- The look-ups of the table, computed: they pin the definition within this crate. Assumes nothing.
use mathlib.Core.List.{map}
use mathlib.Core.Path.{◌≡◌, refl}
use Rattle.layout.specs.Cases.{singles}
use Rattle.layout.specs.Layout.{find_file}
use Rattle.layout.specs.LookUpRows.{Row, look_up_rows, looked_up}
use Rattle.layout.specs.LookingUp.{ids_below, ids_read, look_up}

-- the number of ids read in each row
pub reads_computed : map (λ (r : Row). (looked_up r).ids_read) look_up_rows ≡ map (λ (r : Row). r.given.ids_read) look_up_rows
unfolding look_up ids_read ids_below singles
reads_computed = refl

-- the file, or none
pub files-computed : map (λ (r : Row). (looked_up r).file) look_up_rows ≡ map (λ (r : Row). r.given.file) look_up_rows
unfolding look_up ids_read ids_below find_file singles
files-computed = refl

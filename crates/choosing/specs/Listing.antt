-- The ids of choices as a list of 64 two-byte numbers. Definitions only.
use Rattle.std.specs.Prelude.{List, map, ℕ, ◌≤◌, length}
use Rattle.section.specs.Limits.{most_files}
use Rattle.layout.specs.Lists.{Each}
use Rattle.layout.specs.Sound.{greatest_id}
use Rattle.choosing.specs.declared.Choice.{Choice}

-- the ids of choices
abbrev pub ids_in : List Choice → List ℕ
ids_in l = map (λ (c : Choice). c.id) l

-- choices whose ids fit into such a list
pub record Listable (l : List Choice) : Type 0 where
  pub most : length l ≤ most_files
  pub ids : Each (λ (c : Choice). c.id ≤ greatest_id) l

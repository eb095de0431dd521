-- The conditions on the id of a file, and what finding the file promises. Definitions only.
use Rattle.std.specs.Prelude.{List, ◌∷◌, ◌≡◌, ◌≤◌, ℕ, eqb, not, Result, Ok, Err}
use Rattle.answers.specs.Answers.{number_of}
use Rattle.answers.specs.declared.Refusal.{Refusal}
use Rattle.layout.specs.Layout.{Layout, has_file}
use Rattle.manager.specs.Conditions.{Condition, condition, first_refusal, refusal}
use Rattle.table.specs.LookUps.{FirstOf}
use Rattle.table.specs.Tables.{layout_of}
use Rattle.table.specs.declared.Table.{Table}

-- those on the id, and others after them
abbrev pub file_conditions : Layout → ℕ → List Condition → List Condition
file_conditions l i cs = condition 5 (eqb i 0) ∷ condition 6 (not (has_file i l.files)) ∷ cs

-- the id is not 0, and place i is that of the first file of the id
pub record FindsFile (t : Table) (id i : ℕ) : Type 0 where
  pub least : 1 ≤ id
  pub place : FirstOf t id i

-- the id is refused, before any other condition, and `a` is that refusal
pub record FindsNone (t : Table) (id : ℕ) (a : Refusal) : Type 0 where
  pub first : (cs : List Condition) → first_refusal (file_conditions (layout_of t) id cs) ≡ refusal (number_of a)

abbrev pub Finds : Table → ℕ → Result ℕ Refusal → Type 0
Finds t id (Ok i) = FindsFile t id i
Finds t id (Err a) = FindsNone t id a

-- What choosing among the files of a table promises, and `which` past the catalogue. Definitions only.
use Rattle.std.specs.Prelude.{List, ◌≡◌, ℕ, ◌≤◌, length, take}
use Rattle.section.specs.Limits.{height_count, most_files}
use Rattle.layout.specs.Helping.{by_copies, candidates_of}
use Rattle.layout.specs.Layout.{Layout}
use Rattle.layout.specs.Lists.{sort_by}
use Rattle.manager.specs.Conditions.{Outcome, first_refusal, unless_refused, which_checks}
use Rattle.manager.specs.Outcomes.{help_for}
use Rattle.table.specs.Tables.{layout_of}
use Rattle.table.specs.declared.Table.{Table}
use Rattle.choosing.specs.Listing.{Listable}
use Rattle.choosing.specs.Ranking.{candidates_in}
use Rattle.choosing.specs.declared.Choices.{Choices}

-- r has the files of t that let n blocks in, in their order
pub record Chosen (t : Table) (n : ℕ) (r : Choices) : Type 0 where
  pub list : candidates_in r ≡ sort_by by_copies (candidates_of height_count n (layout_of t) (layout_of t).files)
  pub most : r.count ≤ most_files
  pub exact : length (candidates_in r) ≡ r.count
  pub listable : Listable (take r.count r.items)

-- the outcome of `which` past the catalogue, for any catalogue bytes and any disk
abbrev pub which_on : Layout → ℕ → List ℕ → List ℕ → List ℕ → Outcome
which_on l n o cat d = unless_refused (first_refusal (which_checks n o)) cat d o (help_for n cat d l)

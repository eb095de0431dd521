-- What the calls that change a table promise. Definitions only.
use Rattle.std.specs.Prelude.{◌≡◌, List, [], ◌∷◌, ℕ, length, Result, Ok, Err}
use Rattle.section.specs.Limits.{height_count}
use Rattle.layout.specs.Adding.{allocate}
use Rattle.layout.specs.Layout.{Found, Layout, find_file, found, missing}
use Rattle.layout.specs.Removing.{Merge, copies_of, layout_after, release, removal}
use Rattle.layout.specs.Sound.{Sound}
use Rattle.catalogue.specs.Encoding.{encode}
use Rattle.catalogue.specs.declared.Version.{Version}
use Rattle.manager.specs.Conditions.{Outcome, add_checks, answered, condition, file_checks, first_refusal, outcome}
use Rattle.manager.specs.Conditions.{refused, replace_checks, unless_refused, wrong_disk}
use Rattle.manager.specs.Disk.{page_count, run_copies}
use Rattle.manager.specs.Outcomes.{add_pieces, remove_found}
use Rattle.table.specs.Tables.{Sized, layout_of}
use Rattle.answers.specs.Answers.{number_of}
use Rattle.answers.specs.declared.Refusal.{Refusal}
use Rattle.calls.specs.declared.Changed.{Changed}

-- ---- the outcomes past the catalogue, for any version and any catalogue bytes

abbrev pub add_on : Version → Layout → ℕ → List ℕ → List ℕ → List ℕ → Outcome
add_on v l i bs cat d =
    unless_refused (first_refusal (condition 4 (wrong_disk l d) ∷ add_checks i bs l)) cat d []
    (add_pieces v i bs cat d l (allocate 0 height_count (page_count bs) l.free))

abbrev pub remove_on : Version → Layout → ℕ → List ℕ → List ℕ → Outcome
remove_on v l i cat d =
    unless_refused (first_refusal (condition 4 (wrong_disk l d) ∷ file_checks i l)) cat d []
    (remove_found v cat d l (find_file i l.files))

-- the file goes as in a removal, and the content is placed on what that leaves: the reply is that of the removal, and
-- the buffers are those of the add; never missing: condition 6
abbrev pub replace_found : Version → ℕ → List ℕ → List ℕ → List ℕ → Layout → Found → Outcome
replace_found v i bs cat d l (found f) =
    let m : List Merge = removal height_count f l in
    let l' : Layout = layout_after (release f l) m in
    let d' : List ℕ = run_copies d (copies_of m) in
    let a : Outcome = add_pieces v i bs (encode v l') d' l' (allocate 0 height_count (page_count bs) l'.free) in
    outcome (answered (length (copies_of m))) a.catalogue a.disk []
replace_found v i bs cat d l missing = outcome (refused 6) cat d []

abbrev pub replace_on : Version → Layout → ℕ → List ℕ → List ℕ → List ℕ → Outcome
replace_on v l i bs cat d =
    unless_refused (first_refusal (condition 4 (wrong_disk l d) ∷ replace_checks i bs d l)) cat d []
    (replace_found v i bs cat d l (find_file i l.files))

-- r is what the outcome says of the table of b blocks: another one, to be stored
pub record MakesTable (b : ℕ) (o : Version → List ℕ → Outcome) (d' : List ℕ) (r : Changed) : Type 0 where
  pub answer : (v : Version) (cat : List ℕ) → answered r.number ≡ (o v cat).reply
  pub disk : (v : Version) (cat : List ℕ) → d' ≡ (o v cat).disk
  pub stored : (v : Version) (cat : List ℕ) → encode v (layout_of r.table) ≡ (o v cat).catalogue
  pub rules : Sound height_count (layout_of r.table)
  pub blocks : (layout_of r.table).blocks ≡ b
  pub sized : Sized r.table

-- the outcome is the refusal a, and the catalogue is as it was
pub record MakesNone (o : Version → List ℕ → Outcome) (d' : List ℕ) (a : Refusal) : Type 0 where
  pub answer : (v : Version) (cat : List ℕ) → refused (number_of a) ≡ (o v cat).reply
  pub disk : (v : Version) (cat : List ℕ) → d' ≡ (o v cat).disk
  pub kept : (v : Version) (cat : List ℕ) → cat ≡ (o v cat).catalogue

abbrev pub Makes : ℕ → (Version → List ℕ → Outcome) → List ℕ → Result Changed Refusal → Type 0
Makes b o d' (Ok r) = MakesTable b o d' r
Makes b o d' (Err a) = MakesNone o d' a

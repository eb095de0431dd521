-- What is known of a catalogue that was opened, and of one that was stored. Definitions only.
use Rattle.std.specs.Prelude.{List, ◌∷◌, ◌≡◌, ℕ, length, Result, Ok, Err}
use Rattle.layout.specs.Layout.{Layout}
use Rattle.layout.specs.Sound.{Sound}
use Rattle.catalogue.specs.Encoding.{encode}
use Rattle.catalogue.specs.Reading.{read_catalogue, sound}
use Rattle.catalogue.specs.Version.{version_of}
use Rattle.catalogue.specs.declared.Version.{Version}
use Rattle.manager.specs.Conditions.{Condition, condition, first_refusal, on_layout, refusal, wrong_catalogue}
use Rattle.table.specs.Tables.{Sized, layout_of}
use Rattle.table.specs.declared.Table.{Table}
use Rattle.looking.specs.Opened.{Opened}
use Rattle.answers.specs.Answers.{number_of}
use Rattle.answers.specs.declared.Answered.{Answered}
use Rattle.answers.specs.declared.Answered.TheVariants as Answered·
use Rattle.answers.specs.declared.Refusal.{Refusal}
use Rattle.calls.specs.declared.Changed.{Changed}
use Rattle.event_disk.specs.declared.Opening.{Opening}

-- the table of a sound catalogue
pub record Entered (cat : List ℕ) (t : Table) : Type 0 where
  pub bytes : length cat ≡ (version_of cat).bytes
  pub reading : read_catalogue (version_of cat) cat ≡ sound (layout_of t)
  pub rules : Sound (version_of cat).heights (layout_of t)
  pub opened : Opened t

-- every call but format is refused by its catalogue, and `a` is that refusal
pub record Shut (cat : List ℕ) (a : Refusal) : Type 0 where
  pub first : (k : Layout → List Condition)
      → first_refusal (condition 1 (wrong_catalogue (version_of cat) cat) ∷ on_layout
      (read_catalogue (version_of cat) cat) k)
      ≡ refusal (number_of a)

-- the catalogue's version, and its table
pub record OpensTable (cat : List ℕ) (o : Opening) : Type 0 where
  pub version : o.version ≡ version_of cat
  pub entered : Entered cat o.table

abbrev pub Opens : List ℕ → Result Opening Refusal → Type 0
Opens cat (Ok o) = OpensTable cat o
Opens cat (Err a) = Shut cat a

-- the table that a call made can be stored
pub record Storable (v : Version) (cat : List ℕ) (r : Changed) : Type 0 where
  pub version : v ≡ version_of cat
  pub bytes : length cat ≡ (version_of cat).bytes
  pub sized : Sized r.table
  pub rules : Sound (version_of cat).heights (layout_of r.table)

-- the catalogue has the table
abbrev pub Stores : Changed → List ℕ → List ℕ → Type 0
Stores r cat cat' = cat' ≡ encode (version_of cat) (layout_of r.table)

-- what is answered of a table that a call made
abbrev pub answered_of : Changed → Answered
answered_of r = Answered·.Number r.number

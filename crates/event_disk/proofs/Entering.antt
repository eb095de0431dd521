-- What is known once a catalogue was opened, and a changed table stored: the outcome of the call. Assumes nothing.
use mathlib.Core.List.{List}
use mathlib.Core.Path.{◌∙◌, ◌≡◌, ap, subst, sym}
use Prim.Native.Nat.{◌≤◌, ℕ}
use native.Mathlib.Omega.{arith}
use lib.ListN.{length}
use Rattle.section.specs.Limits.{height_count}
use Rattle.layout.proofs.SoundHeights.{sound_higher, sound_lower}
use Rattle.std.specs.Prelude.{Ok, Err, Some, None}
use Rattle.answers.specs.Answers.{number_of, reply_of}
use Rattle.answers.specs.declared.Answered.{Answered}
use Rattle.answers.specs.declared.Refusal.{Refusal}
use Rattle.answers.specs.declared.Refusal.TheVariants as Refusal·
use Rattle.calls.specs.Changing.{MakesNone, MakesTable}
use Rattle.calls.specs.declared.Changed.{Changed}
use Rattle.catalogue.proofs.Reading.{read_sound}
use Rattle.catalogue.proofs.Roomy.{roomy, version_of-one}
use Rattle.catalogue.specs.Reading.{read_catalogue, sound}
use Rattle.catalogue.specs.Version.{OneOf, greatest_blocks, version_of, versions}
use Rattle.catalogue.specs.declared.Version.{Version}
use Rattle.soundness.specs.Counts.{Exact}
use Rattle.decoder.specs.Loading.{reading_of}
use Rattle.manager.proofs.OnRead.{not_sound, wrong_length}
use Rattle.manager.specs.Conditions.{Outcome, outcome, refused}
use Rattle.table.specs.Tables.{layout_of}
use Rattle.table.specs.declared.Table.{Table}
use Rattle.event_disk.specs.Opening.{Entered, OpensTable, Shut, Storable, Stores, answered_of}
use Rattle.event_disk.specs.declared.Opening.{Opening}

-- ---- opening

pub shut-length : (cat : List ℕ) (v : Version) → v ≡ version_of cat → (length cat ≡ v.bytes → ⊥)
    → Shut cat Refusal·.CatalogueLength
shut-length cat v same n = record {
  first = wrong_length (version_of cat) cat (λ e. n (e ∙ ap (λ (u : Version). u.bytes) (sym same)));
}

module _ (cat : List ℕ) (v : Version) (same : v ≡ version_of cat) (long : length cat ≡ v.bytes) where
  bytes : length cat ≡ (version_of cat).bytes
  bytes = long ∙ ap (λ (u : Version). u.bytes) same

  known : OneOf (version_of cat) versions
  known = version_of-one (length cat)

  module _ (t : Table) (ex : Exact t) (rd : reading_of (Some t) ≡ read_catalogue v cat) where
    read_as : read_catalogue (version_of cat) cat ≡ sound (layout_of t)
    unfolding reading_of
    read_as = sym (rd ∙ ap (λ u. read_catalogue u cat) same)

    entered : Entered cat t
    entered =
        let rules = read_sound (version_of cat) (roomy known) cat (layout_of t) read_as in
        record {
          bytes = bytes;
          reading = read_as;
          rules = rules;
          opened = record {
            rules =
                sound_higher (version_of cat).heights height_count (layout_of t)
                (roomy known).served.most_heights rules;
            sized = ex.sized;
            array = ex.array;
            files = ex.files;
            free = ex.free;
          };
        }

    pub opens_loaded : OpensTable cat (record { version = v; table = t })
    opens_loaded = record { version = same; entered = entered }

  pub shut-unsound : reading_of None ≡ read_catalogue v cat → Shut cat Refusal·.NotSound
  unfolding reading_of
  shut-unsound rd = record {
    first = not_sound (version_of cat) cat bytes (sym (rd ∙ ap (λ u. read_catalogue u cat) same));
  }

-- ---- storing

-- what a call made of an entered table is sound in the catalogue's version, since C stays: it can be stored
pub storable : (cat : List ℕ) (o : Opening) → OpensTable cat o → {past : Version → List ℕ → Outcome} {d' : List ℕ}
    (r : Changed) → MakesTable o.table.blocks past d' r → Storable o.version cat r
unfolding layout_of
storable cat o opens r m = record {
  version = opens.version;
  bytes = opens.entered.bytes;
  sized = m.sized;
  rules =
      sound_lower (version_of cat).heights height_count (layout_of r.table)
      (omega (arith, (roomy (version_of-one (length cat))).some_heights))
      (subst (λ n. n ≤ greatest_blocks (version_of cat)) (sym m.blocks) opens.entered.rules.most_blocks) m.rules;
}

-- ---- the outcomes

-- a call that its catalogue refuses
pub shut_out : (cat d out : List ℕ) (a : Refusal) (full : Outcome) → full ≡ outcome (refused (number_of a)) cat d out
    → (reply_of (Err a) ≡ full.reply) × (cat ≡ full.catalogue) × (d ≡ full.disk) × (out ≡ full.output)
shut_out cat d out a full e = (
  sym (ap (λ x. x.reply) e),
  sym (ap (λ x. x.catalogue) e),
  sym (ap (λ x. x.disk) e),
  sym (ap (λ x. x.output) e),
)

-- a call whose outcome is `full`, which past the catalogue is o: by a refusal, or by the table that it made
module _ (o : Version → List ℕ → Outcome) (cat d' : List ℕ) (full : Outcome) (eq : full ≡ o (version_of cat) cat) where
  pub made_none : (a : Refusal) → MakesNone o d' a
      → (reply_of (Err a) ≡ full.reply) × (cat ≡ full.catalogue) × (d' ≡ full.disk)
  made_none a m = (
    m.answer (version_of cat) cat ∙ sym (ap (λ x. x.reply) eq),
    m.kept (version_of cat) cat ∙ sym (ap (λ x. x.catalogue) eq),
    m.disk (version_of cat) cat ∙ sym (ap (λ x. x.disk) eq),
  )

  pub made : (b : ℕ) (r : Changed) → MakesTable b o d' r → (cat' : List ℕ) → Stores r cat cat' → (a : Answered)
      → a ≡ answered_of r → (reply_of (Ok a) ≡ full.reply) × (cat' ≡ full.catalogue) × (d' ≡ full.disk)
  made b r m cat' st a same = (
    ap (λ x. reply_of (Ok x)) same ∙ (m.answer (version_of cat) cat ∙ sym (ap (λ x. x.reply) eq)),
    st ∙ (m.stored (version_of cat) cat ∙ sym (ap (λ x. x.catalogue) eq)),
    m.disk (version_of cat) cat ∙ sym (ap (λ x. x.disk) eq),
  )

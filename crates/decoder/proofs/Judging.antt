-- What was read is judged: a sound table and zero bytes after it, or no reading. Assumes nothing.
use mathlib.Core.Bool.{Bool, ◌&&◌, cond, false, true}
use mathlib.Core.List.{List}
use mathlib.Core.Path.{◌∙◌, ◌≡◌, ap, refl, sym}
use Prim.Native.Nat.{◌≤◌, ℕ}
use native.Mathlib.Omega.{arith}
use Rattle.std.proofs.Common.{None, Some}
use Rattle.catalogue.specs.Reading.{Reading, got, is_sound, judged, read_catalogue, read_layout, sound, unsound}
use Rattle.catalogue.proofs.Versions.{sound_in}
use Rattle.catalogue.specs.Version.{Served, greatest_blocks}
use Rattle.catalogue.specs.declared.Version.{Version}
use Rattle.section.specs.Limits.{height_count}
use Rattle.decoder.proofs.Early.{sound_free-few}
use Rattle.decoder.specs.Loading.{Judged, all_zero, reading_of}
use Rattle.layout.specs.Layout.{Layout}
use Rattle.soundness.proofs.Points.{false_true}
use Rattle.soundness.specs.Counts.{Exact}
use Rattle.table.specs.Tables.{layout_of}
use Rattle.table.specs.declared.Table.{Table}

abbrev answer : Bool → Layout → Reading
answer b l = elim b as (λ _. Reading) [ true ↦ sound l | false ↦ unsound ]

judged_is : (b : Bool) (t : Table) → reading_of (cond b (Some t) None) ≡ answer b (layout_of t)
unfolding reading_of
judged_is true t = refl
judged_is false t = refl

module _ (v : Version) (s : List ℕ) (t : Table) (b : Bool) where
  judged_refused : read_catalogue v s ≡ unsound → b ≡ false → Judged v s t b
  judged_refused e o =
      record {
        reading = judged_is b t ∙ (ap (λ c. answer c (layout_of t)) o ∙ sym e);
        few_free = λ u. false_true (sym o ∙ u);
      }

  module _ (r : List ℕ) (e : read_layout v s ≡ got (layout_of t) r) where
    judged-at : read_catalogue v s ≡ answer (all_zero r && is_sound v.heights (layout_of t)) (layout_of t)
    unfolding read_catalogue judged
    judged-at = ap (judged v) e

    pub judged-not-zero : all_zero r ≡ false → b ≡ false → Judged v s t b
    judged-not-zero z = judged_refused
        (judged-at ∙ ap (λ c. answer (c && is_sound v.heights (layout_of t)) (layout_of t)) z)

    pub judged-zero : Served v → t.blocks ≤ greatest_blocks v → all_zero r ≡ true → Exact t
        → b ≡ is_sound height_count (layout_of t) → Judged v s t b
    unfolding layout_of
    judged-zero ser fits z x o' =
        let o : b ≡ is_sound v.heights (layout_of t) = o' ∙ sym (sound_in v ser (layout_of t) fits) in
        record {
          reading =
              judged_is b t ∙ ap (λ c. answer c (layout_of t)) o
              ∙ sym (judged-at ∙ ap (λ c. answer (c && is_sound v.heights (layout_of t)) (layout_of t)) z);
          few_free = λ u. omega (
            arith,
            x.free,
            sound_free-few v.heights ser.some_heights ser.most_heights
                (layout_of t) (sym o ∙ u),
          );
        }

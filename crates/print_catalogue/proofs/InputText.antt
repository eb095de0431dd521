-- The text for an input, by its length and by what was loaded from it; one byte more than a catalogue has is
-- enough of it. Assumes nothing.
use Rattle.std.proofs.Common.{None, Option, Some}
use mathlib.Core.Bool.{false, true}
use mathlib.Core.List.{List}
use mathlib.Core.Logic.{inl, inr}
use mathlib.Core.Path.{◌∙◌, ◌≡◌, ap, subst, sym}
use Prim.Native.Nat.{◌<◌, ℕ}
use native.Mathlib.Omega.{arith}
use lib.ListN.{length, take}
use lib.Seq.{length-take-le, take_all}
use borrow.Author.Tests.{eq-eqb, ne_eqb}
use Rattle.catalogue.proofs.Reading.{read_sound}
use Rattle.catalogue.proofs.Roomy.{roomy, served, version_of-one}
use Rattle.catalogue.specs.Reading.{read_catalogue}
use Rattle.catalogue.specs.Version.{OneOf, version2, version_of, versions}
use Rattle.layout.proofs.SoundHeights.{sound_higher}
use Rattle.section.specs.Limits.{height_count}
use Rattle.catalogue.specs.declared.Version.{Version}
use Rattle.decoder.specs.Loading.{reading_of}
use Rattle.layout.specs.Sound.{Sound}
use Rattle.manager.specs.Printing.{printed, printed_in, reading_text, refusal_text}
use Rattle.section.proofs.Multiples.{below_or_not}
use Rattle.table.specs.Tables.{layout_of}
use Rattle.table.specs.declared.Table.{Table}

module _ (v : Version) (input : List ℕ) where
  -- an input of another length
  pub text_wrong : (length input ≡ v.bytes → ⊥) → printed_in v input ≡ refusal_text 1
  unfolding printed_in
  text_wrong ne =
      ap (λ b. elim b as (λ _. List ℕ) [ true ↦ reading_text (read_catalogue v input) | false ↦ refusal_text 1 ])
      (ne_eqb (length input) v.bytes ne)

  -- an input of a catalogue's length
  pub text_read : length input ≡ v.bytes → printed_in v input ≡ reading_text (read_catalogue v input)
  unfolding printed_in
  text_read lc =
      ap (λ b. elim b as (λ _. List ℕ) [ true ↦ reading_text (read_catalogue v input) | false ↦ refusal_text 1 ])
      (eq-eqb (length input) v.bytes lc)

-- the first k bytes have the text of the whole input, if they are more than any catalogue has
pub text_of_start : (input : List ℕ) (k : ℕ) → version2.bytes < k → printed (take k input) ≡ printed input
text_of_start input k lt =
    elim (below_or_not k (length input)) [
      | inl longer ↦ text_wrong (version_of (take k input)) (take k input)
          (λ e. omega (
            arith,
            length-take-le k input (omega arith),
            (served (version_of-one (length (take k input)))).most_bytes,
          ))
          ∙ sym (text_wrong (version_of input) input
          (λ e. omega (arith, (served (version_of-one (length input))).most_bytes)))
      | inr all ↦ ap printed (take_all k input all)
    ]

module _ (input : List ℕ) (v : Version) (same : v ≡ version_of input) where
  known : OneOf v versions
  known = subst (λ u. OneOf u versions) (sym same) (version_of-one (length input))

  -- a table that was loaded is sound
  pub table_sound : (t : Table) → reading_of (Some t) ≡ read_catalogue v input → Sound height_count (layout_of t)
  unfolding reading_of
  table_sound t rd =
      sound_higher v.heights height_count (layout_of t) (served known).most_heights
      (read_sound v (roomy known) input (layout_of t) (sym rd))

  -- and its text, or that of a refusal, is the text for the input
  pub text_loaded : (l : Option Table) → reading_of l ≡ read_catalogue v input → length input ≡ v.bytes
      → printed input ≡ reading_text (reading_of l)
  text_loaded l rd lc =
      ap (λ u. printed_in u input) (sym same) ∙ (text_read v input lc ∙ ap reading_text (sym rd))

  -- which is that of refusal 3 where none was loaded
  pub text_unsound : reading_of None ≡ read_catalogue v input → length input ≡ v.bytes
      → printed input ≡ refusal_text 3
  unfolding reading_of
  text_unsound = text_loaded None

-- an input of a length that is no version's
pub text_other : (input : List ℕ) (v : Version) → v ≡ version_of input → (length input ≡ v.bytes → ⊥)
    → printed input ≡ refusal_text 1
text_other input v same ne = ap (λ u. printed_in u input) (sym same) ∙ text_wrong v input ne

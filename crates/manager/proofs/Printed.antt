-- What is printed for an input, in the words of the versions: the text of its layout, or of the refusal 1 or 3.
-- Assumes nothing.
use mathlib.Core.Bool.{Bool, false, true}
use mathlib.Core.List.{List}
use mathlib.Core.Path.{◌∙◌, ◌≡◌, ap, refl, sym}
use Prim.Native.Nat.{ℕ}
use lib.Dec.{eqb}
use lib.ListN.{length}
use borrow.Author.Tests.{eq-eqb, ne_eqb}
use Rattle.catalogue.proofs.Roomy.{roomy, version_of-one}
use Rattle.catalogue.proofs.Versions.{reading_any}
use Rattle.catalogue.specs.Encoding.{Bytes}
use Rattle.catalogue.specs.Reading.{Reading, read_catalogue, sound, unsound}
use Rattle.catalogue.specs.Version.{OneOf, version_for, version_of, versions}
use Rattle.catalogue.specs.declared.Version.{Version}
use Rattle.layout.specs.Layout.{Layout}
use Rattle.manager.proofs.Catalogues.{read_catalogue_lem}
use Rattle.manager.specs.Formatting.{NoVersion}
use Rattle.manager.specs.Printing.{layout_text, printed, printed_in, reading_text, refusal_text}
use Rattle.manager.specs.Table.{CatalogueOf}

module _ (cat : List ℕ) where
  -- the text, by whether the length is the version's
  by_length : (b : Bool) → eqb (length cat) (version_of cat).bytes ≡ b
      → printed cat
      ≡ elim b as (λ _. List ℕ) [ true ↦ reading_text (read_catalogue (version_of cat) cat) | false ↦ refusal_text 1 ]
  unfolding printed_in
  by_length b e =
      ap (λ t. elim t as (λ _. List ℕ)
      [ true ↦ reading_text (read_catalogue (version_of cat) cat) | false ↦ refusal_text 1 ]) e

  -- an input of another length than every version's
  pub printed_other_length : NoVersion cat → printed cat ≡ refusal_text 1
  printed_other_length none =
      by_length false (ne_eqb (length cat) (version_of cat).bytes (none (version_of cat) (version_of-one (length cat))))

  module _ (bytes : Bytes cat) where
    -- the catalogue of a sound layout, in whichever version
    pub printed-layout : (l : Layout) → CatalogueOf cat l → printed cat ≡ layout_text l
    printed-layout l h =
        let w = (reading_any cat l bytes).1 (h.version, h.known, h.encoded, h.rules) in
        by_length true (eq-eqb (length cat) (version_of cat).bytes w.0) ∙ ap reading_text w.1

    -- bytes as many as a version has, and of no layout
    pub printed_unsound : (v : Version) → OneOf v versions → length cat ≡ v.bytes
        → ((l : Layout) → CatalogueOf cat l → ⊥) → printed cat ≡ refusal_text 3
    printed_unsound v known e none =
        by_length true (eq-eqb (length cat) (version_of cat).bytes right)
        ∙ ap reading_text (unread (read_catalogue (version_of cat) cat) refl)
      where
        right : length cat ≡ (version_of cat).bytes
        right = e ∙ ap (λ (u : Version). u.bytes) (sym (ap version_for e ∙ (roomy known).picked))

        unread : (x : Reading) → read_catalogue (version_of cat) cat ≡ x → read_catalogue (version_of cat) cat ≡ unsound
        unread unsound q = q
        unread (sound l) q = absurd (none l (read_catalogue_lem cat bytes right l q))

-- A catalogue in the words of the versions: whether its length is that of one, and which one layout it is of. Assumes
-- nothing.
use mathlib.Core.List.{List}
use mathlib.Core.Path.{◌∙◌, ◌≡◌, ap, subst, sym}
use Prim.Native.Nat.{ℕ}
use native.Mathlib.Omega.{arith}
use lib.ListN.{length}
use Rattle.catalogue.proofs.Roomy.{roomy, version_of-one}
use Rattle.catalogue.proofs.Size.{encode-bytes}
use Rattle.catalogue.proofs.Versions.{encoded_once, reading_any}
use Rattle.catalogue.specs.Encoding.{Bytes}
use Rattle.catalogue.specs.Reading.{read_catalogue, sound, unsound}
use Rattle.catalogue.specs.Version.{version_for, version_of}
use Rattle.catalogue.specs.declared.Version.{Version}
use Rattle.layout.specs.Layout.{Layout}
use Rattle.manager.proofs.Deciding.{Decides, decides_equal}
use Rattle.manager.proofs.Deciding.{decides_not, decides_same}
use Rattle.manager.specs.Conditions.{wrong_catalogue}
use Rattle.manager.specs.Formatting.{NoVersion}
use Rattle.manager.specs.Table.{CatalogueOf}

module _ (cat : List ℕ) (bytes : Bytes cat) (n : length cat ≡ (version_of cat).bytes) where
  -- the layout that is read is the catalogue's
  pub read_catalogue_lem : (l : Layout) → read_catalogue (version_of cat) cat ≡ sound l → CatalogueOf cat l
  read_catalogue_lem l e =
      let w = (reading_any cat l bytes).0 (n, e) in
      record { version = w.0; known = w.1; encoded = w.2; rules = w.3 }

  -- if none is read the catalogue is that of no layout
  pub unread_catalogue : read_catalogue (version_of cat) cat ≡ unsound → (l : Layout) → CatalogueOf cat l → ⊥
  unread_catalogue e l h =
      let s = ((reading_any cat l bytes).1 (h.version, h.known, h.encoded, h.rules)).1 in
      let z : ◌≡◌ {A = ℕ} 0 1 = cc in
      omega arith

module _ {cat : List ℕ} {l : Layout} (h : CatalogueOf cat l) where
  pub encoded_bytes : Bytes cat
  encoded_bytes = subst Bytes (sym h.encoded) (encode-bytes h.version l)

  -- it is the catalogue of no other layout
  pub one-layout : (m : Layout) → CatalogueOf cat m → m ≡ l
  one-layout m k =
      (encoded_once k.version h.version (roomy k.known) (roomy h.known) m l k.rules h.rules
      (sym k.encoded ∙ h.encoded)).1

-- the length is no version's exactly if it is not that of the one version that it picks
pub decides_length : (cat : List ℕ) → Decides (NoVersion cat) (wrong_catalogue (version_of cat) cat)
decides_length cat =
    decides_same (λ no v known e. no (e ∙ ap (λ (u : Version). u.bytes)
    (sym (ap version_for e ∙ (roomy known).picked))))
    (λ no. no (version_of cat) (version_of-one (length cat)))
    (decides_not (decides_equal (length cat) (version_of cat).bytes))

-- A layout and a version fix the catalogue, and the catalogue fixes both: what is read in the version of the bytes is
-- what was encoded, in whichever version. Assumes nothing.
use mathlib.Core.Bool.{Bool, false, true}
use mathlib.Core.List.{List}
use mathlib.Core.Logic.{◌↔◌}
use mathlib.Core.Path.{◌∙◌, ◌≡◌, ap, refl, subst, sym}
use Prim.Native.Nat.{◌≤◌, ℕ}
use native.Mathlib.Omega.{arith}
use lib.ListN.{length}
use Rattle.catalogue.proofs.Reading.{encode_unique, reading_iff}
use Rattle.catalogue.proofs.Roomy.{roomy, version_of-one}
use Rattle.catalogue.proofs.Size.{encode-length}
use Rattle.catalogue.specs.Encoding.{Bytes, encode}
use Rattle.catalogue.specs.Reading.{is_sound, read_catalogue, sound}
use Rattle.catalogue.specs.Roomy.{Roomy}
use Rattle.catalogue.specs.Version.{OneOf, Served, greatest_blocks, version_for, version_of, versions}
use Rattle.catalogue.specs.declared.Version.{Version}
use Rattle.catalogue.proofs.Tests.{sound_test, test_sound}
use Rattle.layout.proofs.SoundHeights.{sound_higher, sound_lower}
use Rattle.layout.specs.Layout.{Layout}
use Rattle.layout.specs.Sound.{Sound}
use Rattle.section.specs.Limits.{height_count}

-- the version of an encoding is the one of the encoding
pub version_of_encoded : (v : Version) → Roomy v → (l : Layout) → Sound v.heights l → version_of (encode v l) ≡ v
version_of_encoded v room l s = ap version_for (encode-length v room l s) ∙ room.picked

-- two encodings that are the same bytes are of one version and one layout
pub encoded_once : (u v : Version) → Roomy u → Roomy v → (l m : Layout) → Sound u.heights l
    → Sound v.heights m → encode u l ≡ encode v m → (u ≡ v) × (l ≡ m)
encoded_once u v ru rv l m s t e =
    let same : u ≡ v = sym (version_of_encoded u ru l s) ∙ (ap version_of e ∙ version_of_encoded v rv m t) in (
      same,
      encode_unique v rv l m (subst (λ w. Sound w.heights l) same s) t (ap (λ w. encode w l) (sym same) ∙ e),
    )

-- the bytes of any length that a version has are read as a layout exactly if they are its encoding in a version, and
-- it is sound
pub reading_any : (cat : List ℕ) (l : Layout) → Bytes cat
    → ((length cat ≡ (version_of cat).bytes) × (read_catalogue (version_of cat) cat ≡ sound l))
    ↔ ((v : Version) × OneOf v versions × (cat ≡ encode v l) × Sound v.heights l)
reading_any cat l b = (
  λ w. (let x = (reading_iff (version_of cat) (roomy (version_of-one (length cat))) cat l b w.0).0 w.1 in
      (version_of cat, version_of-one (length cat), x.0, x.1)),
  λ w. back w.0 w.1 w.2 w.3,
)
  where
    back : (v : Version) → OneOf v versions → cat ≡ encode v l → Sound v.heights l
        → (length cat ≡ (version_of cat).bytes) × (read_catalogue (version_of cat) cat ≡ sound l)
    back v o e s =
        let same : version_of cat ≡ v = ap version_of e ∙ version_of_encoded v (roomy o) l s in
        let long : length cat ≡ v.bytes = ap length e ∙ encode-length v (roomy o) l s in (
          long ∙ ap (λ (u : Version). u.bytes) (sym same),
          ap (λ u. read_catalogue u cat) same ∙ (reading_iff v (roomy o) cat l b long).1 (e, s),
        )

-- in a version that is served, a layout that is no longer than its greatest C is sound exactly if it is for all
-- heights
pub sound_in : (v : Version) → Served v → (l : Layout) → l.blocks ≤ greatest_blocks v
    → is_sound v.heights l ≡ is_sound height_count l
sound_in v z l most = go (is_sound v.heights l) refl (is_sound height_count l) refl
  where
    up : is_sound v.heights l ≡ true → is_sound height_count l ≡ true
    up e =
        sound_test height_count l
        (sound_higher v.heights height_count l z.most_heights (test_sound v.heights l e))

    down : is_sound height_count l ≡ true → is_sound v.heights l ≡ true
    down e =
        sound_test v.heights l
        (sound_lower v.heights height_count l z.some_heights most (test_sound height_count l e))

    go : (a : Bool) → is_sound v.heights l ≡ a → (b : Bool) → is_sound height_count l ≡ b → a ≡ b
    go true p true q = refl
    go false p false q = refl
    go true p false q = absurd (let e = up p in let x : ◌≡◌ {A = ℕ} 0 1 = cc in omega arith)
    go false p true q = absurd (let e = down q in let x : ◌≡◌ {A = ℕ} 0 1 = cc in omega arith)

-- The reader is right: it answers a layout exactly if the bytes are the layout's encoding and the layout is sound.
-- So a layout and its catalogue determine each other, and soundness is what the rules say, no more and no less.
-- Assumes nothing.
use mathlib.Core.Bool.{Bool, ◌&&◌, false, true}
use mathlib.Core.List.{List, [], ◌++◌, ◌∷◌}
use mathlib.Core.Logic.{◌↔◌}
use mathlib.Core.Path.{◌∙◌, ◌≡◌, ap, ap₂, refl, subst, sym}
use Prim.Native.Nat.{◌-◌, ℕ}
use native.Mathlib.Omega.{arith}
use lib.Dec.{eqb}
use lib.ListN.{length, length-append, replicate}
use borrow.Author.Tests.{eqb-true}
use Rattle.catalogue.proofs.ReadBackLayout.{catalogue_back}
use Rattle.catalogue.proofs.ReadOnlyLayout.{layout_inv}
use Rattle.catalogue.proofs.Tests.{every_each, test_sound}
use Rattle.catalogue.specs.Encoding.{Bytes, encode, used_bytes}
use Rattle.catalogue.specs.Reading.{Read, Reading, bad, every, got, is_sound, judged, read_catalogue}
use Rattle.catalogue.specs.Reading.{read_layout, sound, unsound}
use Rattle.catalogue.specs.Roomy.{Roomy}
use Rattle.catalogue.specs.declared.Version.{Version}
use Rattle.layout.specs.Layout.{Layout}
use Rattle.layout.specs.Lists.{Each, more}
use Rattle.layout.specs.Moves.{same}
use Rattle.layout.specs.Sound.{Sound}

all-zero : (r : List ℕ) → Each (λ b. eqb b 0 ≡ true) r → r ≡ replicate (length r) 0
all-zero [] e = refl
all-zero (b ∷ r) (more p e) = ap₂ (λ y z. y ∷ z) (eqb-true b 0 p) (all-zero r e)

module _ (v : Version) (room : Roomy v) where
  -- a layout that is read is sound
  pub read_sound : (cat : List ℕ) (l : Layout) → read_catalogue v cat ≡ sound l → Sound v.heights l
  unfolding read_catalogue judged
  read_sound cat l e = go (read_layout v cat) e
    where
      chk : (m : Layout) (s t : Bool) → is_sound v.heights m ≡ t
          → elim (s && t) as (λ _. Reading) [ true ↦ sound m | false ↦ unsound ] ≡ sound l → Sound v.heights l
      chk m true true q x = let same : m ≡ l = cc in subst (Sound v.heights) same (test_sound v.heights m q)
      chk m true false q x = absurd (let z : ◌≡◌ {A = ℕ} 0 1 = cc in omega arith)
      chk m false t q x = absurd (let z : ◌≡◌ {A = ℕ} 0 1 = cc in omega arith)

      go : (x : Read Layout) → judged v x ≡ sound l → Sound v.heights l
      go (got m r) q = chk m (every (λ b. eqb b 0) r) (is_sound v.heights m) refl q
      go bad q = absurd (let z : ◌≡◌ {A = ℕ} 0 1 = cc in omega arith)

  -- and the bytes are its encoding
  pub read_encoded : (cat : List ℕ) (l : Layout) → Bytes cat → length cat ≡ v.bytes → read_catalogue v cat ≡ sound l
      → cat ≡ encode v l
  unfolding read_catalogue judged encode
  read_encoded cat l b n e = go (read_layout v cat) refl e
    where
      fin : (r : List ℕ) → cat ≡ used_bytes v l ++ r → Each (λ b. eqb b 0 ≡ true) r
          → cat ≡ used_bytes v l ++ replicate (v.bytes - length (used_bytes v l)) 0
      fin r eq z =
          let k : length r ≡ v.bytes - length (used_bytes v l) =
          omega (arith, sym n ∙ (ap length eq ∙ length-append (used_bytes v l) r)) in
          eq ∙ ap (λ t. used_bytes v l ++ t) (all-zero r z ∙ ap (λ t. replicate {A = ℕ} t 0) k)

      chk : (m : Layout) (r : List ℕ) (s t : Bool) → every (λ b. eqb b 0) r ≡ s → read_layout v cat ≡ got m r
          → elim (s && t) as (λ _. Reading) [ true ↦ sound m | false ↦ unsound ] ≡ sound l
          → cat ≡ used_bytes v l ++ replicate (v.bytes - length (used_bytes v l)) 0
      chk m r true true q p x =
          let same : m ≡ l = cc in
          fin r (layout_inv v cat l r b (p ∙ ap (λ z. got z r) same)) (every_each (λ b. eqb b 0) r q)
      chk m r true false q p x = absurd (let z : ◌≡◌ {A = ℕ} 0 1 = cc in omega arith)
      chk m r false t q p x = absurd (let z : ◌≡◌ {A = ℕ} 0 1 = cc in omega arith)

      go : (x : Read Layout) → read_layout v cat ≡ x → judged v x ≡ sound l
          → cat ≡ used_bytes v l ++ replicate (v.bytes - length (used_bytes v l)) 0
      go (got m r) p q = chk m r (every (λ b. eqb b 0) r) (is_sound v.heights m) refl p q
      go bad p q = absurd (let z : ◌≡◌ {A = ℕ} 0 1 = cc in omega arith)

  pub reading_iff : (cat : List ℕ) (l : Layout) → Bytes cat → length cat ≡ v.bytes
      → (read_catalogue v cat ≡ sound l) ↔ ((cat ≡ encode v l) × Sound v.heights l)
  reading_iff cat l b n = (
    λ e. (read_encoded cat l b n e, read_sound cat l e),
    λ w. ap (read_catalogue v) w.0 ∙ catalogue_back v room l w.1,
  )

  -- two sound layouts with the same bytes are the same
  pub encode_unique : (l m : Layout) → Sound v.heights l → Sound v.heights m → encode v l ≡ encode v m → l ≡ m
  encode_unique l m s t e =
      let p = catalogue_back v room l s in
      let q = catalogue_back v room m t in
      let r : sound l ≡ sound m = sym p ∙ (ap (read_catalogue v) e ∙ q) in
      cc

-- The refusals 1 to 4 of the calls by literal numbers: a catalogue of 4,096 or of 16,384 bytes, a disk of 512 bytes
-- for each of 1 to 4,096 or to 1,048,576 blocks for format, and for each block of the catalogue's layout for other
-- calls, no byte less and no byte more. Assumes nothing.
use mathlib.Core.Bool.{true}
use mathlib.Core.List.{List, [], ◌∷◌}
use mathlib.Core.Logic.{◌⊎◌, inl, inr}
use mathlib.Core.Path.{◌≡◌, ap, refl, subst, sym}
use Prim.Native.Nat.{◌*◌, ◌≤◌, ℕ}
use lib.ListN.{length}
use Rattle.catalogue.proofs.Roomy.{roomy}
use Rattle.catalogue.proofs.Size.{encode-length}
use Rattle.catalogue.specs.Encoding.{Bytes}
use Rattle.catalogue.specs.Version.{here, later, version1, version2}
use Rattle.layout.specs.Layout.{Layout}
use Rattle.layout.specs.Lists.{done, more}
use Rattle.manager.proofs.Catalogues.{encoded_bytes, one-layout}
use Rattle.manager.proofs.FormatLimits.{other_length}
use Rattle.manager.proofs.FormatRefusals.{format_lowest_refusal}
use Rattle.manager.proofs.GivenFirst.{Clear, covers_before, gives-first}
use Rattle.manager.specs.Call.{Call, add, breaks, check, free, read, remove, replace, which}
use Rattle.manager.specs.Changes.{Gives}
use Rattle.manager.specs.Conditions.{refused}
use Rattle.manager.specs.Outcomes.{format_outcome}
use Rattle.manager.specs.Table.{By, CatalogueOf, GivenIf, Refusal, catalogue_length, disk_length, is_listed}
use Rattle.manager.specs.Table.{not_sound, numbers_of}

-- every call checks 1 and 3 first
begins : (c : Call) → (ns : List ℕ) × (numbers_of c ≡ 1 ∷ 3 ∷ ns)
begins (add i bs) = (_, refl)
begins (remove i) = (_, refl)
begins (replace i bs) = (_, refl)
begins (read i p o) = (_, refl)
begins (breaks i) = (_, refl)
begins (which n o) = (_, refl)
begins free = (_, refl)
begins check = (_, refl)

-- ---- a call and its number

module _ (cat d : List ℕ) (c : Call) (bytes : Bytes cat) where
  -- a catalogue that has neither 4,096 nor 16,384 bytes gives 1, whatever the call
  pub other_length_refused : (length cat ≡ 4096 → ⊥) → (length cat ≡ 16384 → ⊥) → Gives cat d c 1
  other_length_refused small large =
      gives-first cat d c bytes catalogue_length (ap (is_listed 1) (begins c).1)
      ((format_lowest_refusal cat d).catalogue_length.0 (other_length cat d small large)) done
      (ap (covers_before 1 []) (begins c).1)

  -- one of these lengths that is the catalogue of no sound layout gives 3, whatever the call
  pub unsound_refused : (length cat ≡ 4096) ⊎ (length cat ≡ 16384) → ((l : Layout) → CatalogueOf cat l → ⊥)
      → Gives cat d c 3
  unsound_refused long none =
      gives-first cat d c bytes not_sound (ap (is_listed 3) (begins c).1) none
      (more {a = catalogue_length} (known long) done) (ap (covers_before 3 (catalogue_length ∷ [])) (begins c).1)
    where
      known : (length cat ≡ 4096) ⊎ (length cat ≡ 16384) → GivenIf catalogue_length c cat d → ⊥
      known (inl e) none_has = none_has version1 here e
      known (inr e) none_has = none_has version2 (later here) e

-- ---- format

module _ (cat d : List ℕ) where
  -- d has the length of C blocks, for a C up to the most
  abbrev Blocks : ℕ → Type 0
  Blocks most = (C : ℕ) × (1 ≤ C) × (C ≤ most) × (length d ≡ 512 * C)

  -- with the small catalogue a disk of another length than that of 1 to 4,096 blocks gives 2
  pub small_format_refused : length cat ≡ 4096 → (Blocks 4096 → ⊥) → (format_outcome cat d).reply ≡ refused 2
  small_format_refused n other = (format_lowest_refusal cat d).disk_length.1 (version1, here, n, other)

  -- with the large one that of 1 to 1,048,576 blocks
  pub large_format_refused : length cat ≡ 16384 → (Blocks 1048576 → ⊥) → (format_outcome cat d).reply ≡ refused 2
  large_format_refused n other = (format_lowest_refusal cat d).disk_length.1 (version2, later here, n, other)

-- ---- the catalogue of a sound layout

-- the refusals of the catalogue, and those of both buffers
abbrev catalogue_refusals : List Refusal
catalogue_refusals = not_sound ∷ catalogue_length ∷ []

abbrev pub buffer_refusals : List Refusal
buffer_refusals = disk_length ∷ catalogue_refusals

module _ {cat : List ℕ} {l : Layout} (h : CatalogueOf cat l) (d : List ℕ) where
  -- 1 and 3 do not apply
  pub clear_catalogue : (c : Call) → Clear cat d c catalogue_refusals
  clear_catalogue c = more {a = not_sound} (λ none. none l h) (more {a = catalogue_length} known done)
    where
      known : GivenIf catalogue_length c cat d → ⊥
      known none_has =
          none_has h.version h.known
          (subst (λ x. length x ≡ h.version.bytes) (sym h.encoded)
          (encode-length h.version (roomy h.known) l h.rules))

  -- nor 4 on a disk of 512 bytes for each block
  pub clear_buffers : length d ≡ 512 * l.blocks → (c : Call) → Clear cat d c buffer_refusals
  clear_buffers n c =
      more {a = disk_length}
      (λ w. w.2 (subst (λ (m : Layout). length d ≡ 512 * m.blocks) (sym (one-layout h w.0 w.1)) n))
      (clear_catalogue c)

  -- a disk of another length than 512 bytes for each block gives 4 from add, remove, replace, read and check
  pub other_disk_refused : (length d ≡ 512 * l.blocks → ⊥) → (i p : ℕ) (bs o : List ℕ)
      → Gives cat d (add i bs) 4 × Gives cat d (remove i) 4 × Gives cat d (replace i bs) 4
      × Gives cat d (read i p o) 4
      × Gives cat d check 4
  other_disk_refused other i p bs o = (
    refuses (add i bs) refl refl,
    refuses (remove i) refl refl,
    refuses (replace i bs) refl refl,
    refuses (read i p o) refl refl,
    refuses check refl refl,
  )
    where
      refuses : (c : Call) → By disk_length c → covers_before 4 catalogue_refusals (numbers_of c) ≡ true
          → Gives cat d c 4
      refuses c by = gives-first cat d c (encoded_bytes h) disk_length by (l, h, other) (clear_catalogue c)

-- When a format is refused: with 1 exactly if the catalogue has the length of no version, with 2 exactly if it has
-- that of a version and the disk is not the bytes of C blocks for a C of that version, and with no other number.
-- Assumes nothing.
use mathlib.Core.Bool.{Bool, false, true}
use mathlib.Core.List.{List, [], ◌∷◌}
use mathlib.Core.Logic.{◌⊎◌, inl, inr}
use mathlib.Core.Path.{◌∙◌, ◌≡◌, ap, refl, subst, sym}
use Prim.Native.Nat.{◌%◌, ◌<◌, ℕ}
use native.Mathlib.Omega.{arith}
use lib.ListN.{length}
use Rattle.catalogue.proofs.Roomy.{roomy, version_of-one}
use Rattle.catalogue.specs.Encoding.{encode}
use Rattle.catalogue.specs.Version.{OneOf, greatest_blocks, version_for, versions}
use Rattle.catalogue.specs.declared.Version.{Version}
use Rattle.layout.specs.Layout.{fresh_layout}
use Rattle.manager.proofs.CallEquations.{format_in_is}
use Rattle.manager.proofs.Catalogues.{decides_length}
use Rattle.manager.proofs.Deciding.{Decides, decides_below, decides_or}
use Rattle.manager.proofs.Deciding.{equal_if_never_unequal}
use Rattle.manager.proofs.Refusals.{answered_not_refused}
use Rattle.manager.proofs.TableRows.{decides_unpaged}
use Rattle.manager.specs.Conditions.{Outcome, answered, condition, first_refusal, no_disk, outcome, unless_refused}
use Rattle.manager.specs.Conditions.{wrong_catalogue}
use Rattle.manager.specs.Disk.{page_count}
use Rattle.manager.specs.Formatting.{FormatRefused, NoVersion, SomeDisk}
use Rattle.manager.specs.Outcomes.{format_outcome}
use Rattle.section.specs.Limits.{block_size, height_count}

-- what the condition on the disk tests
abbrev WrongLength : Version → List ℕ → Type 0
WrongLength v d = ((length d ≡ 0) ⊎ (length d % block_size ≡ 0 → ⊥)) ⊎ (greatest_blocks v < page_count d)

-- the condition on the disk tells that there is no such C
pub decides_no_disk : (v : Version) (d : List ℕ) → Decides (SomeDisk v d → ⊥) (no_disk v d)
decides_no_disk v d = record { holds = λ e. wrong (test.holds e); fails = λ e h. h (right (test.fails e)) }
  where
    test : Decides (WrongLength v d) (no_disk v d)
    test = decides_or (decides_unpaged d) (decides_below (greatest_blocks v) (page_count d))

    wrong : WrongLength v d → SomeDisk v d → ⊥
    wrong (inl (inl e)) (C, some, most, n) = omega arith
    wrong (inl (inr e)) (C, some, most, n) = e (omega arith)
    wrong (inr e) (C, some, most, n) = omega arith

    right : (WrongLength v d → ⊥) → SomeDisk v d
    right h =
        let some : (length d ≡ 0 → ⊥) = λ e. h (inl (inl e)) in
        let most : (greatest_blocks v < page_count d → ⊥) = λ e. h (inr e) in
        let whole = equal_if_never_unequal (length d % block_size) 0 (λ e. h (inl (inr e))) in
        (page_count d, omega (arith, some), omega (arith, most), omega arith)

-- when a format is refused, and with which number
pub format_lowest_refusal : (cat d : List ℕ) → FormatRefused cat d (format_outcome cat d).reply
unfolding first_refusal
format_lowest_refusal cat d =
    subst (λ (x : Outcome). FormatRefused cat d x.reply) (sym (format_in_is v cat d))
    (go (wrong_catalogue v cat) (no_disk v d) (decides_length cat) (decides_no_disk v d))
  where
    v : Version
    v = version_for (length cat)

    -- no other version has the length
    own : (u : Version) → OneOf u versions → length cat ≡ u.bytes → v ≡ u
    own u known e = ap version_for e ∙ (roomy known).picked

    right : (NoVersion cat → ⊥) → length cat ≡ v.bytes
    right h =
        equal_if_never_unequal (length cat) v.bytes
        (λ no. h λ u known e. no (e ∙ ap (λ (w : Version). w.bytes) (sym (own u known e))))

    go : (a b : Bool) → Decides (NoVersion cat) a → Decides (SomeDisk v d → ⊥) b
        → FormatRefused cat d
        (unless_refused (first_refusal (condition 1 a ∷ condition 2 b ∷ [])) cat d []
        (outcome (answered (page_count d)) (encode v (fresh_layout height_count (page_count d))) d [])).reply
    go true b s t = record {
      catalogue_length = (λ e. s.holds refl, λ h. refl);
      disk_length = (
        λ e. absurd (let z : ◌≡◌ {A = ℕ} 1 2 = cc in omega arith),
        λ w. absurd (s.holds refl w.0 w.1 w.2),
      );
      no_other = λ n e. inl (cc);
    }
    go false true s t = record {
      catalogue_length = (λ e. absurd (let z : ◌≡◌ {A = ℕ} 1 2 = cc in omega arith), λ h. absurd (s.fails refl h));
      disk_length = (λ e. (v, version_of-one (length cat), right (s.fails refl), t.holds refl), λ w. refl);
      no_other = λ n e. inr (cc);
    }
    go false false s t = record {
      catalogue_length = (λ e. absurd (answered_not_refused (page_count d) 1 e), λ h. absurd (s.fails refl h));
      disk_length = (
        λ e. absurd (answered_not_refused (page_count d) 2 e),
        λ w. absurd (t.fails refl λ some. w.3 (subst (λ u. SomeDisk u d) (own w.0 w.1 w.2) some)),
      );
      no_other = λ n e. absurd (answered_not_refused (page_count d) n e);
    }

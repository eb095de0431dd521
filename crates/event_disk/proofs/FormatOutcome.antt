-- The outcome of a format: each refusal by its condition, and the fresh catalogue, which is sound. Assumes nothing.
use mathlib.Core.Bool.{◌||◌, not, true}
use mathlib.Core.List.{List, [], ◌∷◌}
use mathlib.Core.Path.{◌∙◌, ◌≡◌, ap, ap₂, refl, subst, sym}
use Prim.Native.Nat.{◌%◌, ◌/◌, ◌<◌, ◌≤◌, suc, zero, ℕ}
use native.Mathlib.Omega.{arith}
use lib.Dec.{eqb, ltb}
use lib.ListN.{length}
use borrow.Author.Tests.{eq-eqb, le-ltb, lt-ltb, ne_eqb}
use Rattle.calls.specs.Fresh.{FreeFor}
use Rattle.catalogue.specs.Encoding.{encode}
use Rattle.catalogue.proofs.Roomy.{roomy}
use Rattle.catalogue.specs.Version.{OneOf, greatest_blocks, version_for, versions}
use Rattle.catalogue.specs.declared.Version.{Version}
use Rattle.manager.proofs.AllHeights.{fresh_in}
use Rattle.manager.proofs.CallEquations.{format_in_is}
use Rattle.encoder.specs.Store.{no_files}
use Rattle.layout.specs.Layout.{Layout, fresh_layout}
use Rattle.layout.specs.Sound.{Sound}
use Rattle.manager.proofs.Judging.{passes, refuses_by}
use Rattle.manager.specs.Conditions.{Outcome, answered, condition, first_refusal, format_conditions, no_disk}
use Rattle.manager.specs.Conditions.{outcome, refusal, refused, unless_refused, wrong_catalogue}
use Rattle.manager.specs.Disk.{page_count}
use Rattle.manager.specs.Outcomes.{format_in, format_outcome}
use Rattle.section.specs.Limits.{block_size, height_count}
use Rattle.piece_lists.specs.Few.{list_of}
use Rattle.piece_lists.specs.declared.Pieces.{Pieces}

module _ (cat d : List ℕ) (v : Version) (same : v ≡ version_for (length cat)) where
  abbrev formatted : Outcome
  formatted =
      outcome (answered (page_count d)) (encode v (fresh_layout height_count (page_count d))) d []

  in_version : format_outcome cat d ≡ unless_refused (first_refusal (format_conditions v cat d)) cat d [] formatted
  in_version = ap (λ u. format_in u cat d) (sym same) ∙ format_in_is v cat d

  format_refused : (n : ℕ) → first_refusal (format_conditions v cat d) ≡ refusal n
      → format_outcome cat d ≡ outcome (refused n) cat d []
  format_refused n e = in_version ∙ ap (λ j. unless_refused j cat d [] formatted) e

  pub format_wrong : (length cat ≡ v.bytes → ⊥) → format_outcome cat d ≡ outcome (refused 1) cat d []
  format_wrong ne =
      format_refused 1
      (refuses_by (condition 1 (wrong_catalogue v cat)) _ (ap not (ne_eqb (length cat) v.bytes ne)))

  module _ (lc : length cat ≡ v.bytes) where
    past_length : first_refusal (format_conditions v cat d) ≡ first_refusal (condition 2 (no_disk v d) ∷ [])
    past_length =
        passes (condition 1 (wrong_catalogue v cat)) _ (ap not (eq-eqb (length cat) v.bytes lc))

    no_disk_lem : no_disk v d ≡ true → format_outcome cat d ≡ outcome (refused 2) cat d []
    no_disk_lem e = format_refused 2 (past_length ∙ refuses_by (condition 2 (no_disk v d)) [] e)

    pub format-empty : length d ≡ 0 → format_outcome cat d ≡ outcome (refused 2) cat d []
    format-empty e =
        no_disk_lem
        (ap (λ b. (b || not (eqb (length d % block_size) 0)) || ltb (greatest_blocks v) (page_count d))
        (eq-eqb (length d) 0 e))

    module _ (nz : length d ≡ 0 → ⊥) where
      pub format_part : (length d % block_size ≡ 0 → ⊥)
          → format_outcome cat d ≡ outcome (refused 2) cat d []
      format_part ne =
          no_disk_lem
          (ap₂ (λ a b. (a || not b) || ltb (greatest_blocks v) (page_count d)) (ne_eqb (length d) 0 nz)
          (ne_eqb (length d % block_size) 0 ne))

      module _ (whole : length d % block_size ≡ 0) where
        paged : no_disk v d ≡ ltb (greatest_blocks v) (page_count d)
        paged =
            ap₂ (λ a b. (a || not b) || ltb (greatest_blocks v) (page_count d)) (ne_eqb (length d) 0 nz)
            (eq-eqb (length d % block_size) 0 whole)

        pub format-large : greatest_blocks v < page_count d → format_outcome cat d ≡ outcome (refused 2) cat d []
        format-large lt = no_disk_lem (paged ∙ lt-ltb (greatest_blocks v) (page_count d) lt)

        pub format_done : page_count d ≤ greatest_blocks v → format_outcome cat d ≡ formatted
        unfolding first_refusal
        format_done le =
            in_version
            ∙ (ap (λ j. unless_refused j cat d [] formatted)
            (past_length
            ∙ passes (condition 2 (no_disk v d)) []
            (paged ∙ le-ltb (greatest_blocks v) (page_count d) le)))

-- whole blocks, and not none, are one at least
pub some_blocks : (n : ℕ) → (n ≡ 0 → ⊥) → n % block_size ≡ 0 → 1 ≤ n / block_size
some_blocks zero nz e = absurd (nz refl)
some_blocks (suc n) nz e = omega (arith, e)

-- ---- the fresh catalogue's layout

pub fresh-layout : (c : ℕ) (f : Pieces) → FreeFor c f → no_files c (list_of f) ≡ fresh_layout height_count c
unfolding fresh_layout
fresh-layout c f g = ap {B = Layout} (no_files c) g.list

pub fresh_rules : (v : Version) → OneOf v versions → (c : ℕ) (f : Pieces) → 1 ≤ c → c ≤ greatest_blocks v
    → FreeFor c f → Sound v.heights (no_files c (list_of f))
fresh_rules v known c f some most g =
    subst (Sound v.heights) (sym (fresh-layout c f g)) (fresh_in v (roomy known) c some most)

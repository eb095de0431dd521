-- The conditions on the disk and on the id, before any others, and the one on a buffer's length. Assumes nothing.
use mathlib.Core.Bool.{◌||◌, false, not, true}
use mathlib.Core.List.{List, ◌∷◌}
use mathlib.Core.Path.{◌∙◌, ◌≡◌, ap, ap₂}
use Prim.Native.Nat.{◌%◌, ◌*◌, ◌≤◌, ℕ}
use native.Mathlib.Omega.{arith}
use lib.Dec.{eqb}
use lib.ListN.{length}
use borrow.Author.Tests.{eq-eqb, ne_eqb}
use Rattle.layout.specs.Layout.{File, Layout, find_file, found, has_file, is_found, missing}
use Rattle.looking.specs.FileIds.{file_conditions}
use Rattle.manager.proofs.Judging.{passes, refuses_by}
use Rattle.manager.specs.Conditions.{Condition, condition, first_refusal, refusal, unpaged, wrong_disk}
use Rattle.section.specs.Limits.{block_size}

-- ---- the disk

module _ (l : Layout) (d : List ℕ) (cs : List Condition) where
  pub disk_wrong : (length d ≡ block_size * l.blocks → ⊥)
      → first_refusal (condition 4 (wrong_disk l d) ∷ cs) ≡ refusal 4
  disk_wrong n =
      refuses_by (condition 4 (wrong_disk l d)) cs (ap not (ne_eqb (length d) (block_size * l.blocks) n))

  pub disk_right : length d ≡ block_size * l.blocks → first_refusal (condition 4 (wrong_disk l d) ∷ cs) ≡ first_refusal cs
  disk_right e = passes (condition 4 (wrong_disk l d)) cs (ap not (eq-eqb (length d) (block_size * l.blocks) e))

-- ---- the conditions on the id

module _ (l : Layout) (i : ℕ) (cs : List Condition) where
  pub id-zero : i ≡ 0 → first_refusal (file_conditions l i cs) ≡ refusal 5
  id-zero e =
      refuses_by (condition 5 (eqb i 0)) (condition 6 (not (has_file i l.files)) ∷ cs) (eq-eqb i 0 e)

  module _ (n : 1 ≤ i) where
    id_some : first_refusal (file_conditions l i cs) ≡ first_refusal (condition 6 (not (has_file i l.files)) ∷ cs)
    id_some =
        passes (condition 5 (eqb i 0)) (condition 6 (not (has_file i l.files)) ∷ cs)
        (ne_eqb i 0 (λ z. omega (arith, n, z)))

    pub id_missing_lem : find_file i l.files ≡ missing → first_refusal (file_conditions l i cs) ≡ refusal 6
    id_missing_lem e =
        id_some
        ∙ refuses_by (condition 6 (not (has_file i l.files))) cs (ap (λ x. not (is_found x)) e)

    pub id_found : (f : File) → find_file i l.files ≡ found f
        → first_refusal (file_conditions l i cs) ≡ first_refusal cs
    id_found f e =
        id_some
        ∙ passes (condition 6 (not (has_file i l.files))) cs (ap (λ x. not (is_found x)) e)

-- ---- the length of a content or an output

module _ (bs : List ℕ) where
  pub empty-unpaged : length bs ≡ 0 → unpaged bs ≡ true
  empty-unpaged z = ap (λ s. s || not (eqb (length bs % block_size) 0)) (eq-eqb (length bs) 0 z)

  module _ (full : length bs ≡ 0 → ⊥) where
    pub part_unpaged : (length bs % block_size ≡ 0 → ⊥) → unpaged bs ≡ true
    part_unpaged n =
        ap₂ (λ s u. s || not u) (ne_eqb (length bs) 0 full) (ne_eqb (length bs % block_size) 0 n)

    pub whole_paged : length bs % block_size ≡ 0 → unpaged bs ≡ false
    whole_paged e =
        ap₂ (λ s u. s || not u) (ne_eqb (length bs) 0 full) (eq-eqb (length bs % block_size) 0 e)

-- The conditions of an add past the catalogue, one after another: by which it is refused, and when by none.
-- Assumes nothing.
use mathlib.Core.Bool.{false, true}
use mathlib.Core.List.{List, [], ◌∷◌}
use mathlib.Core.Path.{◌∙◌, ◌≡◌}
use Prim.Native.Nat.{ℕ}
use lib.Dec.{eqb, leb, ltb}
use lib.ListN.{length}
use Rattle.catalogue.specs.declared.Version.{Version}
use Rattle.layout.specs.Adding.{allocate}
use Rattle.layout.specs.Layout.{Layout, free_blocks, has_file}
use Rattle.layout.specs.Lists.{done, more}
use Rattle.manager.proofs.Judging.{none_applies, passes, refuses_by}
use Rattle.manager.specs.Conditions.{Condition, Outcome, add_checks, allowed, condition, first_refusal, refusal}
use Rattle.manager.specs.Conditions.{unpaged, wrong_disk}
use Rattle.manager.specs.Disk.{page_count}
use Rattle.manager.specs.Outcomes.{add_pieces}
use Rattle.section.specs.Limits.{most_files, height_count}

abbrev pub checks : Layout → ℕ → List ℕ → List ℕ → List Condition
checks l i bs d = condition 4 (wrong_disk l d) ∷ add_checks i bs l

abbrev pub act : Version → Layout → ℕ → List ℕ → List ℕ → List ℕ → Outcome
act v l i bs cat d = add_pieces v i bs cat d l (allocate 0 height_count (page_count bs) l.free)

module _ (l : Layout) (i : ℕ) (bs d : List ℕ) where
  abbrev last : List Condition
  last = condition 11 (ltb (free_blocks l) (page_count bs)) ∷ []

  abbrev from_10 : List Condition
  from_10 = condition 10 (leb most_files (length l.files)) ∷ last

  abbrev from_8 : List Condition
  from_8 = condition 8 (unpaged bs) ∷ from_10

  abbrev from_7 : List Condition
  from_7 = condition 7 (has_file i l.files) ∷ from_8

  pub judge_4 : wrong_disk l d ≡ true → first_refusal (checks l i bs d) ≡ refusal 4
  judge_4 e = refuses_by (condition 4 (wrong_disk l d)) (add_checks i bs l) e

  module _ (p4 : wrong_disk l d ≡ false) where
    pub judge_5 : eqb i 0 ≡ true → first_refusal (checks l i bs d) ≡ refusal 5
    judge_5 e =
        passes (condition 4 (wrong_disk l d)) (add_checks i bs l) p4 ∙ refuses_by (condition 5 (eqb i 0)) from_7 e

    module _ (p5 : eqb i 0 ≡ false) where
      past_5 : first_refusal (checks l i bs d) ≡ first_refusal from_7
      past_5 = passes (condition 4 (wrong_disk l d)) (add_checks i bs l) p4 ∙ passes (condition 5 (eqb i 0)) from_7 p5

      pub judge_7 : has_file i l.files ≡ true → first_refusal (checks l i bs d) ≡ refusal 7
      judge_7 e = past_5 ∙ refuses_by (condition 7 (has_file i l.files)) from_8 e

      module _ (p7 : has_file i l.files ≡ false) where
        past_7 : first_refusal (checks l i bs d) ≡ first_refusal from_8
        past_7 = past_5 ∙ passes (condition 7 (has_file i l.files)) from_8 p7

        pub judge_8 : unpaged bs ≡ true → first_refusal (checks l i bs d) ≡ refusal 8
        judge_8 e = past_7 ∙ refuses_by (condition 8 (unpaged bs)) from_10 e

        module _ (p8 : unpaged bs ≡ false) where
          past_8 : first_refusal (checks l i bs d) ≡ first_refusal from_10
          past_8 = past_7 ∙ passes (condition 8 (unpaged bs)) from_10 p8

          pub judge_10 : leb most_files (length l.files) ≡ true → first_refusal (checks l i bs d) ≡ refusal 10
          judge_10 e = past_8 ∙ refuses_by (condition 10 (leb most_files (length l.files))) last e

          module _ (p10 : leb most_files (length l.files) ≡ false) where
            past_10 : first_refusal (checks l i bs d) ≡ first_refusal last
            past_10 = past_8 ∙ passes (condition 10 (leb most_files (length l.files))) last p10

            pub judge_11 : ltb (free_blocks l) (page_count bs) ≡ true → first_refusal (checks l i bs d) ≡ refusal 11
            judge_11 e = past_10 ∙ refuses_by (condition 11 (ltb (free_blocks l) (page_count bs))) [] e

            pub judge_none : ltb (free_blocks l) (page_count bs) ≡ false → first_refusal (checks l i bs d) ≡ allowed
            judge_none e =
                past_10 ∙ none_applies (more {a = condition 11 (ltb (free_blocks l) (page_count bs))} e done)

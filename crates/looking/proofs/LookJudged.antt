-- Breaks and checks in code: by what each is refused, and what it answers. Assumes nothing.
use mathlib.Core.List.{List, [], ◌∷◌}
use mathlib.Core.Path.{◌∙◌, ◌≡◌, ap, ap₂, sym}
use Prim.Native.Nat.{◌*◌, ◌≤◌, ℕ}
use lib.ListN.{length}
use Rattle.looking.proofs.LookChecks.{disk_right, disk_wrong, id_found}
use Rattle.looking.specs.FileIds.{file_conditions}
use Rattle.layout.specs.Layout.{File, Layout, breaks_of, find_file, found}
use Rattle.layout.specs.Lists.{done}
use Rattle.manager.proofs.Judging.{none_applies}
use Rattle.manager.specs.Conditions.{Reply, answered, condition, file_checks, first_refusal, refusal, refused}
use Rattle.manager.specs.Conditions.{reply_unless, wrong_disk}
use Rattle.manager.specs.Outcomes.{breaks_found}
use Rattle.section.specs.Limits.{block_size}
use Rattle.table.specs.Tables.{layout_of}
use Rattle.table.specs.declared.Table.{Table}

-- ---- breaks

module _ (l : Layout) (i : ℕ) where
  abbrev Breaks : Reply → Type 0
  Breaks r = r ≡ reply_unless (first_refusal (file_checks i l)) (breaks_found (find_file i l.files))

  pub breaks_refused : (n : ℕ) → first_refusal (file_conditions l i []) ≡ refusal n → Breaks (refused n)
  breaks_refused n e = sym (ap (λ j. reply_unless j (breaks_found (find_file i l.files))) e)

  pub breaks_found_lem : 1 ≤ i → (f : File) → find_file i l.files ≡ found f → (k : ℕ) → k ≡ breaks_of f.pieces
      → Breaks (answered k)
  breaks_found_lem n f e k q =
      ap answered q
      ∙ sym (ap₂ (λ j x. reply_unless j (breaks_found x)) (id_found l i [] n f e ∙ none_applies done) e)

-- the check, on any disk of so many bytes
module _ (t : Table) (bytes : ℕ) where
  abbrev Checks : Reply → Type 0
  Checks r =
      (d : List ℕ) → length d ≡ bytes
      → r
      ≡ reply_unless (first_refusal (condition 4 (wrong_disk (layout_of t) d) ∷ [])) (answered (layout_of t).blocks)

  pub check_wrong : (bytes ≡ block_size * t.blocks → ⊥) → Checks (refused 4)
  unfolding layout_of
  check_wrong n d e =
      sym (ap (λ j. reply_unless j (answered t.blocks))
      (disk_wrong (layout_of t) d [] (λ q. n (sym e ∙ q))))

  pub check_right : bytes ≡ block_size * t.blocks → Checks (answered t.blocks)
  unfolding layout_of
  check_right q d e =
      sym (ap (λ j. reply_unless j (answered t.blocks))
      (disk_right (layout_of t) d [] (e ∙ q) ∙ none_applies done))

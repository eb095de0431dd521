-- What check, free, remove and breaks answer on the catalogue of a sound layout with a disk of the right length.
-- Assumes nothing.
use mathlib.Core.Bool.{not}
use mathlib.Core.List.{List}
use mathlib.Core.Path.{◌∙◌, ◌≡◌, ap, ap₂}
use Prim.Native.Nat.{◌*◌, ◌-◌, ◌≤◌, ℕ}
use native.Mathlib.Omega.{arith}
use lib.Dec.{eqb}
use lib.ListN.{length}
use borrow.Author.Tests.{ne_eqb}
use Rattle.catalogue.proofs.Roomy.{roomy}
use Rattle.layout.proofs.Breaks.{breaks-at-pages}
use Rattle.layout.specs.Layout.{File, Layout, blocks_of, file_blocks, find_file, found, has_file, is_found, page_breaks}
use Rattle.layout.specs.Lists.{done, more, sum_of}
use Rattle.layout.specs.Removing.{copies_of, removal}
use Rattle.manager.proofs.Judging.{none_applies}
use Rattle.manager.proofs.OnSound.{breaks_on_sound, check_on_sound, free_on_sound}
use Rattle.manager.proofs.RemoveFromSound.{remove_from_sound}
use Rattle.manager.specs.Call.{breaks, check, free, remove}
use Rattle.manager.specs.Conditions.{allowed, answered, condition, file_checks, first_refusal, reply_unless}
use Rattle.manager.specs.Outcomes.{breaks_found, breaks_reply, check_reply, free_reply, perform, remove_outcome}
use Rattle.manager.specs.Table.{CatalogueOf}

module _ {cat : List ℕ} {l : Layout} (h : CatalogueOf cat l) (d : List ℕ) (ld : length d ≡ 512 * l.blocks) where
  -- a check answers C, free what is left of it by the files
  pub check_answers : (perform check cat d).reply ≡ answered l.blocks
  check_answers =
      ap (λ x. check_reply x d) h.encoded ∙ check_on_sound h.version (roomy h.known) l h.rules d ld

  pub free_answers : (perform free cat d).reply ≡ answered (l.blocks - sum_of file_blocks l.files)
  free_answers = ap free_reply h.encoded ∙ free_on_sound h.version (roomy h.known) l h.rules

  module _ (i : ℕ) (some : 1 ≤ i) (f : File) (e : find_file i l.files ≡ found f) where
    -- a removal answers the copies of its merges
    pub remove_answers : (perform (remove i) cat d).reply ≡ answered (length (copies_of (removal 21 f l)))
    remove_answers =
        ap (λ x. (remove_outcome i x d).reply) h.encoded
        ∙ (remove_from_sound h.version (roomy h.known) l h.rules d ld i f e some).reply

    -- breaks the pages that do not lie in the block right after that of the page before
    pub breaks_answers : (perform (breaks i) cat d).reply ≡ answered (page_breaks (blocks_of f.pieces))
    breaks_answers =
        ap (breaks_reply i) h.encoded
        ∙ (breaks_on_sound h.version (roomy h.known) l h.rules i
        ∙ (ap₂ (λ j x. reply_unless j (breaks_found x)) passed e ∙ ap answered (breaks-at-pages f.pieces)))
      where
        passed : first_refusal (file_checks i l) ≡ allowed
        passed =
            none_applies
            (more {a = condition 5 (eqb i 0)} (ne_eqb i 0 (λ z. omega arith))
            (more {a = condition 6 (not (has_file i l.files))} (ap (λ x. not (is_found x)) e) done))

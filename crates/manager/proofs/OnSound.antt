-- The calls on the encoding of a sound layout: past the conditions of the buffers. Assumes nothing.
use mathlib.Core.Bool.{not}
use mathlib.Core.List.{List, [], ◌∷◌}
use mathlib.Core.Path.{◌∙◌, ◌≡◌, ap, sym}
use Prim.Native.Nat.{◌*◌, ℕ}
use lib.ListN.{length}
use borrow.Author.Tests.{eq-eqb}
use Rattle.catalogue.proofs.ReadBackLayout.{catalogue_back}
use Rattle.catalogue.proofs.Size.{encode-length}
use Rattle.catalogue.specs.Encoding.{encode}
use Rattle.catalogue.specs.Reading.{read_catalogue, sound}
use Rattle.catalogue.specs.Roomy.{Roomy}
use Rattle.catalogue.specs.declared.Version.{Version}
use Rattle.layout.specs.Adding.{allocate}
use Rattle.layout.specs.Layout.{Layout, find_file, free_blocks}
use Rattle.layout.specs.Sound.{Sound}
use Rattle.manager.proofs.Judging.{passes}
use Rattle.manager.proofs.OnRead.{add_on_read, breaks_on_read, check_on_read, free_on_read, read_on_read}
use Rattle.manager.proofs.OnRead.{remove_on_read, replace_on_read, which_on_read}
use Rattle.manager.specs.Conditions.{Condition, add_checks, answered, condition, file_checks, first_refusal}
use Rattle.manager.specs.Conditions.{read_checks, replace_checks, reply_unless, unless_refused, which_checks}
use Rattle.manager.specs.Conditions.{wrong_disk}
use Rattle.manager.specs.Disk.{page_count}
use Rattle.manager.specs.Outcomes.{add_outcome, add_pieces, breaks_found, breaks_reply, check_reply, free_reply}
use Rattle.manager.specs.Outcomes.{help_for, read_found, read_outcome, remove_found, remove_outcome, remove_then_add}
use Rattle.manager.specs.Outcomes.{replace_outcome}
use Rattle.section.specs.Limits.{block_size, height_count}
use Rattle.catalogue.proofs.Versions.{version_of_encoded}
use Rattle.catalogue.specs.Version.{version_of}
use Rattle.manager.specs.Outcomes.{add_in, breaks_in, check_in, free_in, read_in, remove_in, which_in}

module _ (v : Version) (room : Roomy v) (l : Layout) (s : Sound v.heights l) where
  lc : length (encode v l) ≡ v.bytes
  lc = encode-length v room l s

  -- its version is v again
  pick : version_of (encode v l) ≡ v
  pick = version_of_encoded v room l s

  rd : read_catalogue v (encode v l) ≡ sound l
  rd = catalogue_back v room l s

  pub breaks_on_sound : (i : ℕ)
      → breaks_reply i (encode v l)
      ≡ reply_unless (first_refusal (file_checks i l)) (breaks_found (find_file i l.files))
  breaks_on_sound i = ap (λ u. breaks_in u i (encode v l)) pick ∙ breaks_on_read v (encode v l) l lc rd i

  pub free_on_sound : free_reply (encode v l) ≡ answered (free_blocks l)
  free_on_sound = ap (λ u. free_in u (encode v l)) pick ∙ free_on_read v (encode v l) l lc rd

  -- `which`, whatever the disk
  pub which_on_sound : (n : ℕ) (o d : List ℕ)
      → which_in (version_of (encode v l)) n o (encode v l) d
      ≡ unless_refused (first_refusal (which_checks n o)) (encode v l) d o (help_for n (encode v l) d l)
  which_on_sound n o d =
      ap (λ u. which_in u n o (encode v l) d) pick ∙ which_on_read v (encode v l) l lc rd n o d

  -- a removal, whatever the disk
  pub remove_on_catalogue : (i : ℕ) (d : List ℕ)
      → remove_outcome i (encode v l) d
      ≡ unless_refused (first_refusal (condition 4 (wrong_disk l d) ∷ file_checks i l)) (encode v l) d []
      (remove_found v (encode v l) d l (find_file i l.files))
  remove_on_catalogue i d =
      ap (λ u. remove_in u i (encode v l) d) pick ∙ remove_on_read v (encode v l) l lc rd i d

  -- and a replacement
  pub replace_on_catalogue : (i : ℕ) (bs d : List ℕ)
      → replace_outcome i bs (encode v l) d
      ≡ unless_refused (first_refusal (condition 4 (wrong_disk l d) ∷ replace_checks i bs d l)) (encode v l) d []
      (remove_then_add i bs (encode v l) d)
  replace_on_catalogue i bs d =
      replace_on_read (encode v l) l (lc ∙ ap (λ (u : Version). u.bytes) (sym pick))
      (ap (λ u. read_catalogue u (encode v l)) pick ∙ rd) i bs d

  -- on a disk of the right length condition 4 does not apply
  module _ (d : List ℕ) (ld : length d ≡ block_size * l.blocks) where
    past_disk : (cs : List Condition) → first_refusal (condition 4 (wrong_disk l d) ∷ cs) ≡ first_refusal cs
    past_disk cs = passes (condition 4 (wrong_disk l d)) cs (ap not (eq-eqb (length d) (block_size * l.blocks) ld))

    pub add_on_sound : (i : ℕ) (bs : List ℕ)
        → add_outcome i bs (encode v l) d
        ≡ unless_refused (first_refusal (add_checks i bs l)) (encode v l) d []
        (add_pieces v i bs (encode v l) d l (allocate 0 height_count (page_count bs) l.free))
    add_on_sound i bs =
        ap (λ u. add_in u i bs (encode v l) d) pick
        ∙ (add_on_read v (encode v l) l lc rd i bs d
        ∙ ap (λ j. unless_refused j (encode v l) d []
        (add_pieces v i bs (encode v l) d l (allocate 0 height_count (page_count bs) l.free)))
        (past_disk (add_checks i bs l)))

    pub remove_on_sound : (i : ℕ)
        → remove_outcome i (encode v l) d
        ≡ unless_refused (first_refusal (file_checks i l)) (encode v l) d []
        (remove_found v (encode v l) d l (find_file i l.files))
    remove_on_sound i =
        remove_on_catalogue i d
        ∙ ap (λ j. unless_refused j (encode v l) d [] (remove_found v (encode v l) d l (find_file i l.files)))
        (past_disk (file_checks i l))

    pub replace_on_sound : (i : ℕ) (bs : List ℕ)
        → replace_outcome i bs (encode v l) d
        ≡ unless_refused (first_refusal (replace_checks i bs d l)) (encode v l) d [] (remove_then_add i bs (encode v l) d)
    replace_on_sound i bs =
        replace_on_catalogue i bs d
        ∙ ap (λ j. unless_refused j (encode v l) d [] (remove_then_add i bs (encode v l) d))
        (past_disk (replace_checks i bs d l))

    pub read_on_sound : (i p : ℕ) (o : List ℕ)
        → read_outcome i p o (encode v l) d
        ≡ unless_refused (first_refusal (read_checks i p o l)) (encode v l) d o
        (read_found p o (encode v l) d (find_file i l.files))
    read_on_sound i p o =
        ap (λ u. read_in u i p o (encode v l) d) pick
        ∙ (read_on_read v (encode v l) l lc rd i p o d
        ∙ ap (λ j. unless_refused j (encode v l) d o (read_found p o (encode v l) d (find_file i l.files)))
        (past_disk (read_checks i p o l)))

    pub check_on_sound : check_reply (encode v l) d ≡ answered l.blocks
    unfolding first_refusal
    check_on_sound =
        ap (λ u. check_in u (encode v l) d) pick
        ∙ (check_on_read v (encode v l) l lc rd d ∙ ap (λ j. reply_unless j (answered l.blocks)) (past_disk []))

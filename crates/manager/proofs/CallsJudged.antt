-- The first condition of a call that applies is the first refusal of the table, in the order of the call's checks.
-- Assumes nothing.
use mathlib.Core.List.{List, ◌∷◌}
use mathlib.Core.Path.{◌≡◌, refl}
use Prim.Native.Nat.{ℕ}
use native.Mathlib.Omega.{arith}
use lib.Dec.{eqb}
use lib.ListN.{length}
use borrow.Author.Tests.{eqb-true, not-false}
use Rattle.catalogue.specs.Encoding.{Bytes}
use Rattle.catalogue.specs.Reading.{Reading, read_catalogue, sound, unsound}
use Rattle.catalogue.specs.Version.{version_of}
use Rattle.catalogue.specs.declared.Version.{Version}
use Rattle.layout.specs.Layout.{Layout, find_file, free_blocks, has_file}
use Rattle.manager.proofs.Catalogues.{decides_length, read_catalogue_lem, unread_catalogue}
use Rattle.manager.proofs.ConditionLists.{Judges, judges_end, judges_row}
use Rattle.manager.proofs.Deciding.{decides_below, decides_equal, decides_false, decides_not, decides_true}
use Rattle.manager.proofs.TableRows.{decides_too_long, decides_unpaged, disk-row, full-row, missing_row}
use Rattle.manager.proofs.TableRows.{not_above_row, past_end_row, space-row, there_row}
use Rattle.manager.specs.Call.{Call, add, breaks, check, free, read, remove, replace, which}
use Rattle.manager.specs.Conditions.{Condition, add_conditions, breaks_conditions, check_conditions, condition}
use Rattle.manager.specs.Conditions.{free_conditions, on_layout, read_conditions, remove_conditions}
use Rattle.manager.specs.Conditions.{replace_conditions, which_conditions, wrong_catalogue}
use Rattle.manager.specs.Disk.{cut_pages, page_count}
use Rattle.manager.specs.Table.{CatalogueOf, GivenIf, Refusal, buffer_length, catalogue_length, disk_length}
use Rattle.manager.specs.Table.{files_full, first_rank, id_missing, id_there, id_zero, letter_not_above}
use Rattle.manager.specs.Table.{letter_unknown, list_length, no_space, not_sound, numbers_of, past_end}

-- the conditions of a call, in order
abbrev pub conditions_of : Call → List ℕ → List ℕ → List Condition
conditions_of (add i bs) cat d = add_conditions (version_of cat) i bs cat d
conditions_of (remove i) cat d = remove_conditions (version_of cat) i cat d
conditions_of (replace i bs) cat d = replace_conditions (version_of cat) i bs cat d
conditions_of (read i p o) cat d = read_conditions (version_of cat) i p o cat d
conditions_of (breaks i) cat d = breaks_conditions (version_of cat) i cat
conditions_of (which n o) cat d = which_conditions (version_of cat) n o cat
conditions_of free cat d = free_conditions (version_of cat) cat
conditions_of check cat d = check_conditions (version_of cat) cat d

-- the rows of the table that are given
abbrev pub GivenTo : Call → List ℕ → List ℕ → Refusal → Type 0
GivenTo c cat d r = GivenIf r c cat d

module _ (cat d : List ℕ) (bytes : Bytes cat) where
  abbrev v : Version
  v = version_of cat

  -- the conditions 1 and 3, that every call begins with
  judges_catalogue : (c : Call) {ns : List ℕ} (conditions : Layout → List Condition)
      → ((l : Layout) → CatalogueOf cat l → Judges (GivenTo c cat d) ns (conditions l))
      → Judges (GivenTo c cat d) (1 ∷ 3 ∷ ns)
      (condition 1 (wrong_catalogue v cat) ∷ on_layout (read_catalogue v cat) conditions)
  judges_catalogue c {ns} conditions others =
      judges_row catalogue_length (decides_length cat)
      λ e. go (eqb-true (length cat) v.bytes (not-false (eqb (length cat) v.bytes) e))
      (read_catalogue v cat) refl
    where
      go : length cat ≡ v.bytes → (x : Reading) → read_catalogue v cat ≡ x
          → Judges (GivenTo c cat d) (3 ∷ ns) (on_layout x conditions)
      go n (sound l) e =
          let h = read_catalogue_lem cat bytes n l e in
          judges_row not_sound (decides_false λ no-layout. no-layout l h) λ _. others l h
      go n unsound e =
          judges_row not_sound (decides_true (unread_catalogue cat bytes n e))
          λ f. absurd (let z : ◌≡◌ {A = ℕ} 0 1 = cc in omega arith)

  -- the first refusal of a call's conditions is the table's
  pub call_judged : (c : Call) → Judges (GivenTo c cat d) (numbers_of c) (conditions_of c cat d)
  call_judged (add i bs) =
      judges_catalogue (add i bs) _ λ l h.
      judges_row disk_length (disk-row cat d l h) λ _.
      judges_row id_zero (decides_equal i 0) λ _.
      judges_row id_there (there_row cat d l h i) λ _.
      judges_row buffer_length (decides_unpaged bs) λ _.
      judges_row files_full (full-row cat d l h) λ _.
      judges_row no_space (space-row cat d l h (add i bs) (decides_below (free_blocks l) (page_count bs))) λ _.
      judges_end
  call_judged (remove i) =
      judges_catalogue (remove i) _ λ l h.
      judges_row disk_length (disk-row cat d l h) λ _.
      judges_row id_zero (decides_equal i 0) λ _.
      judges_row id_missing (missing_row cat d l h i) λ _.
      judges_end
  call_judged (replace i bs) =
      judges_catalogue (replace i bs) _ λ l h.
      judges_row disk_length (disk-row cat d l h) λ _.
      judges_row id_zero (decides_equal i 0) λ _.
      judges_row id_missing (missing_row cat d l h i) λ there.
      judges_row buffer_length (decides_unpaged bs) λ _.
      judges_row letter_unknown (decides_equal (first_rank (cut_pages (page_count bs) bs)) 0) λ _.
      judges_row letter_not_above (not_above_row cat d l h i bs) λ _.
      judges_row no_space (space-row cat d l h (replace i bs)
      (decides_too_long bs l (find_file i l.files) (not-false (has_file i l.files) there))) λ _.
      judges_end
  call_judged (read i p o) =
      judges_catalogue (read i p o) _ λ l h.
      judges_row disk_length (disk-row cat d l h) λ _.
      judges_row id_zero (decides_equal i 0) λ _.
      judges_row id_missing (missing_row cat d l h i) λ _.
      judges_row buffer_length (decides_unpaged o) λ _.
      judges_row past_end (past_end_row cat d l h i p (page_count o)) λ _.
      judges_end
  call_judged (breaks i) =
      judges_catalogue (breaks i) _ λ l h.
      judges_row id_zero (decides_equal i 0) λ _.
      judges_row id_missing (missing_row cat d l h i) λ _.
      judges_end
  call_judged (which n o) =
      judges_catalogue (which n o) _ λ l h.
      judges_row buffer_length (decides_equal n 0) λ _.
      judges_row list_length (decides_not (decides_equal (length o) _)) λ _.
      judges_end
  call_judged free = judges_catalogue free _ λ l h. judges_end
  call_judged check =
      judges_catalogue check _ λ l h.
      judges_row disk_length (disk-row cat d l h) λ _.
      judges_end

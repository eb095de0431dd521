-- The calls by what is read from the catalogue: a layout, none, or a buffer of another length. Assumes nothing.
use mathlib.Core.Bool.{Bool, false, not, true}
use mathlib.Core.List.{List, [], ◌∷◌}
use mathlib.Core.Path.{◌∙◌, ◌≡◌, ap, ap₂, refl}
use Prim.Native.Nat.{ℕ}
use native.Mathlib.Omega.{arith}
use lib.Dec.{eqb}
use lib.ListN.{length}
use borrow.Author.Tests.{eq-eqb, eqb-true, ne_eqb}
use Rattle.catalogue.specs.Reading.{Reading, read_catalogue, sound, unsound}
use Rattle.catalogue.specs.Version.{version_of}
use Rattle.catalogue.specs.declared.Version.{Version}
use Rattle.layout.specs.Adding.{allocate}
use Rattle.layout.specs.Layout.{Layout, find_file, free_blocks}
use Rattle.layout.specs.Moves.{right}
use Rattle.manager.proofs.CallEquations.{add_in_is, breaks_in_is, check_in_is, free_in_is, read_in_is, remove_in_is}
use Rattle.manager.proofs.CallEquations.{replace_outcome_is, which_in_is}
use Rattle.manager.specs.Conditions.{Condition, add_checks, allowed, answered, condition, file_checks, first_refusal}
use Rattle.manager.specs.Conditions.{on_layout, outcome, read_checks, refusal, refused, replace_checks, reply_unless}
use Rattle.manager.specs.Conditions.{unless_refused, which_checks, wrong_catalogue, wrong_disk}
use Rattle.manager.specs.Disk.{page_count}
use Rattle.manager.specs.Outcomes.{add_in, add_pieces, breaks_found, breaks_in, check_in, do_add}
use Rattle.manager.specs.Outcomes.{do_breaks, do_check, do_free, do_read, do_remove, do_which, free_in, help_for}
use Rattle.manager.specs.Outcomes.{read_found, read_in, remove_found, remove_in, remove_then_add, replace_outcome}
use Rattle.manager.specs.Outcomes.{which_in}
use Rattle.section.specs.Limits.{height_count}

-- ---- a catalogue from which the layout l is read

module _ (v : Version) (cat : List ℕ) (l : Layout) (lc : length cat ≡ v.bytes)
    (rd : read_catalogue v cat ≡ sound l) where
  right_length : wrong_catalogue v cat ≡ false
  right_length = ap not (eq-eqb (length cat) v.bytes lc)

  -- conditions 1 and 3 do not apply
  past_catalogue : (k : Layout → List Condition)
      → first_refusal (condition 1 (wrong_catalogue v cat) ∷ on_layout (read_catalogue v cat) k) ≡ first_refusal (k l)
  unfolding first_refusal
  past_catalogue k = rw (right_length, rd)

  pub breaks_on_read : (i : ℕ)
      → breaks_in v i cat ≡ reply_unless (first_refusal (file_checks i l)) (breaks_found (find_file i l.files))
  breaks_on_read i =
      breaks_in_is v cat i ∙ ap₂ (λ j x. reply_unless j (do_breaks i x)) (past_catalogue (file_checks i)) rd

  pub free_on_read : free_in v cat ≡ answered (free_blocks l)
  unfolding first_refusal
  free_on_read = free_in_is v cat ∙ ap₂ (λ j x. reply_unless j (do_free x)) (past_catalogue (λ l. [])) rd

  -- whatever the disk
  pub which_on_read : (n : ℕ) (o d : List ℕ)
      → which_in v n o cat d ≡ unless_refused (first_refusal (which_checks n o)) cat d o (help_for n cat d l)
  which_on_read n o d =
      which_in_is v cat n o d
      ∙ ap₂ (λ j x. unless_refused j cat d o (do_which n o cat d x)) (past_catalogue (λ m. which_checks n o)) rd

  pub add_on_read : (i : ℕ) (bs d : List ℕ)
      → add_in v i bs cat d
      ≡ unless_refused (first_refusal (condition 4 (wrong_disk l d) ∷ add_checks i bs l)) cat d []
      (add_pieces v i bs cat d l (allocate 0 height_count (page_count bs) l.free))
  add_on_read i bs d =
      add_in_is v cat i bs d
      ∙ ap₂ (λ j x. unless_refused j cat d [] (do_add v i bs cat d x))
      (past_catalogue (λ m. condition 4 (wrong_disk m d) ∷ add_checks i bs m)) rd

  pub remove_on_read : (i : ℕ) (d : List ℕ)
      → remove_in v i cat d
      ≡ unless_refused (first_refusal (condition 4 (wrong_disk l d) ∷ file_checks i l)) cat d []
      (remove_found v cat d l (find_file i l.files))
  remove_on_read i d =
      remove_in_is v cat i d
      ∙ ap₂ (λ j x. unless_refused j cat d [] (do_remove v i cat d x))
      (past_catalogue (λ m. condition 4 (wrong_disk m d) ∷ file_checks i m)) rd

  pub read_on_read : (i p : ℕ) (o d : List ℕ)
      → read_in v i p o cat d
      ≡ unless_refused (first_refusal (condition 4 (wrong_disk l d) ∷ read_checks i p o l)) cat d o
      (read_found p o cat d (find_file i l.files))
  read_on_read i p o d =
      read_in_is v cat i p o d
      ∙ ap₂ (λ j x. unless_refused j cat d o (do_read i p o cat d x))
      (past_catalogue (λ m. condition 4 (wrong_disk m d) ∷ read_checks i p o m)) rd

  pub check_on_read : (d : List ℕ)
      → check_in v cat d ≡ reply_unless (first_refusal (condition 4 (wrong_disk l d) ∷ [])) (answered l.blocks)
  check_on_read d =
      check_in_is v cat d
      ∙ ap₂ (λ j x. reply_unless j (do_check x)) (past_catalogue (λ m. condition 4 (wrong_disk m d) ∷ [])) rd

-- a replacement goes by the catalogue's own version
pub replace_on_read : (cat : List ℕ) (l : Layout) → length cat ≡ (version_of cat).bytes
    → read_catalogue (version_of cat) cat ≡ sound l → (i : ℕ) (bs d : List ℕ)
    → replace_outcome i bs cat d
    ≡ unless_refused (first_refusal (condition 4 (wrong_disk l d) ∷ replace_checks i bs d l)) cat d []
    (remove_then_add i bs cat d)
replace_on_read cat l lc rd i bs d =
    replace_outcome_is cat i bs d
    ∙ ap (λ j. unless_refused j cat d [] (remove_then_add i bs cat d))
    (past_catalogue (version_of cat) cat l lc rd (λ m. condition 4 (wrong_disk m d) ∷ replace_checks i bs d m))

-- a call that is allowed was given a catalogue from which a layout is read
pub allowed_reads : (v : Version) (cat : List ℕ) (k : Layout → List Condition)
    → first_refusal (condition 1 (wrong_catalogue v cat) ∷ on_layout (read_catalogue v cat) k) ≡ allowed
    → (l : Layout) × (length cat ≡ v.bytes) × (read_catalogue v cat ≡ sound l) × (first_refusal (k l) ≡ allowed)
unfolding first_refusal
allowed_reads v cat k e = go (eqb (length cat) v.bytes) refl (read_catalogue v cat) refl e
  where
    go : (b : Bool) → eqb (length cat) v.bytes ≡ b → (x : Reading) → read_catalogue v cat ≡ x
        → first_refusal (condition 1 (not b) ∷ on_layout x k) ≡ allowed
        → (l : Layout) × (length cat ≡ v.bytes) × (read_catalogue v cat ≡ sound l) × (first_refusal (k l) ≡ allowed)
    go true lc (sound l) rd q = (l, eqb-true (length cat) v.bytes lc, rd, q)
    go true lc unsound rd q = absurd (let z : ◌≡◌ {A = ℕ} 0 1 = cc in omega arith)
    go false lc x rd q = absurd (let z : ◌≡◌ {A = ℕ} 0 1 = cc in omega arith)

-- ---- a catalogue that is refused, whatever the conditions past it

-- from which no layout is read
pub not_sound : (v : Version) (cat : List ℕ) → length cat ≡ v.bytes → read_catalogue v cat ≡ unsound
    → (k : Layout → List Condition)
    → first_refusal (condition 1 (wrong_catalogue v cat) ∷ on_layout (read_catalogue v cat) k) ≡ refusal 3
unfolding first_refusal
not_sound v cat lc rd k =
    let right : wrong_catalogue v cat ≡ false = ap not (eq-eqb (length cat) v.bytes lc) in
    rw (right, rd)

-- of another length
pub wrong_length : (v : Version) (cat : List ℕ) → (length cat ≡ v.bytes → ⊥) → (k : Layout → List Condition)
    → first_refusal (condition 1 (wrong_catalogue v cat) ∷ on_layout (read_catalogue v cat) k) ≡ refusal 1
unfolding first_refusal
wrong_length v cat lc k =
    let wrong : wrong_catalogue v cat ≡ true = ap not (ne_eqb (length cat) v.bytes lc) in
    rw wrong

module _ (v : Version) (cat : List ℕ) (n : ℕ)
    (shut : (k : Layout → List Condition)
    → first_refusal (condition 1 (wrong_catalogue v cat) ∷ on_layout (read_catalogue v cat) k) ≡ refusal n) where
  pub add_refused : (i : ℕ) (bs d : List ℕ) → add_in v i bs cat d ≡ outcome (refused n) cat d []
  add_refused i bs d =
      add_in_is v cat i bs d
      ∙ ap (λ j. unless_refused j cat d [] (do_add v i bs cat d (read_catalogue v cat)))
      (shut (λ m. condition 4 (wrong_disk m d) ∷ add_checks i bs m))

  pub remove_refused : (i : ℕ) (d : List ℕ) → remove_in v i cat d ≡ outcome (refused n) cat d []
  remove_refused i d =
      remove_in_is v cat i d
      ∙ ap (λ j. unless_refused j cat d [] (do_remove v i cat d (read_catalogue v cat)))
      (shut (λ m. condition 4 (wrong_disk m d) ∷ file_checks i m))

  pub read_refused_lem : (i p : ℕ) (o d : List ℕ) → read_in v i p o cat d ≡ outcome (refused n) cat d o
  read_refused_lem i p o d =
      read_in_is v cat i p o d
      ∙ ap (λ j. unless_refused j cat d o (do_read i p o cat d (read_catalogue v cat)))
      (shut (λ m. condition 4 (wrong_disk m d) ∷ read_checks i p o m))

  pub breaks_refused : (i : ℕ) → breaks_in v i cat ≡ refused n
  breaks_refused i =
      breaks_in_is v cat i ∙ ap (λ j. reply_unless j (do_breaks i (read_catalogue v cat))) (shut (file_checks i))

  pub which_refused : (m : ℕ) (o d : List ℕ) → which_in v m o cat d ≡ outcome (refused n) cat d o
  which_refused m o d =
      which_in_is v cat m o d
      ∙ ap (λ j. unless_refused j cat d o (do_which m o cat d (read_catalogue v cat))) (shut (λ l. which_checks m o))

  pub free_refused : free_in v cat ≡ refused n
  free_refused = free_in_is v cat ∙ ap (λ j. reply_unless j (do_free (read_catalogue v cat))) (shut (λ l. []))

  pub check_refused : (d : List ℕ) → check_in v cat d ≡ refused n
  check_refused d =
      check_in_is v cat d
      ∙ ap (λ j. reply_unless j (do_check (read_catalogue v cat))) (shut (λ m. condition 4 (wrong_disk m d) ∷ []))

-- and so does a refused one
pub replace_refused : (cat : List ℕ) (n : ℕ)
    → ((k : Layout → List Condition)
    → first_refusal (condition 1 (wrong_catalogue (version_of cat) cat) ∷ on_layout
    (read_catalogue (version_of cat) cat) k)
    ≡ refusal n)
    → (i : ℕ) (bs d : List ℕ) → replace_outcome i bs cat d ≡ outcome (refused n) cat d []
replace_refused cat n shut i bs d =
    replace_outcome_is cat i bs d
    ∙ ap (λ j. unless_refused j cat d [] (remove_then_add i bs cat d))
    (shut (λ m. condition 4 (wrong_disk m d) ∷ replace_checks i bs d m))

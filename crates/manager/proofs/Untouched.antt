-- What a call leaves of the buffers that it never writes, whatever it is called with: a read and `which` leave
-- catalogue and disk, format the disk, and format, add, remove and replace have no output; and `which` gives the same
-- whatever the disk. Assumes nothing.
use mathlib.Core.Bool.{Bool, cond, false, true}
use mathlib.Core.List.{List, []}
use mathlib.Core.Path.{◌∙◌, ◌≡◌, ap, refl, subst, sym}
use Prim.Native.Nat.{ℕ}
use lib.Dec.{leb}
use Rattle.catalogue.specs.Reading.{Reading, read_catalogue, sound, unsound}
use Rattle.catalogue.specs.Version.{version_of}
use Rattle.layout.specs.Adding.{Allocated, allocate, allocated, too_few}
use Rattle.layout.specs.Layout.{Found, find_file, found, free_blocks, missing}
use Rattle.manager.proofs.CallEquations.{add_in_is, format_in_is, read_in_is, remove_in_is, replace_outcome_is}
use Rattle.manager.proofs.CallEquations.{which_in_is}
use Rattle.manager.proofs.Judging.{either_side}
use Rattle.manager.specs.Conditions.{Judgement, Outcome, Reply, add_conditions, allowed, first_refusal}
use Rattle.manager.specs.Conditions.{format_conditions, outcome, read_conditions, refusal, remove_conditions}
use Rattle.manager.specs.Conditions.{replace_conditions, unless_refused, which_conditions}
use Rattle.manager.specs.Disk.{page_count}
use Rattle.manager.specs.Outcomes.{add_outcome, add_pieces, do_add, do_read, do_remove, do_which}
use Rattle.manager.specs.Outcomes.{format_outcome, read_found, read_outcome, remove_found}
use Rattle.manager.specs.Outcomes.{remove_outcome, remove_then_add, replace_outcome, which_in, which_outcome}
use Rattle.section.specs.Limits.{height_count}

-- refused calls keep all, so what the call does decides
unless_all : (P : Outcome → Type 0) (j : Judgement) (cat d o : List ℕ) (act : Outcome)
    → ((n : ℕ) → P (unless_refused (refusal n) cat d o act)) → P act → P (unless_refused j cat d o act)
unless_all P allowed cat d o act r a = a
unless_all P (refusal n) cat d o act r a = r n

abbrev Keeps : List ℕ → List ℕ → Outcome → Type 0
Keeps cat d x = (x.catalogue ≡ cat) × (x.disk ≡ d)

abbrev Silent : Outcome → Type 0
Silent x = x.output ≡ []

pub read_keeps : (i p : ℕ) (o cat d : List ℕ)
    → ((read_outcome i p o cat d).catalogue ≡ cat) × ((read_outcome i p o cat d).disk ≡ d)
read_keeps i p o cat d =
    subst (Keeps cat d) (sym (read_in_is (version_of cat) cat i p o d))
    (unless_all (Keeps cat d) (first_refusal (read_conditions (version_of cat) i p o cat d)) cat d o _ (λ n. (refl, refl))
    (reading (read_catalogue (version_of cat) cat)))
  where
    file : (x : Found) → Keeps cat d (read_found p o cat d x)
    file (found f) = (refl, refl)
    file missing = (refl, refl)

    reading : (x : Reading) → Keeps cat d (do_read i p o cat d x)
    reading (sound l) = file (find_file i l.files)
    reading unsound = (refl, refl)

-- `which` takes no disk: whatever one there is
pub which_keeps : (n : ℕ) (o cat d : List ℕ)
    → ((which_in (version_of cat) n o cat d).catalogue ≡ cat) × ((which_in (version_of cat) n o cat d).disk ≡ d)
which_keeps n o cat d =
    subst (Keeps cat d) (sym (which_in_is (version_of cat) cat n o d))
    (unless_all (Keeps cat d) (first_refusal (which_conditions (version_of cat) n o cat)) cat d o _ (λ m. (refl, refl))
    (reading (read_catalogue (version_of cat) cat)))
  where
    reading : (x : Reading) → Keeps cat d (do_which n o cat d x)
    reading (sound l) = either_side (Keeps cat d) (leb n (free_blocks l)) _ _ (refl, refl) (refl, refl)
    reading unsound = (refl, refl)

-- and so it gives on any disk what it gives without one
pub which-without-disk : (n : ℕ) (o cat d : List ℕ)
    → which_in (version_of cat) n o cat d ≡ outcome (which_outcome n o cat).reply cat d (which_outcome n o cat).output
which-without-disk n o cat d =
    which_in_is (version_of cat) cat n o d
    ∙ (go (first_refusal (which_conditions (version_of cat) n o cat)) (read_catalogue (version_of cat) cat)
    ∙ ap on_disk (sym (which_in_is (version_of cat) cat n o [])))
  where
    on_disk : Outcome → Outcome
    on_disk x = outcome x.reply cat d x.output

    either : (b : Bool) (r s : Reply) (y z : List ℕ)
        → cond b (outcome r cat d y) (outcome s cat d z) ≡ on_disk (cond b (outcome r cat [] y) (outcome s cat [] z))
    either true r s y z = refl
    either false r s y z = refl

    go : (j : Judgement) (x : Reading)
        → unless_refused j cat d o (do_which n o cat d x) ≡ on_disk (unless_refused j cat [] o (do_which n o cat [] x))
    go (refusal m) x = refl
    go allowed unsound = refl
    go allowed (sound l) = either (leb n (free_blocks l)) _ _ _ _

pub format_keeps_disk : (cat d : List ℕ) → (format_outcome cat d).disk ≡ d
format_keeps_disk cat d =
    subst (λ x. x.disk ≡ d) (sym (format_in_is (version_of cat) cat d))
    (unless_all (λ x. x.disk ≡ d) (first_refusal (format_conditions (version_of cat) cat d)) cat d [] _ (λ n. refl) refl)

pub format_no_output : (cat d : List ℕ) → (format_outcome cat d).output ≡ []
format_no_output cat d =
    subst Silent (sym (format_in_is (version_of cat) cat d))
    (unless_all Silent (first_refusal (format_conditions (version_of cat) cat d)) cat d [] _ (λ n. refl) refl)

pub add_no_output : (i : ℕ) (bs cat d : List ℕ) → (add_outcome i bs cat d).output ≡ []
add_no_output i bs cat d =
    subst Silent (sym (add_in_is (version_of cat) cat i bs d))
    (unless_all Silent (first_refusal (add_conditions (version_of cat) i bs cat d)) cat d [] _ (λ n. refl)
    (reading (read_catalogue (version_of cat) cat)))
  where
    reading : (x : Reading) → Silent (do_add (version_of cat) i bs cat d x)
    reading (sound l) = pieces (allocate 0 height_count (page_count bs) l.free)
      where
        pieces : (a : Allocated) → Silent (add_pieces (version_of cat) i bs cat d l a)
        pieces (allocated s r) = refl
        pieces too_few = refl
    reading unsound = refl

pub remove_no_output : (i : ℕ) (cat d : List ℕ) → (remove_outcome i cat d).output ≡ []
remove_no_output i cat d =
    subst Silent (sym (remove_in_is (version_of cat) cat i d))
    (unless_all Silent (first_refusal (remove_conditions (version_of cat) i cat d)) cat d [] _ (λ n. refl)
    (reading (read_catalogue (version_of cat) cat)))
  where
    reading : (x : Reading) → Silent (do_remove (version_of cat) i cat d x)
    reading (sound l) = file (find_file i l.files)
      where
        file : (x : Found) → Silent (remove_found (version_of cat) cat d l x)
        file (found f) = refl
        file missing = refl
    reading unsound = refl

pub replace_no_output : (i : ℕ) (bs cat d : List ℕ) → (replace_outcome i bs cat d).output ≡ []
replace_no_output i bs cat d =
    subst Silent (sym (replace_outcome_is cat i bs d))
    (unless_all Silent (first_refusal (replace_conditions (version_of cat) i bs cat d)) cat d []
    (remove_then_add i bs cat d) (λ n. refl) refl)

-- A call that is refused changes no buffer: catalogue, disk and output are as they were. Assumes nothing.
use mathlib.Core.List.{List, []}
use mathlib.Core.Path.{◌∙◌, ◌≡◌, refl, subst, sym}
use Prim.Native.Nat.{ℕ}
use native.Mathlib.Omega.{arith}
use lib.Dec.{leb}
use lib.ListN.{length}
use Rattle.catalogue.specs.Encoding.{encode}
use Rattle.catalogue.specs.Reading.{Reading, read_catalogue, sound, unsound}
use Rattle.catalogue.specs.Version.{version_of}
use Rattle.catalogue.specs.declared.Version.{Version}
use Rattle.layout.specs.Adding.{Allocated, allocate, allocated, too_few}
use Rattle.layout.specs.Helping.{helping_ids}
use Rattle.layout.specs.Layout.{Found, Layout, find_file, found, free_blocks, fresh_layout, missing}
use Rattle.layout.specs.Removing.{copies_of, removal}
use Rattle.manager.proofs.CallEquations.{add_in_is, format_in_is, read_in_is, remove_in_is, replace_outcome_is}
use Rattle.manager.proofs.CallEquations.{which_in_is}
use Rattle.manager.proofs.CanReplace.{removal_answered}
use Rattle.manager.proofs.Judging.{either_side}
use Rattle.manager.specs.Call.{Call, add, breaks, check, free, output_of, read, remove, replace, which}
use Rattle.manager.specs.Changes.{Unchanged}
use Rattle.manager.specs.Conditions.{Judgement, Outcome, Reply, add_conditions, allowed, answered}
use Rattle.manager.specs.Conditions.{first_refusal, fits_already, format_conditions, outcome, read_conditions}
use Rattle.manager.specs.Conditions.{refusal, refused, remove_conditions, replace_conditions, unless_refused}
use Rattle.manager.specs.Conditions.{which_conditions}
use Rattle.manager.specs.Disk.{page_count}
use Rattle.manager.specs.Outcomes.{add_pieces, breaks_reply, check_reply, do_add, do_read, do_remove, do_which}
use Rattle.manager.specs.Outcomes.{format_outcome, free_reply, help_for, perform, read_found}
use Rattle.manager.specs.Outcomes.{remove_found, remove_outcome, remove_then_add}
use Rattle.section.specs.Limits.{height_count}

-- a refusal leaves the buffers
abbrev RefusedUnchanged : List ℕ → List ℕ → List ℕ → Outcome → Type 0
RefusedUnchanged cat d o x = (n : ℕ) → x.reply ≡ refused n → Unchanged cat d o x

-- an answer is no refusal
pub answered_not_refused : (m n : ℕ) → answered m ≡ refused n → ⊥
answered_not_refused m n e = let z : ◌≡◌ {A = ℕ} 0 1 = cc in omega arith

-- nor is "fits already"
pub fits_not_refused : (n : ℕ) → fits_already ≡ refused n → ⊥
fits_not_refused n e = let z : ◌≡◌ {A = ℕ} 0 1 = cc in omega arith

module _ (cat d : List ℕ) where
  -- so that `which` is never refused on a layout
  pub help_not_refused : (n : ℕ) (l : Layout) (m : ℕ) → (help_for n cat d l).reply ≡ refused m → ⊥
  help_not_refused n l m =
      either_side (λ (x : Outcome). x.reply ≡ refused m → ⊥) (leb n (free_blocks l)) _ _ (fits_not_refused m)
      (answered_not_refused (length (helping_ids height_count n l)) m)

  same_buffers : (r : Reply) (o : List ℕ) → Unchanged cat d o (outcome r cat d o)
  same_buffers r o = record { catalogue = refl; disk = refl; output = refl }

  unless_unchanged : (o : List ℕ) (j : Judgement) (act : Outcome) → RefusedUnchanged cat d o act
      → RefusedUnchanged cat d o (unless_refused j cat d o act)
  unless_unchanged o allowed act h = h
  unless_unchanged o (refusal m) act h = λ n e. same_buffers (refused m) o

  add_unchanged : (v : Version) (i : ℕ) (bs : List ℕ) (x : Reading)
      → RefusedUnchanged cat d [] (do_add v i bs cat d x)
  add_unchanged v i bs (sound l) = go (allocate 0 height_count (page_count bs) l.free)
    where
      go : (a : Allocated) → RefusedUnchanged cat d [] (add_pieces v i bs cat d l a)
      go (allocated s r) n e = absurd (answered_not_refused (page_count bs) n e)
      go too_few n e = same_buffers (refused 11) []
  add_unchanged v i bs unsound = λ n e. same_buffers (refused 3) []

  remove_unchanged : (v : Version) (i : ℕ) (x : Reading) → RefusedUnchanged cat d [] (do_remove v i cat d x)
  remove_unchanged v i (sound l) = go (find_file i l.files)
    where
      go : (x : Found) → RefusedUnchanged cat d [] (remove_found v cat d l x)
      go (found f) n e = absurd (answered_not_refused (length (copies_of (removal height_count f l))) n e)
      go missing n e = same_buffers (refused 6) []
  remove_unchanged v i unsound = λ n e. same_buffers (refused 3) []

  -- past its conditions a replacement is answered
  replace_unchanged : (i : ℕ) (bs : List ℕ) (j : Judgement)
      → (j ≡ allowed → (k : ℕ) × ((remove_outcome i cat d).reply ≡ answered k))
      → RefusedUnchanged cat d [] (unless_refused j cat d [] (remove_then_add i bs cat d))
  replace_unchanged i bs allowed h n e =
      let w = h refl in absurd (answered_not_refused w.0 n (sym w.1 ∙ e))
  replace_unchanged i bs (refusal m) h n e = same_buffers (refused m) []

  read_unchanged : (i p : ℕ) (o : List ℕ) (x : Reading) → RefusedUnchanged cat d o (do_read i p o cat d x)
  read_unchanged i p o (sound l) = go (find_file i l.files)
    where
      go : (x : Found) → RefusedUnchanged cat d o (read_found p o cat d x)
      go (found f) n e = absurd (answered_not_refused (page_count o) n e)
      go missing n e = same_buffers (refused 6) o
  read_unchanged i p o unsound = λ n e. same_buffers (refused 3) o

  which_unchanged : (n : ℕ) (o : List ℕ) (x : Reading) → RefusedUnchanged cat d o (do_which n o cat d x)
  which_unchanged n o (sound l) = λ m e. absurd (help_not_refused n l m e)
  which_unchanged n o unsound = λ m e. same_buffers (refused 3) o

-- a call of a list that is refused changes no buffer
pub refused_changes_nothing : (c : Call) (cat d : List ℕ) (n : ℕ)
    → (perform c cat d).reply ≡ refused n
    → Unchanged cat d (output_of c) (perform c cat d)
refused_changes_nothing (add i bs) cat d =
    subst (RefusedUnchanged cat d []) (sym (add_in_is (version_of cat) cat i bs d))
    (unless_unchanged cat d [] (first_refusal (add_conditions (version_of cat) i bs cat d))
    (do_add (version_of cat) i bs cat d (read_catalogue (version_of cat) cat))
    (add_unchanged cat d (version_of cat) i bs (read_catalogue (version_of cat) cat)))
refused_changes_nothing (remove i) cat d =
    subst (RefusedUnchanged cat d []) (sym (remove_in_is (version_of cat) cat i d))
    (unless_unchanged cat d [] (first_refusal (remove_conditions (version_of cat) i cat d))
    (do_remove (version_of cat) i cat d (read_catalogue (version_of cat) cat))
    (remove_unchanged cat d (version_of cat) i (read_catalogue (version_of cat) cat)))
refused_changes_nothing (replace i bs) cat d =
    subst (RefusedUnchanged cat d []) (sym (replace_outcome_is cat i bs d))
    (replace_unchanged cat d i bs (first_refusal (replace_conditions (version_of cat) i bs cat d))
    (removal_answered i bs cat d))
refused_changes_nothing (read i p o) cat d =
    subst (RefusedUnchanged cat d o) (sym (read_in_is (version_of cat) cat i p o d))
    (unless_unchanged cat d o (first_refusal (read_conditions (version_of cat) i p o cat d))
    (do_read i p o cat d (read_catalogue (version_of cat) cat))
    (read_unchanged cat d i p o (read_catalogue (version_of cat) cat)))
refused_changes_nothing (breaks i) cat d = λ n e. same_buffers cat d (breaks_reply i cat) []
refused_changes_nothing (which n o) cat d =
    subst (RefusedUnchanged cat d o) (sym (which_in_is (version_of cat) cat n o d))
    (unless_unchanged cat d o (first_refusal (which_conditions (version_of cat) n o cat))
    (do_which n o cat d (read_catalogue (version_of cat) cat))
    (which_unchanged cat d n o (read_catalogue (version_of cat) cat)))
refused_changes_nothing free cat d = λ n e. same_buffers cat d (free_reply cat) []
refused_changes_nothing check cat d = λ n e. same_buffers cat d (check_reply cat d) []

-- a format that is refused changes no buffer
pub format_refused_changes_nothing : (cat d : List ℕ) (n : ℕ)
    → (format_outcome cat d).reply ≡ refused n
    → Unchanged cat d [] (format_outcome cat d)
format_refused_changes_nothing cat d =
    subst (RefusedUnchanged cat d []) (sym (format_in_is (version_of cat) cat d))
    (unless_unchanged cat d [] (first_refusal (format_conditions (version_of cat) cat d))
    (outcome (answered (page_count d)) (encode (version_of cat) (fresh_layout height_count (page_count d))) d [])
    (λ n e. absurd (answered_not_refused (page_count d) n e)))

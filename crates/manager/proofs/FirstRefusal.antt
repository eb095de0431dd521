-- A call is refused with a number exactly if that is the number of the first refusal of the table that applies, in the
-- order of the call's checks. Assumes nothing.
use mathlib.Core.Bool.{not}
use mathlib.Core.List.{List, []}
use mathlib.Core.Logic.{◌↔◌}
use mathlib.Core.Path.{◌∙◌, ◌≡◌, ap, refl, sym}
use Prim.Native.Nat.{◌<◌, ℕ}
use native.Mathlib.Omega.{arith}
use lib.ListN.{length}
use borrow.Author.Tests.{ne_eqb}
use Rattle.catalogue.proofs.Roomy.{roomy}
use Rattle.catalogue.specs.Encoding.{Bytes}
use Rattle.catalogue.specs.Reading.{Reading, read_catalogue, sound, unsound}
use Rattle.catalogue.specs.Version.{version_of}
use Rattle.layout.proofs.Added.{allocate_fits}
use Rattle.layout.proofs.Finding.{missing_none}
use Rattle.layout.specs.Adding.{Allocated, allocate, allocated, too_few}
use Rattle.layout.specs.Layout.{File, Found, Layout, breaks_of, find_file, found, free_blocks, is_found, missing}
use Rattle.layout.specs.Removing.{copies_of, removal}
use Rattle.manager.proofs.AllHeights.{all_heights}
use Rattle.manager.proofs.CallEquations.{add_in_is, breaks_in_is, check_in_is, free_in_is, read_in_is, remove_in_is}
use Rattle.manager.proofs.CallEquations.{replace_outcome_is, which_in_is}
use Rattle.manager.proofs.CallsJudged.{GivenTo, call_judged, conditions_of}
use Rattle.manager.proofs.CanReplace.{removal_answered}
use Rattle.manager.proofs.Catalogues.{decides_length, read_catalogue_lem, unread_catalogue}
use Rattle.manager.proofs.ConditionLists.{FirstOf, Judges, NoneOf, Right}
use Rattle.manager.proofs.Deciding.{equal_if_never_unequal}
use Rattle.manager.proofs.NumberPlaces.{place_unique}
use Rattle.manager.proofs.Refusals.{answered_not_refused, help_not_refused}
use Rattle.manager.specs.Arguments.{id_of}
use Rattle.manager.specs.Call.{Call, add, breaks, check, free, read, remove, replace, which}
use Rattle.manager.specs.Conditions.{Judgement, Outcome, Reply, add_conditions, allowed, first_refusal}
use Rattle.manager.specs.Conditions.{read_conditions, refusal, refused, remove_conditions, replace_conditions}
use Rattle.manager.specs.Conditions.{reply_unless, unless_refused, which_conditions}
use Rattle.manager.specs.Disk.{page_count}
use Rattle.manager.specs.Outcomes.{add_pieces, breaks_found, do_add, do_breaks, do_check, do_free, do_read, do_remove}
use Rattle.manager.specs.Outcomes.{do_which, perform, read_found}
use Rattle.manager.specs.Outcomes.{remove_found, remove_outcome, remove_then_add}
use Rattle.manager.specs.Table.{By, CatalogueOf, First, Refusal, catalogue_length, id_missing, no_space}
use Rattle.manager.specs.Table.{not_sound, number_of, numbers_of, place_in}
use Rattle.section.specs.Limits.{height_count}

-- the reply of a call that nothing refuses; a replacement's is that of its removal
abbrev pub reply_of : Call → List ℕ → List ℕ → Reading → Reply
reply_of (add i bs) cat d x = (do_add (version_of cat) i bs cat d x).reply
reply_of (remove i) cat d x = (do_remove (version_of cat) i cat d x).reply
reply_of (replace i bs) cat d x = (remove_outcome i cat d).reply
reply_of (read i p o) cat d x = (do_read i p o cat d x).reply
reply_of (breaks i) cat d x = do_breaks i x
reply_of (which n o) cat d x = (do_which n o cat d x).reply
reply_of free cat d x = do_free x
reply_of check cat d x = do_check x

unless_reply : (j : Judgement) (cat d o : List ℕ) (x : Outcome)
    → (unless_refused j cat d o x).reply ≡ reply_unless j x.reply
unless_reply allowed cat d o x = refl
unless_reply (refusal n) cat d o x = refl

-- the reply is the first refusal, or what is replied if there is none
pub reply_is : (c : Call) (cat d : List ℕ)
    → (perform c cat d).reply
    ≡ reply_unless (first_refusal (conditions_of c cat d)) (reply_of c cat d (read_catalogue (version_of cat) cat))
reply_is (add i bs) cat d =
    ap (λ (x : Outcome). x.reply) (add_in_is (version_of cat) cat i bs d)
    ∙ unless_reply (first_refusal (add_conditions (version_of cat) i bs cat d)) cat d []
    (do_add (version_of cat) i bs cat d (read_catalogue (version_of cat) cat))
reply_is (remove i) cat d =
    ap (λ (x : Outcome). x.reply) (remove_in_is (version_of cat) cat i d)
    ∙ unless_reply (first_refusal (remove_conditions (version_of cat) i cat d)) cat d []
    (do_remove (version_of cat) i cat d (read_catalogue (version_of cat) cat))
reply_is (replace i bs) cat d =
    ap (λ (x : Outcome). x.reply) (replace_outcome_is cat i bs d)
    ∙ unless_reply (first_refusal (replace_conditions (version_of cat) i bs cat d)) cat d [] (remove_then_add i bs cat d)
reply_is (read i p o) cat d =
    ap (λ (x : Outcome). x.reply) (read_in_is (version_of cat) cat i p o d)
    ∙ unless_reply (first_refusal (read_conditions (version_of cat) i p o cat d)) cat d o
    (do_read i p o cat d (read_catalogue (version_of cat) cat))
reply_is (breaks i) cat d = breaks_in_is (version_of cat) cat i
reply_is (which n o) cat d =
    ap (λ (x : Outcome). x.reply) (which_in_is (version_of cat) cat n o d)
    ∙ unless_reply (first_refusal (which_conditions (version_of cat) n o cat)) cat d o
    (do_which n o cat d (read_catalogue (version_of cat) cat))
reply_is free cat d = free_in_is (version_of cat) cat
reply_is check cat d = check_in_is (version_of cat) cat d

module _ (cat d : List ℕ) (bytes : Bytes cat) where
  -- no refusal of the table applies
  abbrev NoneGiven : Call → Type 0
  NoneGiven c = NoneOf (GivenTo c cat d) (numbers_of c)

  -- then the catalogue is that of a layout
  layout-read : (c : Call) (n : ℕ) → NoneGiven c → By catalogue_length c → By not_sound c
      → ((l : Layout) → CatalogueOf cat l → reply_of c cat d (sound l) ≡ refused n → ⊥)
      → reply_of c cat d (read_catalogue (version_of cat) cat) ≡ refused n → ⊥
  layout-read c n clear by_length by-soundness k = go (read_catalogue (version_of cat) cat) refl
    where
      right_length : length cat ≡ (version_of cat).bytes
      right_length = equal_if_never_unequal (length cat) (version_of cat).bytes
          (λ no. clear catalogue_length by_length ((decides_length cat).holds
          (ap not (ne_eqb (length cat) (version_of cat).bytes no))))

      go : (x : Reading) → read_catalogue (version_of cat) cat ≡ x → reply_of c cat d x ≡ refused n → ⊥
      go (sound l) e = k l (read_catalogue_lem cat bytes right_length l e)
      go unsound e = λ _. clear not_sound by-soundness (unread_catalogue cat bytes right_length e)

  -- and the file is found
  file_found : (c : Call) (l : Layout) (n : ℕ) (reply : Found → Reply) → NoneGiven c → By id_missing c
      → CatalogueOf cat l
      → ((f : File) → reply (found f) ≡ refused n → ⊥) → reply (find_file (id_of c) l.files) ≡ refused n → ⊥
  file_found c l n reply clear by h k = go (find_file (id_of c) l.files) refl
    where
      go : (x : Found) → find_file (id_of c) l.files ≡ x → reply x ≡ refused n → ⊥
      go (found f) e = k f
      go missing e = λ _. clear id_missing by (l, h, missing_none (id_of c) l.files (ap is_found e))

  -- a call that no refusal applies to is answered
  answers : (c : Call) → first_refusal (conditions_of c cat d) ≡ allowed → NoneGiven c → (n : ℕ)
      → reply_of c cat d (read_catalogue (version_of cat) cat) ≡ refused n → ⊥
  answers (add i bs) passed clear n =
      layout-read (add i bs) n clear refl refl λ l h. go l h (allocate 0 height_count (page_count bs) l.free) refl
    where
      go : (l : Layout) → CatalogueOf cat l → (a : Allocated)
          → allocate 0 height_count (page_count bs) l.free ≡ a
          → (add_pieces (version_of cat) i bs cat d l a).reply ≡ refused n → ⊥
      go l h (allocated s r) e = answered_not_refused (page_count bs) n
      go l h too_few e =
          let full : (free_blocks l < page_count bs → ⊥) = λ x. clear no_space refl (l, h, x) in
          let sums = all_heights h.version (roomy h.known) l h.rules in
          let w = allocate_fits height_count i (page_count bs) l sums (omega (arith, full)) in
          let f = w.2 in
          λ _. let z : ◌≡◌ {A = ℕ} 0 1 = cc in omega arith
  answers (remove i) passed clear n =
      layout-read (remove i) n clear refl refl λ l h.
      file_found (remove i) l n (λ x. (remove_found (version_of cat) cat d l x).reply) clear refl h λ f.
      answered_not_refused (length (copies_of (removal height_count f l))) n
  answers (replace i bs) passed clear n =
      let w = removal_answered i bs cat d passed in λ e. answered_not_refused w.0 n (sym w.1 ∙ e)
  answers (read i p o) passed clear n =
      layout-read (read i p o) n clear refl refl λ l h.
      file_found (read i p o) l n (λ x. (read_found p o cat d x).reply) clear refl h λ f.
      answered_not_refused (page_count o) n
  answers (breaks i) passed clear n =
      layout-read (breaks i) n clear refl refl λ l h.
      file_found (breaks i) l n breaks_found clear refl h λ f.
      answered_not_refused (breaks_of f.pieces) n
  answers (which n o) passed clear m =
      layout-read (which n o) m clear refl refl λ l h. help_not_refused cat d n l m
  answers free passed clear n = layout-read free n clear refl refl λ l h. answered_not_refused (free_blocks l) n
  answers check passed clear n = layout-read check n clear refl refl λ l h. answered_not_refused l.blocks n

-- the first refusal is one
first_unique : (c : Call) (cat d : List ℕ) (q r : Refusal) → First c cat d q → First c cat d r
    → number_of q ≡ number_of r
first_unique c cat d q r s t =
    let at : (Refusal → ℕ) = λ x. place_in (numbers_of c) (number_of x) in
    let not-before : (at q < at r → ⊥) = λ x. t.first q x s.by s.given in
    let not_after : (at r < at q → ⊥) = λ x. s.first r x t.by t.given in
    place_unique (number_of q) (number_of r) (numbers_of c) s.by t.by (omega (arith, not-before, not_after))

-- a call is refused with a number exactly if it is that of the table's first refusal that applies
pub first_refusal_lem : (c : Call) (cat d : List ℕ) → Bytes cat → (n : ℕ)
    → ((perform c cat d).reply ≡ refused n) ↔ ((r : Refusal) × (number_of r ≡ n) × First c cat d r)
first_refusal_lem c cat d bytes n = (
  λ e. to (first_refusal (conditions_of c cat d)) refl judged.right (sym (reply_is c cat d) ∙ e),
  λ w. reply_is c cat d ∙ from w (first_refusal (conditions_of c cat d)) judged.right,
)
  where
    judged : Judges (GivenTo c cat d) (numbers_of c) (conditions_of c cat d)
    judged = call_judged cat d bytes c

    of-table : {r : Refusal} → FirstOf (GivenTo c cat d) (numbers_of c) r → First c cat d r
    of-table s = record { by = s.listed; given = s.given; first = s.first }

    to : (j : Judgement) → first_refusal (conditions_of c cat d) ≡ j → Right (GivenTo c cat d) (numbers_of c) j
        → reply_unless j (reply_of c cat d (read_catalogue (version_of cat) cat)) ≡ refused n
        → (r : Refusal) × (number_of r ≡ n) × First c cat d r
    to allowed passed clear e = absurd (answers cat d bytes c passed clear n e)
    to (refusal m) passed (r, e, s) q = (r, (cc), of-table s)

    from : (r : Refusal) × (number_of r ≡ n) × First c cat d r → (j : Judgement)
        → Right (GivenTo c cat d) (numbers_of c) j
        → reply_unless j (reply_of c cat d (read_catalogue (version_of cat) cat)) ≡ refused n
    from w allowed clear = absurd (clear w.0 w.2.by w.2.given)
    from w (refusal m) x =
        ap refused (sym x.1 ∙ (first_unique c cat d x.0 w.0 (of-table x.2) w.2 ∙ w.1))

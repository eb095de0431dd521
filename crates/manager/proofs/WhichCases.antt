-- What `which` gives, whatever the bytes: a refusal that leaves the list, "fits already" and zeros, or the number of
-- ids, the ids and zeros. Assumes nothing.
use mathlib.Core.Bool.{Bool, cond, false, not, true}
use mathlib.Core.List.{List, []}
use mathlib.Core.Path.{◌∙◌, ◌≡◌, ap, refl, subst, sym}
use Prim.Native.Nat.{◌-◌, ◌<◌, ◌≤◌, ℕ}
use native.Mathlib.Omega.{arith}
use lib.Dec.{eqb, leb}
use lib.ListN.{drop, length, length-append, length-replicate, replicate}
use lib.Seq.{drop_at}
use borrow.Author.Tests.{eq-eqb, eqb-false, eqb-true, leb-false, leb-true, ne_eqb, not-false}
use Rattle.catalogue.proofs.Reading.{read_sound}
use Rattle.catalogue.proofs.Roomy.{roomy, version_of-one}
use Rattle.catalogue.specs.Reading.{read_catalogue}
use Rattle.catalogue.specs.Version.{version_of}
use Rattle.layout.proofs.Helping.{helping_length}
use Rattle.layout.proofs.Lists.{each_head, each_tail}
use Rattle.layout.specs.Helping.{helping_ids}
use Rattle.layout.specs.Layout.{Layout, free_blocks}
use Rattle.layout.specs.Lists.{done, more}
use Rattle.layout.specs.Sound.{Sound}
use Rattle.manager.proofs.CallEquations.{which_in_is}
use Rattle.manager.proofs.Judging.{allowed_none, none_applies}
use Rattle.manager.proofs.OnRead.{allowed_reads}
use Rattle.manager.proofs.Replies.{answered_same, refused_answered}
use Rattle.manager.specs.Call.{which}
use Rattle.manager.specs.Conditions.{Judgement, Outcome, allowed, answered, condition, first_refusal, fits_already}
use Rattle.manager.specs.Conditions.{outcome, refusal, refused, unless_refused, which_checks, which_conditions}
use Rattle.manager.specs.Outcomes.{do_which, help_for, perform, then_zeros}
use Rattle.section.specs.Limits.{height_count, most_files}

-- ---- the conditions on n and the list

-- nothing refuses them if n is not 0 and the list has 64 places
pub which_allowed : (n : ℕ) (o : List ℕ) → 1 ≤ n → length o ≡ most_files → first_refusal (which_checks n o) ≡ allowed
which_allowed n o some places =
    none_applies
    (more {a = condition 8 (eqb n 0)} (ne_eqb n 0 (λ z. omega arith))
    (more {a = condition 14 (not (eqb (length o) most_files))} (ap not (eq-eqb (length o) most_files places)) done))

-- and only then
allowed_which : (n : ℕ) (o : List ℕ) → first_refusal (which_checks n o) ≡ allowed → (1 ≤ n) × (length o ≡ most_files)
allowed_which n o e =
    let p = allowed_none (which_checks n o) e in
    let nonzero = eqb-false n 0 (each_head p) in (
      omega (arith, nonzero),
      eqb-true (length o) most_files (not-false (eqb (length o) most_files) (each_head (each_tail p))),
    )

-- ---- past the conditions

-- the list of the ids of a layout
abbrev pub list_for : ℕ → List ℕ → List ℕ → Layout → Outcome
list_for n cat d l =
    outcome (answered (length (helping_ids height_count n l))) cat d (then_zeros (helping_ids height_count n l))

-- what holds of zeros if n is at most f, and of the list if it is not
pub help_cases : (P : Outcome → Type 0) (n : ℕ) (cat d : List ℕ) (l : Layout)
    → (n ≤ free_blocks l → P (outcome fits_already cat d (then_zeros []))) → (free_blocks l < n → P (list_for n cat d l))
    → P (help_for n cat d l)
help_cases P n cat d l fits lists = go (leb n (free_blocks l)) refl
  where
    go : (t : Bool) → leb n (free_blocks l) ≡ t
        → P (cond t (outcome fits_already cat d (then_zeros [])) (list_for n cat d l))
    go true e = fits (leb-true n (free_blocks l) e)
    go false e = lists (leb-false n (free_blocks l) e)

-- ---- the call

-- what holds of its refusals, and of the help in any sound layout for an n and a list that nothing refuses
pub which_cases : (P : Outcome → Type 0) (n : ℕ) (o cat d : List ℕ)
    → ((m : ℕ) → P (outcome (refused m) cat d o))
    → (1 ≤ n → length o ≡ most_files → (l : Layout) → Sound (version_of cat).heights l → P (help_for n cat d l))
    → P (perform (which n o) cat d)
which_cases P n o cat d refuses helps =
    subst P (sym (which_in_is (version_of cat) cat n o d))
    (go (first_refusal (which_conditions (version_of cat) n o cat)) refl)
  where
    go : (j : Judgement) → first_refusal (which_conditions (version_of cat) n o cat) ≡ j
        → P (unless_refused j cat d o (do_which n o cat d (read_catalogue (version_of cat) cat)))
    go (refusal m) e = refuses m
    go allowed e =
        let w = allowed_reads (version_of cat) cat (λ l. which_checks n o) e in
        let l : Layout = w.0 in
        let asked = allowed_which n o w.3 in
        subst (λ x. P (do_which n o cat d x)) (sym w.2)
        (helps asked.0 asked.1 l (read_sound (version_of cat) (roomy (version_of-one (length cat))) cat l w.2))

-- "fits already" is no answer
pub not_fitting : {A : Type 0} (k : ℕ) → fits_already ≡ answered k → A
not_fitting k e = absurd (let z : ◌≡◌ {A = ℕ} 0 1 = cc in omega arith)

module _ (n : ℕ) (o cat d : List ℕ) where
  -- the list stays as long as it is
  pub which-length : length (perform (which n o) cat d).output ≡ length o
  which-length =
      which_cases Long n o cat d (λ m. refl)
      (λ _ places l s. help_cases Long n cat d l (λ _. sym places) (λ _. filled l s ∙ sym places))
    where
      Long : Outcome → Type 0
      Long x = length x.output ≡ length o

      filled : (l : Layout) → Sound (version_of cat).heights l
          → length (then_zeros (helping_ids height_count n l)) ≡ most_files
      filled l s =
          let ids : List ℕ = helping_ids height_count n l in
          omega (
            arith,
            length-append ids (replicate (most_files - length ids) 0),
            length-replicate {A = ℕ} (most_files - length ids) 0,
            helping_length height_count n l,
            s.most_files,
          )

  module _ (k : ℕ) where
    -- what an answer shows: n is not 0, and the list has 64 places
    pub which-asked : (perform (which n o) cat d).reply ≡ answered k → (1 ≤ n) × (length o ≡ most_files)
    which-asked =
        which_cases (λ x. x.reply ≡ answered k → (1 ≤ n) × (length o ≡ most_files)) n o cat d
        (λ m r. absurd (refused_answered m k r)) (λ some places l s r. (some, places))

    -- that the files that are counted are at most 64
    pub which_count : (perform (which n o) cat d).reply ≡ answered k → k ≤ most_files
    which_count =
        which_cases Counts n o cat d (λ m r. absurd (refused_answered m k r))
        (λ _ _ l s. help_cases Counts n cat d l (λ _. not_fitting k)
        (λ _ r. (let same = answered_same (length (helping_ids height_count n l)) k r in
        omega (arith, same, helping_length height_count n l, s.most_files))))
      where
        Counts : Outcome → Type 0
        Counts x = x.reply ≡ answered k → k ≤ most_files

    -- and that zeros stand behind their ids
    pub zeros_behind : (perform (which n o) cat d).reply ≡ answered k
        → drop k (perform (which n o) cat d).output ≡ replicate (most_files - k) 0
    zeros_behind =
        which_cases Zeros n o cat d (λ m r. absurd (refused_answered m k r))
        (λ _ _ l s. help_cases Zeros n cat d l (λ _. not_fitting k)
        (λ _ r. (let same = answered_same (length (helping_ids height_count n l)) k r in
        drop_at (helping_ids height_count n l) _ k same ∙ ap (λ m. replicate (most_files - m) 0) same)))
      where
        Zeros : Outcome → Type 0
        Zeros x = x.reply ≡ answered k → drop k x.output ≡ replicate (most_files - k) 0

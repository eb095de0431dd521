-- `which` past the catalogue: its two conditions in order, then whether n blocks fit already, then the files. Assumes
-- nothing.
use mathlib.Core.Bool.{not}
use mathlib.Core.List.{List, [], map}
use mathlib.Core.Path.{◌∙◌, ◌≡◌, ap, refl, sym}
use Prim.Native.Nat.{◌<◌, ◌≤◌, ℕ}
use lib.ListN.{length, length-map, take}
use borrow.Author.Tests.{eq-eqb, le-leb, lt-leb, ne_eqb}
use Rattle.section.specs.Limits.{height_count, most_files}
use Rattle.layout.proofs.Helping.{helping_sorted}
use Rattle.layout.proofs.Zipped.{map-map}
use Rattle.layout.specs.Helping.{Candidate, helping_ids}
use Rattle.layout.specs.Layout.{Layout, free_blocks}
use Rattle.layout.specs.Lists.{done, more}
use Rattle.manager.proofs.Judging.{none_applies, passes, refuses_by}
use Rattle.manager.specs.Conditions.{Outcome, Reply, answered, first_refusal, fits_already, outcome, refusal}
use Rattle.manager.specs.Conditions.{Judgement, allowed, refused, unless_refused, which_checks}
use Rattle.manager.specs.Outcomes.{help_for, then_zeros}
use Rattle.table.specs.Tables.{layout_of}
use Rattle.table.specs.declared.Table.{Table}
use Rattle.choosing.specs.Choosing.{Chosen, which_on}
use Rattle.choosing.specs.Listing.{ids_in}
use Rattle.choosing.specs.Ranking.{candidate_in, candidates_in}
use Rattle.choosing.specs.declared.Choice.{Choice}
use Rattle.choosing.specs.declared.Choices.{Choices}

module _ (l : Layout) (n : ℕ) (o : List ℕ) where
  -- the reply r and the list o' are those of `which`
  abbrev pub Gives : Reply → List ℕ → Type 0
  Gives r o' =
      ((cat d : List ℕ) → r ≡ (which_on l n o cat d).reply) × ((cat d : List ℕ) → o' ≡ (which_on l n o cat d).output)

  abbrev judged : Judgement
  judged = first_refusal (which_checks n o)

  refused_by : (m : ℕ) → judged ≡ refusal m → Gives (refused m) o
  refused_by m e = (
    λ cat d. sym (ap (λ j. (unless_refused j cat d o (help_for n cat d l)).reply) e),
    λ cat d. sym (ap (λ j. (unless_refused j cat d o (help_for n cat d l)).output) e),
  )

  pub which-zero : n ≡ 0 → Gives (refused 8) o
  which-zero e = refused_by 8 (refuses_by _ _ (eq-eqb n 0 e))

  module _ (some : n ≡ 0 → ⊥) where
    pub which_short : (length o ≡ most_files → ⊥) → Gives (refused 14) o
    which_short h =
        refused_by 14 (passes _ _ (ne_eqb n 0 some) ∙ refuses_by _ _ (ap not (ne_eqb (length o) most_files h)))

    module _ (long : length o ≡ most_files) where
      passed : judged ≡ allowed
      passed = none_applies (more (ne_eqb n 0 some) (more (ap not (eq-eqb (length o) most_files long)) done))

      helped : (r : Reply) (o' : List ℕ) → ((cat d : List ℕ) → help_for n cat d l ≡ outcome r cat d o') → Gives r o'
      helped r o' e = (
        λ cat d. sym (ap (λ j. (unless_refused j cat d o (help_for n cat d l)).reply) passed
            ∙ ap (λ (x : Outcome). x.reply) (e cat d)),
        λ cat d. sym (ap (λ j. (unless_refused j cat d o (help_for n cat d l)).output) passed
            ∙ ap (λ (x : Outcome). x.output) (e cat d)),
      )

      -- n blocks fit already
      pub which_fits : n ≤ free_blocks l → Gives fits_already (then_zeros [])
      which_fits h = helped fits_already (then_zeros []) (λ cat d. rw (le-leb n (free_blocks l) h))

      -- else the files
      pub which_counts : free_blocks l < n
          → Gives (answered (length (helping_ids height_count n l))) (then_zeros (helping_ids height_count n l))
      which_counts h =
          helped (answered (length (helping_ids height_count n l))) (then_zeros (helping_ids height_count n l))
          (λ cat d. rw (lt-leb n (free_blocks l) h))

-- the ids of the choices are those of the definition, and as many
module _ (t : Table) (n : ℕ) (all : Choices) (c : Chosen t n all) where
  sorted_ids : map (λ (a : Candidate). a.id) (candidates_in all) ≡ helping_ids height_count n (layout_of t)
  sorted_ids = ap (map (λ (a : Candidate). a.id)) c.list ∙ sym (helping_sorted height_count n (layout_of t))

  pub chosen_ids : ids_in (take all.count all.items) ≡ helping_ids height_count n (layout_of t)
  unfolding candidates_in
  chosen_ids =
      map-map (λ (a : Candidate). a.id) candidate_in (λ (x : Choice). x.id) (λ x. refl) (take all.count all.items)
      ∙ sorted_ids

  pub chosen_count : all.count ≡ length (helping_ids height_count n (layout_of t))
  chosen_count =
      sym c.exact ∙ (sym (length-map (candidates_in all) (λ (a : Candidate). a.id)) ∙ ap length sorted_ids)

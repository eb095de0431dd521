-- Reading in code: by what a read is refused, and what it answers. Assumes nothing.
use mathlib.Core.Bool.{false, true}
use mathlib.Core.List.{List, [], ◌∷◌}
use mathlib.Core.Path.{◌∙◌, ◌≡◌, ap, ap₂, sym}
use Prim.Native.Nat.{◌%◌, ◌*◌, ◌+◌, ◌<◌, ◌≤◌, ℕ}
use lib.ListN.{drop, length, take}
use borrow.Author.Tests.{le-ltb, lt-ltb}
use Rattle.looking.proofs.LookChecks.{disk_right, disk_wrong, empty-unpaged, id_found}
use Rattle.looking.proofs.LookChecks.{part_unpaged, whole_paged}
use Rattle.answers.specs.Answers.{number_of}
use Rattle.answers.specs.declared.Refusal.{Refusal}
use Rattle.looking.specs.FileIds.{FindsNone}
use Rattle.looking.specs.Opened.{read_on}
use Rattle.layout.specs.Layout.{File, file_blocks, find_file, found}
use Rattle.layout.specs.Lists.{done}
use Rattle.manager.proofs.Contents.{paged_length}
use Rattle.manager.proofs.Judging.{none_applies, passes, refuses_by}
use Rattle.manager.specs.Conditions.{Condition, Judgement, Outcome, Reply, allowed, answered, beyond, condition}
use Rattle.manager.specs.Conditions.{first_refusal, read_checks, refusal, refused, unless_refused, unpaged, wrong_disk}
use Rattle.manager.specs.Disk.{join_pages, page_count, pages_on}
use Rattle.manager.specs.Outcomes.{read_found}
use Rattle.section.specs.Limits.{block_size}
use Rattle.table.specs.Tables.{layout_of}
use Rattle.table.specs.declared.Table.{Table}

module _ (t : Table) (i p : ℕ) (o d : List ℕ) where
  -- the reply r and the output o' are those of the read
  abbrev Reads : Reply → List ℕ → Type 0
  Reads r o' =
      ((cat : List ℕ) → r ≡ (read_on (layout_of t) i p o cat d).reply)
      × ((cat : List ℕ) → o' ≡ (read_on (layout_of t) i p o cat d).output)

  abbrev judged : Judgement
  judged = first_refusal (condition 4 (wrong_disk (layout_of t) d) ∷ read_checks i p o (layout_of t))

  abbrev act : List ℕ → Outcome
  act cat = read_found p o cat d (find_file i (layout_of t).files)

  read_refused_lem : (n : ℕ) → judged ≡ refusal n → Reads (refused n) o
  read_refused_lem n e = (
    λ cat. sym (ap (λ j. (unless_refused j cat d o (act cat)).reply) e),
    λ cat. sym (ap (λ j. (unless_refused j cat d o (act cat)).output) e),
  )

  pub read_wrong : (length d ≡ block_size * t.blocks → ⊥) → Reads (refused 4) o
  unfolding layout_of
  read_wrong n = read_refused_lem 4 (disk_wrong (layout_of t) d (read_checks i p o (layout_of t)) n)

  module _ (long : length d ≡ block_size * t.blocks) where
    right : judged ≡ first_refusal (read_checks i p o (layout_of t))
    unfolding layout_of
    right = disk_right (layout_of t) d (read_checks i p o (layout_of t)) long

    abbrev page_checks : List Condition
    page_checks =
        condition 8 (unpaged o) ∷ condition 9 (beyond (find_file i (layout_of t).files) p (page_count o)) ∷ []

    -- the file is not found
    pub read_unfound : (a : Refusal) → FindsNone t i a → Reads (refused (number_of a)) o
    read_unfound a n = read_refused_lem (number_of a) (right ∙ n.first page_checks)

    module _ (n : 1 ≤ i) (f : File) (e : find_file i (layout_of t).files ≡ found f) where
      past_id : judged ≡ first_refusal page_checks
      past_id = right ∙ id_found (layout_of t) i page_checks n f e

      abbrev last : List Condition
      last = condition 9 (beyond (find_file i (layout_of t).files) p (page_count o)) ∷ []

      read-unpaged : unpaged o ≡ true → Reads (refused 8) o
      read-unpaged u = read_refused_lem 8 (past_id ∙ refuses_by (condition 8 (unpaged o)) last u)

      pub read-empty : length o ≡ 0 → Reads (refused 8) o
      read-empty z = read-unpaged (empty-unpaged o z)

      module _ (full : length o ≡ 0 → ⊥) where
        pub read_broken : (length o % block_size ≡ 0 → ⊥) → Reads (refused 8) o
        read_broken z = read-unpaged (part_unpaged o full z)

        module _ (whole : length o % block_size ≡ 0) where
          paged : unpaged o ≡ false
          paged = whole_paged o full whole

          past_pages : judged ≡ first_refusal last
          past_pages = past_id ∙ passes (condition 8 (unpaged o)) last paged

          -- the pages are whole
          pub read_whole : block_size * page_count o ≡ length o
          read_whole = (paged_length o paged).1

          pub read_past : file_blocks f < p + page_count o → Reads (refused 9) o
          read_past lt =
              read_refused_lem 9
              (past_pages
              ∙ refuses_by (condition 9 (beyond (find_file i (layout_of t).files) p (page_count o))) []
              (ap (λ x. beyond x p (page_count o)) e ∙ lt-ltb (file_blocks f) (p + page_count o) lt))

          pub read_answered : p + page_count o ≤ file_blocks f
              → Reads (answered (page_count o)) (join_pages (take (page_count o) (drop p (pages_on d f.pieces))))
          read_answered le = (
            λ cat. sym (ap₂ (λ j x. (unless_refused j cat d o (read_found p o cat d x)).reply) allows e),
            λ cat. sym (ap₂ (λ j x. (unless_refused j cat d o (read_found p o cat d x)).output) allows e),
          )
            where
              allows : judged ≡ allowed
              allows =
                  past_pages
                  ∙ (passes (condition 9 (beyond (find_file i (layout_of t).files) p (page_count o))) []
                  (ap (λ x. beyond x p (page_count o)) e ∙ le-ltb (file_blocks f) (p + page_count o) le)
                  ∙ none_applies done)

-- When nothing refuses a replacement: its conditions past the catalogue, one by one; and then its removal is answered.
-- Assumes nothing.
use mathlib.Core.Bool.{false, not}
use mathlib.Core.List.{List, [], ◌∷◌}
use mathlib.Core.Path.{◌∙◌, ◌≡◌, ap, refl, subst}
use Prim.Native.Nat.{◌*◌, ◌+◌, ℕ}
use native.Mathlib.Omega.{arith}
use lib.Dec.{eqb}
use lib.ListN.{length}
use borrow.Author.Tests.{eq-eqb, eqb-false, eqb-true, le-ltb, leb-false, lt-leb, ltb-false, ne_eqb, not-false}
use Rattle.catalogue.specs.Version.{version_of}
use Rattle.layout.proofs.Lists.{each_head, each_tail}
use Rattle.layout.specs.Layout.{File, Found, Layout, file_blocks, find_file, found, free_blocks, is_found, missing}
use Rattle.layout.specs.Lists.{Each, done, more}
use Rattle.layout.specs.Removing.{copies_of, removal}
use Rattle.manager.proofs.CallEquations.{replace_outcome_is}
use Rattle.manager.proofs.Judging.{allowed_none, none_applies}
use Rattle.manager.proofs.OnRead.{allowed_reads, remove_on_read}
use Rattle.manager.specs.Changes.{CanReplace}
use Rattle.manager.specs.Conditions.{Condition, Judgement, Outcome, allowed, answered, condition, file_checks}
use Rattle.manager.specs.Conditions.{first_refusal, refusal}
use Rattle.manager.specs.Conditions.{not_above, replace_checks, replace_conditions, too_long, unless_refused}
use Rattle.manager.specs.Conditions.{unpaged, unranked, wrong_disk}
use Rattle.manager.specs.Disk.{cut_pages, page_count, pages_on}
use Rattle.manager.specs.Outcomes.{remove_found, remove_outcome, remove_then_add, replace_outcome}
use Rattle.manager.specs.Table.{first_rank}
use Rattle.section.specs.Limits.{block_size, height_count}

abbrev Passed : List Condition → Type 0
Passed cs = Each (λ (c : Condition). c.applies ≡ false) cs

module _ (l : Layout) (d : List ℕ) (i : ℕ) (bs : List ℕ) where
  abbrev checks : List Condition
  checks = condition 4 (wrong_disk l d) ∷ replace_checks i bs d l

  -- nothing refuses it only if it can be done
  pub can_replace : first_refusal (condition 4 (wrong_disk l d) ∷ replace_checks i bs d l) ≡ allowed
      → (f : File) × CanReplace l d i bs f
  can_replace e = go (find_file i l.files) refl (allowed_none checks e)
    where
      go : (x : Found) → find_file i l.files ≡ x
          → Passed (condition 4 (wrong_disk l d) ∷ condition 5 (eqb i 0) ∷ condition 6 (not (is_found x))
          ∷ condition 8 (unpaged bs) ∷ condition 12 (unranked bs) ∷ condition 13 (not_above bs d x)
          ∷ condition 11 (too_long bs l x) ∷ [])
          → (f : File) × CanReplace l d i bs f
      go missing q p =
          absurd (let z = each_head (each_tail (each_tail p)) in let y : ◌≡◌ {A = ℕ} 0 1 = cc in omega arith)
      go (found f) q p =
          let p5 = each_tail p in
          let p8 = each_tail (each_tail p5) in
          let p12 = each_tail p8 in
          let p13 = each_tail p12 in
          let nonzero = eqb-false i 0 (each_head p5) in
          let new = first_rank (cut_pages (page_count bs) bs) in
          let some = eqb-false new 0 (each_head p12) in (
            f,
            record {
              disk =
                  eqb-true (length d) (block_size * l.blocks)
                  (not-false (eqb (length d) (block_size * l.blocks)) (each_head p));
              least = omega (arith, nonzero);
              there = q;
              paged = each_head p8;
              ranked = omega (arith, some);
              above = leb-false new (first_rank (pages_on d f.pieces)) (each_head p13);
              fits = ltb-false (free_blocks l + file_blocks f) (page_count bs) (each_head (each_tail p13));
            },
          )

  module _ (f : File) (c : CanReplace l d i bs f) where
    right_disk : wrong_disk l d ≡ false
    right_disk = ap not (eq-eqb (length d) (block_size * l.blocks) c.disk)

    nonzero : eqb i 0 ≡ false
    nonzero = ne_eqb i 0 (λ z. omega (arith, c.least))

    -- and if it can be done nothing refuses it
    pub replace_allowed : first_refusal (condition 4 (wrong_disk l d) ∷ replace_checks i bs d l) ≡ allowed
    replace_allowed =
        none_applies
        (more {a = condition 4 (wrong_disk l d)} right_disk
        (more {a = condition 5 (eqb i 0)} nonzero
        (more {a = condition 6 (not (is_found (find_file i l.files)))} (ap (λ x. not (is_found x)) c.there)
        (more {a = condition 8 (unpaged bs)} c.paged
        (more {a = condition 12 (unranked bs)}
        (ne_eqb (first_rank (cut_pages (page_count bs) bs)) 0 (λ z. omega (arith, c.ranked)))
        (more {a = condition 13 (not_above bs d (find_file i l.files))}
        (ap (not_above bs d) c.there
        ∙ lt-leb (first_rank (cut_pages (page_count bs) bs)) (first_rank (pages_on d f.pieces)) c.above)
        (more {a = condition 11 (too_long bs l (find_file i l.files))}
        (ap (too_long bs l) c.there ∙ le-ltb (free_blocks l + file_blocks f) (page_count bs) c.fits) done)))))))

    -- nor its removal
    pub removal_allowed : first_refusal (condition 4 (wrong_disk l d) ∷ file_checks i l) ≡ allowed
    removal_allowed =
        none_applies
        (more {a = condition 4 (wrong_disk l d)} right_disk
        (more {a = condition 5 (eqb i 0)} nonzero
        (more {a = condition 6 (not (is_found (find_file i l.files)))} (ap (λ x. not (is_found x)) c.there) done)))

-- whatever the bytes, the removal of a replacement that nothing refuses is answered
pub removal_answered : (i : ℕ) (bs cat d : List ℕ)
    → first_refusal (replace_conditions (version_of cat) i bs cat d) ≡ allowed
    → (k : ℕ) × ((remove_outcome i cat d).reply ≡ answered k)
removal_answered i bs cat d e =
    let w = allowed_reads (version_of cat) cat (λ l. condition 4 (wrong_disk l d) ∷ replace_checks i bs d l) e in
    let l : Layout = w.0 in
    let c = can_replace l d i bs w.3 in
    let f : File = c.0 in (
      length (copies_of (removal height_count f l)),
      ap (λ (o : Outcome). o.reply)
          (remove_on_read (version_of cat) cat l w.1 w.2 i d
          ∙ (ap (λ j. unless_refused j cat d [] (remove_found (version_of cat) cat d l (find_file i l.files)))
          (removal_allowed l d i bs f c.1)
          ∙ ap (remove_found (version_of cat) cat d l) c.1.there)),
    )

-- and a replacement answers what that removal does
pub replace_answers_removal : (i : ℕ) (bs cat d : List ℕ) (k : ℕ) → (replace_outcome i bs cat d).reply ≡ answered k
    → (remove_outcome i cat d).reply ≡ answered k
replace_answers_removal i bs cat d k e =
    go (first_refusal (replace_conditions (version_of cat) i bs cat d))
    (subst (λ (o : Outcome). o.reply ≡ answered k) (replace_outcome_is cat i bs d) e)
  where
    go : (j : Judgement) → (unless_refused j cat d [] (remove_then_add i bs cat d)).reply ≡ answered k
        → (remove_outcome i cat d).reply ≡ answered k
    go allowed q = q
    go (refusal n) q = absurd (let z : ◌≡◌ {A = ℕ} 0 1 = cc in omega arith)

-- Replacing in code: a law for each refusal, in the order of the conditions, and what is known when nothing refuses.
-- Assumes nothing.
use mathlib.Core.Bool.{false, true}
use mathlib.Core.List.{List, [], ◌∷◌}
use mathlib.Core.Path.{◌∙◌, ◌≡◌, ap, refl, subst, sym}
use Prim.Native.Nat.{◌*◌, ◌+◌, ◌<◌, ◌≤◌, ℕ}
use native.Mathlib.Omega.{arith}
use lib.ListN.{length}
use borrow.Author.Tests.{eq-eqb, le-leb, lt-leb, lt-ltb, ne_eqb}
use Rattle.blocks.specs.DiskCode.{EntryFits}
use Rattle.calls.proofs.Refusing.{refused_makes}
use Rattle.calls.specs.Changing.{Makes, replace_found, replace_on}
use Rattle.calls.specs.Replacing.{CanCompare, CanExchange}
use Rattle.calls.specs.TakingOut.{file_at}
use Rattle.layout.specs.Layout.{File, block_count, file_blocks, find_file, found, free_blocks}
use Rattle.looking.proofs.LookChecks.{disk_right, disk_wrong, id_found}
use Rattle.looking.proofs.LookedUp.{looked_fits, looked_found, looked_low, looked_some}
use Rattle.answers.specs.Answers.{number_of}
use Rattle.std.specs.Prelude.{Err}
use Rattle.looking.specs.FileIds.{FindsNone}
use Rattle.looking.specs.Opened.{Opened}
use Rattle.answers.specs.declared.Refusal.{Refusal}
use Rattle.answers.specs.declared.Refusal.TheVariants as Refusal·
use Rattle.manager.proofs.Judging.{passes, refuses_by}
use Rattle.manager.specs.Conditions.{Condition, condition, first_refusal, not_above, refusal, replace_checks}
use Rattle.manager.specs.Conditions.{too_long, unpaged, unranked, wrong_disk}
use Rattle.manager.specs.Disk.{cut_pages, page_count, pages_on}
use Rattle.manager.specs.Table.{first_rank}
use Rattle.pieces.specs.Pieces.{LowEntry}
use Rattle.section.specs.Limits.{block_size}
use Rattle.table.specs.Files.{entry_at}
use Rattle.table.specs.Tables.{layout_of, pieces_in}
use Rattle.table.specs.declared.Table.{Table}

module _ (t : Table) (o : Opened t) (i : ℕ) (bs d : List ℕ) where
  abbrev checks : List Condition
  checks = condition 4 (wrong_disk (layout_of t) d) ∷ replace_checks i bs d (layout_of t)

  abbrev last : List Condition
  last = condition 11 (too_long bs (layout_of t) (find_file i (layout_of t).files)) ∷ []

  abbrev from_13 : List Condition
  from_13 = condition 13 (not_above bs d (find_file i (layout_of t).files)) ∷ last

  abbrev from_12 : List Condition
  from_12 = condition 12 (unranked bs) ∷ from_13

  abbrev from_8 : List Condition
  from_8 = condition 8 (unpaged bs) ∷ from_12

  abbrev Refuses : Refusal → Type 0
  Refuses a = Makes t.blocks (λ v cat. replace_on v (layout_of t) i bs cat d) d (Err a)

  refuse : (k : ℕ) (a : Refusal) → number_of a ≡ k → first_refusal checks ≡ refusal k → Refuses a
  refuse k a q e =
      refused_makes (first_refusal checks) k e a q d
      (λ v cat. replace_found v i bs cat d (layout_of t) (find_file i (layout_of t).files))

  pub refuse-disk : (length d ≡ block_size * t.blocks → ⊥) → Refuses Refusal·.DiskLength
  unfolding layout_of
  refuse-disk n =
      refuse 4 Refusal·.DiskLength refl (disk_wrong (layout_of t) d (replace_checks i bs d (layout_of t)) n)

  module _ (right : length d ≡ block_size * t.blocks) where
    past_disk : first_refusal checks ≡ first_refusal (replace_checks i bs d (layout_of t))
    unfolding layout_of
    past_disk = disk_right (layout_of t) d (replace_checks i bs d (layout_of t)) right

    -- the file is not found
    pub refuse_unfound : (a : Refusal) → FindsNone t i a → Refuses a
    refuse_unfound a n = refuse (number_of a) a refl (past_disk ∙ n.first from_8)

    module _ (some : 1 ≤ i) (f : File) (e : find_file i (layout_of t).files ≡ found f) where
      past_id : first_refusal checks ≡ first_refusal from_8
      past_id = past_disk ∙ id_found (layout_of t) i from_8 some f e

      pub refuse-unpaged : unpaged bs ≡ true → Refuses Refusal·.BufferLength
      refuse-unpaged u =
          refuse 8 Refusal·.BufferLength refl (past_id ∙ refuses_by (condition 8 (unpaged bs)) from_12 u)

      past_pages : unpaged bs ≡ false → first_refusal checks ≡ first_refusal from_12
      past_pages u = past_id ∙ passes (condition 8 (unpaged bs)) from_12 u

-- ---- past the content's length

module _ (t : Table) (i id : ℕ) (bs d : List ℕ) (c : CanCompare t i id bs d) where
  abbrev RefusesFound : Refusal → Type 0
  RefusesFound a = Refuses t c.opened id bs d a

  there : find_file id (layout_of t).files ≡ found (file_at t i)
  there = looked_found t c.opened id i c.place

  right_length : length d ≡ block_size * (layout_of t).blocks
  unfolding layout_of
  right_length = c.disk

  -- what the letter and the blocks of the old file ask for
  pub compared_fits : EntryFits (length d) (entry_at t i)
  compared_fits =
      subst (λ z. EntryFits z (entry_at t i)) (sym c.disk)
      (looked_fits t c.opened id i c.place)

  pub compared_some : 1 ≤ block_count (pieces_in (entry_at t i))
  compared_some = looked_some t c.opened id i c.place

  pub compared_low : LowEntry (entry_at t i)
  compared_low = looked_low t c.opened id i c.place

  past_content : first_refusal (checks t c.opened id bs d) ≡ first_refusal (from_12 t c.opened id bs d)
  past_content = past_pages t c.opened id bs d c.disk c.least (file_at t i) there c.paged

  module _ (new : ℕ) (is-new : new ≡ first_rank (cut_pages (page_count bs) bs)) where
    pub refuse_unknown : new ≡ 0 → RefusesFound Refusal·.LetterUnknown
    refuse_unknown z =
        refuse t c.opened id bs d 12 Refusal·.LetterUnknown refl
        (past_content
        ∙ refuses_by (condition 12 (unranked bs)) (from_13 t c.opened id bs d)
        (eq-eqb (first_rank (cut_pages (page_count bs) bs)) 0 (sym is-new ∙ z)))

    module _ (ranked : new ≡ 0 → ⊥) (old : ℕ) (is-old : old ≡ first_rank (pages_on d (file_at t i).pieces)) where
      past_rank : first_refusal (checks t c.opened id bs d) ≡ first_refusal (from_13 t c.opened id bs d)
      past_rank =
          past_content
          ∙ passes (condition 12 (unranked bs)) (from_13 t c.opened id bs d)
          (ne_eqb (first_rank (cut_pages (page_count bs) bs)) 0 (λ z. ranked (is-new ∙ z)))

      pub refuse-not_above : new ≤ old → RefusesFound Refusal·.LetterNotAbove
      refuse-not_above le =
          refuse t c.opened id bs d 13 Refusal·.LetterNotAbove refl
          (past_rank
          ∙ refuses_by (condition 13 (not_above bs d (find_file id (layout_of t).files))) (last t c.opened id bs d)
          (ap (not_above bs d) there
          ∙ le-leb (first_rank (cut_pages (page_count bs) bs)) (first_rank (pages_on d (file_at t i).pieces))
          (omega (arith, is-new, is-old))))

      module _ (above : old < new) (f n : ℕ) (is_free : f ≡ free_blocks (layout_of t))
          (is-long : n ≡ file_blocks (file_at t i)) where
        past_above : first_refusal (checks t c.opened id bs d) ≡ first_refusal (last t c.opened id bs d)
        past_above =
            past_rank
            ∙ passes (condition 13 (not_above bs d (find_file id (layout_of t).files))) (last t c.opened id bs d)
            (ap (not_above bs d) there
            ∙ lt-leb (first_rank (cut_pages (page_count bs) bs)) (first_rank (pages_on d (file_at t i).pieces))
            (omega (arith, is-new, is-old)))

        pub refuse-space : f + n < page_count bs → RefusesFound Refusal·.NoSpace
        refuse-space lt =
            refuse t c.opened id bs d 11 Refusal·.NoSpace refl
            (past_above
            ∙ refuses_by (condition 11 (too_long bs (layout_of t) (find_file id (layout_of t).files))) []
            (ap (too_long bs (layout_of t)) there
            ∙ lt-ltb (free_blocks (layout_of t) + file_blocks (file_at t i)) (page_count bs)
            (omega (arith, is_free, is-long))))

        -- nothing refuses
        pub can_exchange : page_count bs ≤ f + n → CanExchange t i id (page_count bs) bs d
        can_exchange le = record {
          compared = c;
          allowed = record {
            disk = right_length;
            least = c.least;
            there = there;
            paged = c.paged;
            ranked = omega (arith, is-new, ranked);
            above = omega (arith, is-new, is-old);
            fits = omega (arith, is_free, is-long);
          };
          pages = refl;
        }

-- Adding in code: a law for each refusal, in the order of the conditions, and one for the answer. Assumes nothing.
use mathlib.Core.Bool.{false, not, true}
use mathlib.Core.List.{List, []}
use mathlib.Core.Path.{◌∙◌, ◌≡◌, ap, ap₂, refl, sym}
use Prim.Native.Nat.{◌%◌, ◌*◌, ◌<◌, ◌≤◌, ℕ}
use native.Mathlib.Omega.{arith}
use lib.ListN.{length}
use borrow.Author.Tests.{eq-eqb, le-leb, le-ltb, lt-leb, lt-ltb, ne_eqb}
use Rattle.calls.proofs.AddChecks.{act, checks, judge_10, judge_11, judge_4, judge_5, judge_7, judge_8}
use Rattle.calls.proofs.AddChecks.{judge_none}
use Rattle.calls.proofs.Refusing.{refused_makes}
use Rattle.looking.proofs.LookChecks.{empty-unpaged, part_unpaged, whole_paged}
use Rattle.looking.specs.Opened.{IsFree}
use Rattle.calls.specs.Adding.{CanAdd, Places}
use Rattle.answers.specs.Answers.{number_of}
use Rattle.std.specs.Prelude.{Ok, Err}
use Rattle.answers.specs.declared.Refusal.TheVariants as Refusal·
use Rattle.looking.specs.Opened.{Opened}
use Rattle.calls.specs.Changing.{Makes, add_on}
use Rattle.answers.specs.declared.Refusal.{Refusal}
use Rattle.catalogue.specs.Encoding.{encode}
use Rattle.catalogue.specs.declared.Version.{Version}
use Rattle.layout.specs.Layout.{Layout, free_blocks, has_file}
use Rattle.layout.specs.Sound.{greatest_id}
use Rattle.manager.specs.Conditions.{Outcome, answered, first_refusal, outcome, refusal, unless_refused}
use Rattle.manager.specs.Conditions.{wrong_disk}
use Rattle.manager.specs.Disk.{page_count}
use Rattle.manager.specs.Outcomes.{add_pieces}
use Rattle.section.specs.Limits.{block_size, most_files}
use Rattle.table.specs.Tables.{files_of, layout_of}
use Rattle.table.specs.declared.Table.{Table}

-- ---- the refusals

module _ (t : Table) (o : Opened t) (i : ℕ) (bs d : List ℕ) where
  abbrev Refuses : Refusal → Type 0
  Refuses a = Makes t.blocks (λ v cat. add_on v (layout_of t) i bs cat d) d (Err a)

  refuse : (k : ℕ) (a : Refusal) → number_of a ≡ k → first_refusal (checks (layout_of t) i bs d) ≡ refusal k
      → Refuses a
  refuse k a q e =
      refused_makes (first_refusal (checks (layout_of t) i bs d)) k e a q d (λ v cat. act v (layout_of t) i bs cat d)

  pub refuse-disk : (length d ≡ block_size * t.blocks → ⊥) → Refuses Refusal·.DiskLength
  unfolding layout_of
  refuse-disk n =
      refuse 4 Refusal·.DiskLength refl
      (judge_4 (layout_of t) i bs d (ap not (ne_eqb (length d) (block_size * t.blocks) n)))

  module _ (right : length d ≡ block_size * t.blocks) where
    right_disk : wrong_disk (layout_of t) d ≡ false
    unfolding layout_of
    right_disk = ap not (eq-eqb (length d) (block_size * t.blocks) right)

    pub refuse-zero : i ≡ 0 → Refuses Refusal·.IdZero
    refuse-zero z = refuse 5 Refusal·.IdZero refl (judge_5 (layout_of t) i bs d right_disk (eq-eqb i 0 z))

    module _ (some : i ≡ 0 → ⊥) where
      pub refuse_there : has_file i (layout_of t).files ≡ true → Refuses Refusal·.IdThere
      refuse_there e = refuse 7 Refusal·.IdThere refl (judge_7 (layout_of t) i bs d right_disk (ne_eqb i 0 some) e)

      module _ (fresh : has_file i (layout_of t).files ≡ false) where
        pub refuse-empty : length bs ≡ 0 → Refuses Refusal·.BufferLength
        refuse-empty z =
            refuse 8 Refusal·.BufferLength refl
            (judge_8 (layout_of t) i bs d right_disk (ne_eqb i 0 some) fresh (empty-unpaged bs z))

        module _ (full : length bs ≡ 0 → ⊥) where
          pub refuse_part : (length bs % block_size ≡ 0 → ⊥) → Refuses Refusal·.BufferLength
          refuse_part n =
              refuse 8 Refusal·.BufferLength refl
              (judge_8 (layout_of t) i bs d right_disk (ne_eqb i 0 some) fresh (part_unpaged bs full n))

          module _ (whole : length bs % block_size ≡ 0) where
            pub refuse-files : most_files ≤ t.count → Refuses Refusal·.FilesFull
            unfolding layout_of
            refuse-files m =
                refuse 10 Refusal·.FilesFull refl
                (judge_10 (layout_of t) i bs d right_disk (ne_eqb i 0 some) fresh (whole_paged bs full whole)
                (le-leb most_files (length (files_of t)) (omega (arith, o.files))))

            pub refuse-space : t.count < most_files → (f : ℕ) → IsFree t f → f < page_count bs
                → Refuses Refusal·.NoSpace
            unfolding layout_of
            refuse-space m f q s =
                refuse 11 Refusal·.NoSpace refl
                (judge_11 (layout_of t) i bs d right_disk (ne_eqb i 0 some) fresh (whole_paged bs full whole)
                (lt-leb most_files (length (files_of t)) (omega (arith, o.files)))
                (lt-ltb (free_blocks (layout_of t)) (page_count bs) (omega (arith, q.equal))))

            -- nothing refuses
            pub can_add : t.count < most_files → (f : ℕ) → IsFree t f → page_count bs ≤ f → i ≤ greatest_id
                → CanAdd t i (page_count bs) (length d) bs
            unfolding layout_of
            can_add m f q s high = record {
              opened = o;
              disk = right;
              least = omega (arith, some);
              most = high;
              fresh = fresh;
              paged = whole_paged bs full whole;
              few = m;
              fits = omega (arith, q.equal);
              pages = refl;
            }

-- ---- the answer

allowed_is : (t : Table) (i n : ℕ) (bs d : List ℕ) → CanAdd t i n (length d) bs → (v : Version) (cat : List ℕ)
    → add_on v (layout_of t) i bs cat d ≡ act v (layout_of t) i bs cat d
unfolding layout_of
allowed_is t i n bs d c v cat =
    ap (λ j. unless_refused j cat d [] (act v (layout_of t) i bs cat d))
    (judge_none (layout_of t) i bs d (ap not (eq-eqb (length d) (block_size * t.blocks) c.disk))
    (ne_eqb i 0 (λ z. omega (arith, c.least))) c.fresh c.paged
    (lt-leb most_files (length (files_of t)) (omega (arith, c.opened.files, c.few)))
    (le-ltb (free_blocks (layout_of t)) (page_count bs) c.fits))

-- what the add does on the table t is what was done
pub placed_is : (t : Table) (i : ℕ) (bs d d' : List ℕ) (r : Table) → Places t i bs d d' r
    → (v : Version) (cat : List ℕ)
    → act v (layout_of t) i bs cat d ≡ outcome (answered (page_count bs)) (encode v (layout_of r)) d' []
unfolding layout_of
placed_is t i bs d d' r p v cat =
    ap (add_pieces v i bs cat d (layout_of t)) p.allocation
    ∙ ap₂ (λ l z. outcome (answered (page_count bs)) (encode v l) z []) (sym p.layout) (sym p.disk)

pub placed_blocks : (t : Table) (i : ℕ) (bs d d' : List ℕ) (r : Table) → Places t i bs d d' r
    → (layout_of r).blocks ≡ t.blocks
unfolding layout_of
placed_blocks t i bs d d' r p = ap (λ (l : Layout). l.blocks) p.layout

pub answer-add : (t : Table) (i n : ℕ) (bs d d' : List ℕ) (r : Table) → CanAdd t i n (length d) bs
    → Places t i bs d d' r
    → Makes t.blocks (λ v cat. add_on v (layout_of t) i bs cat d) d'
    (Ok (record { number = n; table = r }))
answer-add t i n bs d d' r c p = record {
  answer = λ v cat. ap answered c.pages ∙ sym (ap (λ (o : Outcome). o.reply) (done_is v cat));
  disk = λ v cat. sym (ap (λ (o : Outcome). o.disk) (done_is v cat));
  stored = λ v cat. sym (ap (λ (o : Outcome). o.catalogue) (done_is v cat));
  rules = p.rules;
  blocks = placed_blocks t i bs d d' r p;
  sized = p.sized;
}
  where
    done_is : (v : Version) (cat : List ℕ) → add_on v (layout_of t) i bs cat d
        ≡ outcome (answered (page_count bs)) (encode v (layout_of r)) d' []
    done_is v cat = allowed_is t i n bs d c v cat ∙ placed_is t i bs d d' r p v cat

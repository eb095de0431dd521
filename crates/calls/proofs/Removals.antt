-- Removing in code past the catalogue: each refusal by its condition, and what a removal makes. Assumes nothing.
use mathlib.Core.List.{List, [], ◌∷◌}
use mathlib.Core.Path.{◌∙◌, ◌≡◌, ap, ap₂, refl, sym}
use Prim.Native.Nat.{◌*◌, ℕ}
use native.Mathlib.Omega.{arith}
use lib.ListN.{length}
use Rattle.std.specs.Prelude.{Ok, Err}
use Rattle.calls.proofs.Refusing.{refused_makes}
use Rattle.looking.proofs.LookChecks.{disk_right, disk_wrong, id_found}
use Rattle.looking.proofs.LookedUp.{looked_found}
use Rattle.answers.specs.Answers.{number_of}
use Rattle.answers.specs.declared.Refusal.{Refusal}
use Rattle.answers.specs.declared.Refusal.TheVariants as Refusal·
use Rattle.looking.specs.FileIds.{FindsFile, FindsNone}
use Rattle.looking.specs.Opened.{Opened}
use Rattle.calls.specs.Changing.{Makes, remove_on}
use Rattle.calls.specs.TakingOut.{CanTakeOut, TakesOut, file_at, removal_at}
use Rattle.settling.specs.declared.Settled.{Settled}
use Rattle.catalogue.specs.Encoding.{encode}
use Rattle.catalogue.specs.declared.Version.{Version}
use Rattle.layout.proofs.Finding.{found_find}
use Rattle.layout.proofs.Removed.{removal_keeps}
use Rattle.layout.proofs.Soundness.{sound_sums}
use Rattle.layout.specs.Layout.{Layout, find_file, found}
use Rattle.layout.specs.Removing.{layout_after, release}
use Rattle.manager.specs.Conditions.{answered, condition, file_checks, first_refusal, unless_refused, wrong_disk}
use Rattle.manager.specs.Outcomes.{after_merges, remove_found}
use Rattle.section.specs.Limits.{block_size, height_count}
use Rattle.table.proofs.Released.{first-of-id}
use Rattle.table.specs.Tables.{layout_of}
use Rattle.table.specs.declared.Table.{Table}

module _ (t : Table) (op : Opened t) (id : ℕ) (d : List ℕ) where
  pub remove_wrong_disk : (length d ≡ block_size * t.blocks → ⊥)
      → Makes t.blocks (λ v cat. remove_on v (layout_of t) id cat d) d (Err Refusal·.DiskLength)
  unfolding layout_of
  remove_wrong_disk ne =
      refused_makes _ 4 (disk_wrong (layout_of t) d (file_checks id (layout_of t)) ne) Refusal·.DiskLength refl d _

  module _ (ld : length d ≡ block_size * t.blocks) where
    past_disk : first_refusal (condition 4 (wrong_disk (layout_of t) d) ∷ file_checks id (layout_of t))
        ≡ first_refusal (file_checks id (layout_of t))
    unfolding layout_of
    past_disk = disk_right (layout_of t) d (file_checks id (layout_of t)) ld

    -- the file is not found
    pub remove_unfound : (a : Refusal) → FindsNone t id a
        → Makes t.blocks (λ v cat. remove_on v (layout_of t) id cat d) d (Err a)
    remove_unfound a n = refused_makes _ (number_of a) (past_disk ∙ n.first []) a refl d _

    module _ (i : ℕ) (x : FindsFile t id i) where
      there : find_file id (layout_of t).files ≡ found (file_at t i)
      there = looked_found t op id i x.place

      -- what taking the file out asks for
      pub remove_can_take : CanTakeOut t i (length d)
      remove_can_take =
          record {
            opened = op;
            disk = ld;
            there = x.place.within;
            first = first-of-id t id i (omega (arith, op.array, op.sized.files)) x.place.first x.place.within;
          }

      outcome_is : (v : Version) (cat : List ℕ)
          → remove_on v (layout_of t) id cat d
          ≡ after_merges v (release (file_at t i) (layout_of t)) d (removal_at t i)
      unfolding first_refusal
      outcome_is v cat =
          ap₂ (λ j x. unless_refused j cat d [] (remove_found v cat d (layout_of t) x))
          (past_disk ∙ id_found (layout_of t) id [] x.least (file_at t i) there) there

      pub removed-blocks : (layout_after (release (file_at t i) (layout_of t)) (removal_at t i)).blocks ≡ t.blocks
      unfolding layout_of
      removed-blocks =
          let x = found_find id (layout_of t).files (file_at t i) there in
          (removal_keeps height_count id (layout_of t) (file_at t i) x.0
          (sound_sums height_count (layout_of t) (omega arith) op.rules) x.1).blocks

      pub remove_makes : (d' : List ℕ) (s : Settled) → TakesOut t i d d' s
          → Makes t.blocks (λ v cat. remove_on v (layout_of t) id cat d) d'
          (Ok (record { number = s.copied; table = s.table }))
      remove_makes d' s e = record {
        answer = λ v cat. ap answered e.count ∙ sym (ap (λ o. o.reply) (outcome_is v cat));
        disk = λ v cat. e.disk ∙ sym (ap (λ o. o.disk) (outcome_is v cat));
        stored = λ v cat. ap (encode v) e.layout ∙ sym (ap (λ o. o.catalogue) (outcome_is v cat));
        rules = e.opened.rules;
        blocks = ap (λ (l : Layout). l.blocks) e.layout ∙ removed-blocks;
        sized = e.opened.sized;
      }

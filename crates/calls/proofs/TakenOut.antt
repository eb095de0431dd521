-- A file taken out of a table: what the release and the merges ask for, and what they leave. Assumes nothing.
use mathlib.Core.List.{List}
use mathlib.Core.Path.{◌∙◌, ◌≡◌, ap, ap₂, subst, sym}
use Prim.Native.Nat.{◌*◌, ◌≤◌, ℕ}
use native.Mathlib.Omega.{arith}
use lib.ListN.{length}
use Rattle.layout.specs.Covering.{Whole}
use Rattle.section.specs.Limits.{block_size, greatest_disk, height_count}
use Rattle.layout.proofs.Finding.{found_find}
use Rattle.layout.proofs.Removed.{removal_keeps}
use Rattle.layout.proofs.Soundness.{sound_sums, sums_sound}
use Rattle.layout.specs.Layout.{find_file, found}
use Rattle.layout.specs.Removing.{copies_of, layout_after, merge_all, release, removal}
use Rattle.layout.specs.Sound.{Sound}
use Rattle.layout.specs.Sums.{SoundSums}
use Rattle.manager.specs.Disk.{run_copies}
use Rattle.piece_lists.specs.Few.{piece_places}
use Rattle.table.proofs.Released.{find_at, length-files}
use Rattle.table.proofs.TableSteps.{few_free, table_released_whole}
use Rattle.table.specs.Files.{entry_at}
use Rattle.table.specs.Merges.{Released}
use Rattle.table.specs.Tables.{layout_of}
use Rattle.table.specs.declared.Table.{Table}
use Rattle.settling.specs.Settling.{CanSettle, Settles, merges_of}
use Rattle.settling.specs.declared.Settled.{Settled}
use Rattle.calls.specs.TakingOut.{CanTakeOut, TakesOut, file_at, removal_at}

module _ (t : Table) (i : ℕ) (d : List ℕ) (c : CanTakeOut t i (length d)) where
  most : t.count ≤ length t.files
  most = omega (arith, c.opened.array, c.opened.sized.files)

  sums : SoundSums height_count (layout_of t)
  sums = sound_sums height_count (layout_of t) (omega arith) c.opened.rules

  there : find_file (entry_at t i).id (layout_of t).files ≡ found (file_at t i)
  unfolding layout_of
  there = find_at t (entry_at t i).id i most c.first c.there

  -- what the release asks for
  pub release-room : t.free.count ≤ piece_places
  release-room = few_free t sums c.opened.free

  small : t.blocks ≤ greatest_disk
  unfolding layout_of
  small = c.opened.rules.most_blocks

  module _ (r : Table) (re : Released t i r) where
    -- what merging asks for
    pub released_can_settle : CanSettle r (length d)
    released_can_settle = record {
      whole =
          subst (λ b. Whole b (layout_of r)) (sym re.blocks)
          (table_released_whole t sums i r most c.there c.first re);
      sized = re.sized;
      small = omega (arith, re.blocks, small);
      disk = c.disk ∙ ap (λ b. block_size * b) (sym re.blocks);
      exact = re.exact;
    }

    module _ (d' : List ℕ) (s : Settled) (e : Settles r d d' s) where
      merges : merges_of r ≡ removal_at t i
      unfolding removal layout_of
      merges =
          ap₂ (λ n w. merge_all n height_count w)
          (sym re.exact ∙ ap (λ w. length w.free) re.layout) re.layout

      after : layout_of s.table ≡ layout_after (release (file_at t i) (layout_of t)) (removal_at t i)
      after = e.layout ∙ ap₂ (λ w ms. layout_after w ms) re.layout merges

      sound_after : Sound height_count (layout_of s.table)
      sound_after =
          let x = found_find (entry_at t i).id (layout_of t).files (file_at t i) there in
          subst (Sound height_count) (sym after)
          (sums_sound height_count _
          (removal_keeps height_count (entry_at t i).id (layout_of t) (file_at t i) x.0 sums x.1).sound)

      -- what the two leave
      pub taken_out : TakesOut t i d d' s
      taken_out = record {
        layout = after;
        disk = e.disk ∙ ap (λ ms. run_copies d (copies_of ms)) merges;
        count = e.count ∙ ap (λ ms. length (copies_of ms)) merges;
        opened = record {
          rules = sound_after;
          sized = e.sized;
          array = e.array;
          files = length-files s.table (omega (arith, e.sized.files, e.array));
          free = e.exact;
        };
      }

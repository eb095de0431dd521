-- What a removal promises from any sound catalogue with a disk of the right length. Assumes nothing.
use mathlib.Core.Bool.{not}
use mathlib.Core.List.{List, [], map}
use mathlib.Core.Path.{◌∙◌, ◌≡◌, ap, refl, subst, sym}
use Prim.Native.Nat.{◌*◌, ◌≤◌, ℕ}
use native.Mathlib.Omega.{arith}
use lib.Dec.{eqb}
use lib.ListN.{length}
use borrow.Author.Tests.{ne_eqb}
use Rattle.catalogue.specs.Encoding.{encode}
use Rattle.catalogue.specs.Roomy.{Roomy}
use Rattle.catalogue.specs.declared.Version.{Version}
use Rattle.layout.proofs.Finding.{find_id, found_find}
use Rattle.layout.proofs.MergeAll.{merged_reach}
use Rattle.layout.proofs.Origins.{origin_off}
use Rattle.layout.proofs.Removed.{removal_keeps}
use Rattle.layout.specs.Layout.{File, Layout, find_file, found, has_file, is_found}
use Rattle.layout.specs.Lists.{Each, done, more}
use Rattle.layout.specs.Merges.{InDisk}
use Rattle.layout.specs.Removals.{Find, Removes}
use Rattle.layout.specs.Removing.{copies_of, layout_after, release, removal}
use Rattle.layout.specs.Sound.{Sound}
use Rattle.layout.specs.Sums.{SoundSums}
use Rattle.manager.proofs.Blocks.{copies-block, copies_length}
use Rattle.manager.proofs.Judging.{none_applies}
use Rattle.manager.proofs.Lines.{find_strike, moved_lines}
use Rattle.manager.proofs.OnSound.{remove_on_sound}
use Rattle.manager.specs.Book.{strike_line}
use Rattle.manager.specs.Changes.{RemovesFrom}
use Rattle.manager.specs.Conditions.{allowed, condition, file_checks, first_refusal, unless_refused}
use Rattle.manager.specs.Disk.{block}
use Rattle.manager.specs.Outcomes.{after_merges, remove_found, remove_outcome}
use Rattle.manager.specs.WholeList.{line_on}
use Rattle.section.specs.Limits.{block_size, height_count}
use Rattle.manager.proofs.AllHeights.{all_heights, own_heights}
use Rattle.catalogue.specs.Version.{greatest_blocks}

module _ (v : Version) (room : Roomy v) (l : Layout) (s : Sound v.heights l) (d : List ℕ)
    (ld : length d ≡ block_size * l.blocks)
    (i : ℕ) (f : File) (e : find_file i l.files ≡ found f) where
  sums : SoundSums height_count l
  sums = all_heights v room l s

  others_left : (r : List File) × Find i l.files f r
  others_left = found_find i l.files f e

  kept : Removes height_count l f others_left.0 (removal height_count f l)
  kept = removal_keeps height_count i l f others_left.0 sums others_left.1

  reach : Each (InDisk l.blocks) (copies_of (removal height_count f l))
  reach = merged_reach kept.steps

  pub removes : RemovesFrom v l d f (after_merges v (release f l) d (removal height_count f l))
  removes = record {
    reply = refl;
    catalogue = refl;
    disk = refl;
    output = refl;
    sound_after =
        own_heights v room (layout_after (release f l) (removal height_count f l))
        (subst (λ n. n ≤ greatest_blocks v) (sym kept.blocks) s.most_blocks) kept.sound;
    blocks = kept.blocks;
    disk_length = copies_length l.blocks d ld reach ∙ ld;
    lines =
        moved_lines l.blocks d ld reach kept.files
        ∙ (sym (find_strike d others_left.1)
        ∙ ap (λ z. strike_line z (map (line_on d) l.files)) (sym (find_id others_left.1)));
    others = λ x off. copies-block l.blocks d ld reach x ∙ ap (block d) (origin_off x off);
    limit = kept.limit;
  }

  no_condition : 1 ≤ i → first_refusal (file_checks i l) ≡ allowed
  no_condition least =
      none_applies
      (more {a = condition 5 (eqb i 0)} (ne_eqb i 0 (λ z. omega arith))
      (more {a = condition 6 (not (has_file i l.files))} (ap (λ x. not (is_found x)) e) done))

  -- from any sound catalogue
  pub remove_does : 1 ≤ i → remove_outcome i (encode v l) d ≡ after_merges v (release f l) d (removal height_count f l)
  remove_does least =
      remove_on_sound v room l s d ld i
      ∙ (ap (λ j. unless_refused j (encode v l) d [] (remove_found v (encode v l) d l (find_file i l.files)))
      (no_condition least)
      ∙ ap (remove_found v (encode v l) d l) e)

  pub remove_from_sound : 1 ≤ i → RemovesFrom v l d f (remove_outcome i (encode v l) d)
  remove_from_sound least = subst (RemovesFrom v l d f) (sym (remove_does least)) removes

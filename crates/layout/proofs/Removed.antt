-- What a removal makes of a sound layout. Assumes nothing.
use mathlib.Core.List.{List, [], ◌++◌, ◌∷◌, map}
use mathlib.Core.Path.{◌∙◌, ◌≡◌, ap, subst, sym}
use Prim.Native.Nat.{◌%◌, ◌+◌, ◌-◌, ◌/◌, ◌<◌, ◌^◌, ◌≤◌, ℕ}
use native.Mathlib.Omega.{arith}
use lib.ListN.{length, length-map}
use Rattle.layout.proofs.Allocating.{falling_thin, height-lt}
use Rattle.layout.proofs.CarryBound.{copies_within_carries}
use Rattle.layout.proofs.Digits.{counts_are_digits}
use Rattle.layout.proofs.FilesMoved.{moved_shapes}
use Rattle.layout.proofs.Finding.{find_each, find_id, find_ids, find_length, find_shapes, find_sum}
use Rattle.layout.proofs.Finding.{find_without}
use Rattle.layout.proofs.Lists.{each_append, each_imp, each_insert, each_left, each_right, sum-append}
use Rattle.layout.proofs.Lists.{sum_insert}
use Rattle.layout.proofs.MergeAll.{merge_all_is, merged_blocks, merged_files, merged_thin}
use Rattle.layout.proofs.MergeAll.{merged_whole}
use Rattle.layout.proofs.SoundSums.{falling-of, free_is}
use Rattle.layout.proofs.Taking.{insert_rising}
use Rattle.layout.specs.Layout.{File, Layout, OnDisk, all_pieces, by_first, file_blocks, file_pieces, free_blocks}
use Rattle.layout.specs.Layout.{digit, holds_block, of_height}
use Rattle.layout.specs.Lists.{Each, Zipped, done, more, sum_of}
use Rattle.layout.specs.Removing.{copies_of, insert_all, layout_after, release, removal, without_file}
use Rattle.section.specs.declared.Section.{Section}
use Rattle.layout.specs.Removals.{Find, Removes}
use Rattle.layout.specs.Covering.{Covers, Rising, Whole, count_of}
use Rattle.layout.specs.Merges.{MergedAll, Moved}
use Rattle.layout.specs.Sums.{RisingIds, ShapeSound, SoundSums, shape}

sum-insert_all : (w : Section → ℕ) (s free : List Section) → sum_of w (insert_all s free) ≡ sum_of w s + sum_of w free
unfolding insert_all
sum-insert_all w [] free = omega arith
sum-insert_all w (a ∷ s) free = omega (arith, sum_insert w by_first a (insert_all s free), sum-insert_all w s free)

each_insert_all : {P : Section → Type 0} {s : List Section} (free : List Section) → Each P s → Each P free
    → Each P (insert_all s free)
unfolding insert_all
each_insert_all free done q = q
each_insert_all free (more {a = a} p e) q = each_insert by_first a p (each_insert_all free e q)

rising-insert_all : (s : List Section) {free : List Section} → Rising free → Rising (insert_all s free)
unfolding insert_all
rising-insert_all [] r = r
rising-insert_all (a ∷ s) r = insert_rising a (rising-insert_all s r)

module _ (K i : ℕ) (l : Layout) (f : File) (r : List File) (g : SoundSums K l) (x : Find i l.files f r) where
  wo : without_file f.id l.files ≡ r
  wo = ap (λ z. without_file z l.files) (find_id x) ∙ find_without x

  abbrev free : List Section
  free = insert_all f.pieces l.free

  filed : Each (OnDisk l.blocks) f.pieces × Each (OnDisk l.blocks) (file_pieces r)
  filed = find_each x (each_left (file_pieces l.files) l.free g.disk)

  release-disk : Each (OnDisk l.blocks) l.free
  release-disk = each_right (file_pieces l.files) l.free g.disk

  pub release_whole : Whole l.blocks (release f l)
  unfolding release
  release_whole = record {
    disk =
        subst (λ z. Each (OnDisk l.blocks) (file_pieces z ++ free)) (sym wo)
        (each_append filed.1 (each_insert_all l.free filed.0 release-disk));
    rising = rising-insert_all f.pieces g.rising;
    covers = λ y. all_total (holds_block y) ∙ g.covers y;
  }
    where
      all_total : (w : Section → ℕ)
          → sum_of w (file_pieces (without_file f.id l.files) ++ free) ≡ sum_of w (all_pieces l)
      all_total w = ap (λ z. sum_of w (file_pieces z ++ free)) wo ∙ omega (
        arith,
        sum-append w (file_pieces r) free,
        sum-append w (file_pieces l.files) l.free,
        find_sum w x,
        sum-insert_all w f.pieces l.free,
      )

  -- the counts of the free sections at first
  pub release_counts : (j : ℕ) → count_of j (release f l).free ≡ digit j (free_blocks l) + digit j (file_blocks f)
  unfolding release
  release_counts j =
      omega (
        arith,
        sum-insert_all (of_height j) f.pieces l.free,
        counts_are_digits 2 (omega arith) K (each_imp (λ s d. height-lt l.blocks K g.top s d) filed.0)
            (λ h. omega (arith, falling_thin (falling-of f.pieces (find_shapes x g.shapes).0.falling) h)) j,
        counts_are_digits 2 (omega arith) K (each_imp (λ s d. height-lt l.blocks K g.top s d) release-disk)
            (λ h. omega (arith, g.thin h)) j,
        ap (λ z. z / 2 ^ j % 2) (free_is K l g),
      )

  pub removal_keeps : Removes K l f r (removal K f l)
  unfolding removal release
  removal_keeps = record {
    steps = st;
    sound = record {
      some = subst (λ z. 1 ≤ z) (sym bl) g.some;
      top = subst (λ z. z < 2 ^ K) (sym bl) g.top;
      cap = subst (λ z. z ≤ 2 ^ (K - 1)) (sym bl) g.cap;
      disk =
          subst (λ z. Each (OnDisk z) (all_pieces (layout_after (release f l) (removal K f l)))) (sym bl)
          (merged_whole st).disk;
      covers =
          subst (λ z. Covers z (all_pieces (layout_after (release f l) (removal K f l)))) (sym bl)
          (merged_whole st).covers;
      rising = (merged_whole st).rising;
      thin = merged_thin st;
      shapes = subst (Each ShapeSound) (sym shapes) (find_shapes x g.shapes).1;
      ids = subst RisingIds (sym shapes) (find_ids x g.ids);
      few = omega (
        arith,
        g.few,
        find_length x,
        sym (length-map (layout_after (release f l) (removal K f l)).files shape)
            ∙ (ap length shapes ∙ length-map r shape),
      );
    };
    blocks = bl;
    limit = copies_within_carries (free_blocks l) (file_blocks f) st release_counts;
    files = went;
  }
    where
      st : MergedAll l.blocks K (release f l) (removal K f l)
      st = merge_all_is l.blocks K g.top (length (release f l).free) (release f l) release_whole (omega arith)

      bl : (layout_after (release f l) (removal K f l)).blocks ≡ l.blocks
      bl = merged_blocks st

      went : Zipped (Moved (copies_of (removal K f l))) r (layout_after (release f l) (removal K f l)).files
      went =
          subst
          (λ z. Zipped (Moved (copies_of (removal K f l))) z (layout_after (release f l) (removal K f l)).files) wo
          (merged_files st)

      shapes : map shape (layout_after (release f l) (removal K f l)).files ≡ map shape r
      shapes = moved_shapes went

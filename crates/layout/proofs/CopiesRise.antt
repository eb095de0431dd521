-- A removal's copies: on the disk, each to a higher block, within the limit, and lowering no page. Assumes nothing.
use mathlib.Core.List.{List}
use Prim.Native.Nat.{◌<◌, ◌≤◌, ℕ}
use lib.ListN.{length}
use Rattle.layout.proofs.Lists.{each_append}
use Rattle.layout.proofs.MergeAll.{merged_reach}
use Rattle.layout.proofs.Removed.{removal_keeps}
use Rattle.layout.specs.Carries.{carries}
use Rattle.layout.specs.Layout.{File, Layout, file_blocks, free_blocks}
use Rattle.layout.specs.Lists.{Each, Zipped, both, done, ends}
use Rattle.layout.specs.Merges.{InDisk, MergedAll, Moved, rest, step}
use Rattle.layout.specs.Removals.{Find, NoLower}
use Rattle.layout.specs.Removing.{Copy, Merge, copies_of, layout_after, release, removal}
use Rattle.layout.specs.Sums.{SoundSums}

-- the copies of merges go to higher blocks
pub merged_rise : {c K : ℕ} {w : Layout} {ms : List Merge} → MergedAll c K w ms
    → Each (λ (x : Copy). x.source < x.target) (copies_of ms)
unfolding copies_of
merged_rise (rest wh t) = done
merged_rise (step h lt wh low st s) = each_append st.rise (merged_rise s)

-- moved files have no page lower
none_lower : {cs : List Copy} {fs gs : List File} → Zipped (Moved cs) fs gs → Zipped NoLower fs gs
none_lower ends = ends
none_lower (both p b) = both (record { id = p.id; pages = p.rises }) (none_lower b)

module _ (K i : ℕ) (l : Layout) (f : File) (r : List File) (g : SoundSums K l) (x : Find i l.files f r) where
  -- every copy of a removal goes to a higher block
  pub removal_copies_rise : Each (λ (x : Copy). x.source < x.target) (copies_of (removal K f l))
  removal_copies_rise = merged_rise (removal_keeps K i l f r g x).steps

  -- every copy of a removal reads and writes blocks of the disk
  pub removal_copies_on_disk : Each (InDisk l.blocks) (copies_of (removal K f l))
  removal_copies_on_disk = merged_reach (removal_keeps K i l f r g x).steps

  -- a removal copies at most the sum of the place values at which f + n carries
  pub removal_count_limit : length (copies_of (removal K f l)) ≤ carries K (free_blocks l) (file_blocks f)
  removal_count_limit = (removal_keeps K i l f r g x).limit

  -- each page of a remaining file stands at no lower block than before the removal
  pub page_never_lower : Zipped NoLower r (layout_after (release f l) (removal K f l)).files
  page_never_lower = none_lower (removal_keeps K i l f r g x).files

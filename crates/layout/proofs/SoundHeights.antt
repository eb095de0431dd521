-- A sound layout is sound for more heights, and for fewer if its disk is no longer than the greatest of them.
-- Assumes nothing.
use Prim.Native.Nat.{◌-◌, ◌<◌, ◌^◌, ◌≤◌, ℕ}
use native.Mathlib.Omega.{arith}
use lib.Pow.{pow-lt, pow_mono}
use Rattle.layout.proofs.Lists.{each_imp}
use Rattle.layout.specs.Layout.{Layout, all_pieces}
use Rattle.layout.specs.Lists.{Each}
use Rattle.layout.specs.Sound.{Sound}
use Rattle.section.proofs.Lengths.{pow_lt_inv}
use Rattle.section.specs.declared.Section.{Section}

module _ (j k : ℕ) (l : Layout) where
  -- only two rules know of the heights
  sound_for : Sound j l → l.blocks ≤ 2 ^ (k - 1) → Each (λ (s : Section). s.height.value < k) (all_pieces l)
      → Sound k l
  sound_for s most low = record {
    some_blocks = s.some_blocks;
    most_blocks = most;
    most_files = s.most_files;
    least_id = s.least_id;
    most_id = s.most_id;
    ids_rise = s.ids_rise;
    some_pages = s.some_pages;
    pages_fit = s.pages_fit;
    on_disk = s.on_disk;
    heights = low;
    page_order = s.page_order;
    file_count = s.file_count;
    free_rise = s.free_rise;
    free_distinct = s.free_distinct;
    free_sum = s.free_sum;
    free_count = s.free_count;
    apart = s.apart;
  }

  pub sound_higher : j ≤ k → Sound j l → Sound k l
  sound_higher p s =
      sound_for s (omega (arith, s.most_blocks, pow_mono {i = j - 1} {j = k - 1} (omega arith)))
      (each_imp (λ x q. omega (arith, q)) s.heights)

module _ (j k : ℕ) (l : Layout) where
  pub sound_lower : 1 ≤ j → l.blocks ≤ 2 ^ (j - 1) → Sound k l → Sound j l
  sound_lower p most s =
      sound_for k j l s most
      (each_imp (λ x d. pow_lt_inv x.height.value j
      (omega (arith, d.within, most, pow-lt {i = j - 1} {j = j} (omega arith)))) s.on_disk)

-- The free pieces of a sound layout are stock: what `allocate` and `take_piece` require. Assumes nothing.
use mathlib.Core.Path.{◌≡◌}
use Prim.Native.Nat.{◌≤◌}
use native.Mathlib.Omega.{arith}
use lib.ListN.{length}
use Rattle.layout.proofs.Lists.{each_imp, each_right}
use Rattle.layout.proofs.Soundness.{sound_sums}
use Rattle.layout.specs.Layout.{OnDisk, file_pieces}
use Rattle.layout.specs.Sound.{Sound}
use Rattle.layout.specs.Sums.{SoundSums}
use Rattle.section.specs.Limits.{greatest_disk, height_count}
use Rattle.section.specs.declared.Section.{Section}
use Rattle.free_pieces.specs.Free.{free_of, free_places}
use Rattle.table.specs.Tables.{files_of, layout_of}
use Rattle.free_pieces.specs.Taking.{Stocked}
use Rattle.table.specs.declared.Table.{Table}

module _ (t : Table) (g : SoundSums height_count (layout_of t)) (most : t.free.count ≤ free_places)
    (exact : length (free_of t.free) ≡ t.free.count) where
  pub sums_stocked : Stocked t.free
  unfolding layout_of
  sums_stocked = record {
    disk = each_imp wider (each_right (file_pieces (files_of t)) (free_of t.free) g.disk);
    rising = g.rising;
    distinct = g.thin;
    most = most;
    exact = exact;
  }
    where
      wider : (s : Section) → OnDisk t.blocks s → OnDisk greatest_disk s
      wider s d = record { aligned = d.aligned; within = omega (arith, d.within, g.cap) }

-- the rules of document 01 suffice
pub sound_stocked : (t : Table) → Sound height_count (layout_of t) → t.free.count ≤ free_places
    → length (free_of t.free) ≡ t.free.count → Stocked t.free
sound_stocked t s most exact =
    sums_stocked t (sound_sums height_count (layout_of t) (omega arith) s) most exact

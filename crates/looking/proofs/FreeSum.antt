-- The free blocks of a loaded table: the lengths of its free pieces sum to f. Assumes nothing.
use Rattle.piece.specs.Packed.{seen}
use mathlib.Core.Path.{◌≡◌}
use Prim.Native.Nat.{◌≤◌}
use native.Mathlib.Omega.{arith}
use lib.ListN.{take}
use Rattle.looking.specs.Opened.{Opened}
use Rattle.layout.proofs.Soundness.{sound_sums}
use Rattle.layout.specs.Layout.{block_count, free_blocks}
use Rattle.layout.specs.Sums.{SoundSums}
use Rattle.section.specs.Limits.{greatest_disk, height_count}
use Rattle.table.proofs.SoundStock.{sound_stocked}
use Rattle.free_pieces.specs.Free.{free_of}
use Rattle.table.specs.Tables.{layout_of}
use Rattle.free_pieces.specs.Taking.{Stocked}
use Rattle.table.specs.declared.Table.{Table}

module _ (t : Table) (o : Opened t) where
  pub opened_sums : SoundSums height_count (layout_of t)
  opened_sums = sound_sums height_count (layout_of t) (omega arith) o.rules

  pub opened_stocked : Stocked t.free
  opened_stocked = sound_stocked t o.rules o.sized.free o.free

  pub free-blocks : block_count (take t.free.count (seen t.free.items)) ≡ free_blocks (layout_of t)
  unfolding layout_of free_of
  free-blocks = o.rules.free_sum

  pub free_most : free_blocks (layout_of t) ≤ greatest_disk
  free_most = omega (arith, o.rules.most_blocks)

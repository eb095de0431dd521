-- `write_pages` writes the content's pages piece by piece. The pieces left, from the next page on, give the same
-- disk as all pieces. Assumes nothing.
use mathlib.Core.Path.{◌≡◌}
use Prim.Native.Nat.{◌*◌, ◌+◌}
use lib.ListN.{drop, length}
use Rattle.blocks.proofs.DiskWriting.{left_over}
use Rattle.layout.specs.Layout.{block_count}
use Rattle.piece.specs.Packed.{seen}
use Rattle.section.specs.Limits.{block_size}
use Rattle.blocks.proofs.disk.write_pages.Given as goal

abbrev pub invariant-loop-piece : goal.invariant-loop-piece
invariant-loop-piece l =
    (block_size * (l.page + block_count (drop l.piece-index (seen l.piece-items))) ≡ length l.content)
    × (left_over (drop l.piece-index (seen l.piece-items)) l.page l.content l.disk
    ≡ left_over (seen l.piece-items) 0 l.content l.initial.disk)

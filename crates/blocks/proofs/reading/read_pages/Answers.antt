-- `read_pages` fills the output page by page. The pages read so far stand at its start, and the rest is as it was.
-- Assumes nothing.
use mathlib.Core.Path.{◌≡◌, subst, sym}
use Prim.Native.Nat.{◌*◌, ◌+◌, ◌<◌}
use native.Mathlib.Omega.{arith}
use lib.ListN.{length}
use Rattle.blocks.proofs.DiskPieces.{entry_most, entry_wider, page_on_disk}
use Rattle.blocks.proofs.DiskReading.{filled-end, filled_more, filled_start, page-bytes, page_there, pages_from}
use Rattle.blocks.proofs.RunSteps.{run_follows, run_found, run_there}
use Rattle.blocks.specs.Runs.{Follows}
use Rattle.layout.proofs.Occurs.{length-blocks}
use Rattle.layout.specs.Layout.{block_count, blocks_of}
use Rattle.manager.proofs.Blocks.{block-length}
use Rattle.manager.specs.Disk.{block, page_count}
use Rattle.section.specs.Limits.{block_size, greatest_disk}
use Rattle.table.specs.Tables.{pieces_in}
use Rattle.blocks.proofs.reading.read_pages.Goals as goal

pub loop-i-init : goal.loop-i-init
loop-i-init c = (filled_start (pages_from c.args.disk.now (pieces_in c.args.e) c.args.first) c.args.out.now, tt)

pub overflow_add-first : goal.overflow_add-first
overflow_add-first c =
    omega (arith, c.requires.pages, entry_most (length c.args.disk.now) c.args.e c.requires.entry)

pub run_on-run-requires-clause-entry_fits : goal.run_on-run-requires-clause-entry_fits
run_on-run-requires-clause-entry_fits c =
    entry_wider (length c.args.disk.now) (block_size * greatest_disk) c.args.e c.requires.entry.disk (omega arith)
    c.requires.entry

pub unwrap-requires : goal.unwrap-requires
unwrap-requires c =
    run_found _ _ _ c.run_on-run.ensures (omega (arith, c.requires.pages, length-blocks (pieces_in c.args.e)))

pub store_block-requires-clause-has_block_2 : goal.store_block-requires-clause-has_block_2
store_block-requires-clause-has_block_2 c =
    let k = c.args.first + c.loop-i.i in
    let h : k < block_count (pieces_in c.args.e) = omega (arith, c.requires.pages) in
    let run = run_there _ _ _ _ c.run_on-run.ensures c.unwrap.ensures in
    omega (arith, run.first, page_on_disk (length c.args.disk.now) k c.requires.entry.pieces h)

pub loop-i-preserved : goal.loop-i-preserved
loop-i-preserved c =
    let i = c.loop-i.i in
    let first = c.args.first in
    let d = c.args.disk.now in
    let l = pieces_in c.args.e in
    let b = c.unwrap.result.first in
    let h : first + i < block_count l = omega (arith, c.requires.pages) in
    let at = (run_there _ _ _ _ c.run_on-run.ensures c.unwrap.ensures).first in
    let p = page_on_disk (length d) (first + i) c.requires.entry.pieces h in
    let next : first + i + 1 ≡ first + (i + 1) = omega arith in (
      filled_more (pages_from d l first) c.args.out.now c.loop-i.out i c.loop-i.invariant.0 (block d b) _
          (page_there d l first i h) (page-bytes d l first i h b at) (block-length d b (omega (arith, at, p)))
          c.store_block.ensures,
      subst (λ n. Follows (blocks_of l) n c.run_on-run.result) next
          (run_follows (blocks_of l) (first + i) c.run_on-run.result c.run_on-run.ensures),
    )

pub returns : goal.returns
returns c =
    filled-end (pages_from c.args.disk.now (pieces_in c.args.e) c.args.first) c.args.out.now c.loop-i.out c.loop-i.i
    c.loop-i.invariant.0 (page_count c.args.out.now) (omega arith) (sym c.requires.whole)

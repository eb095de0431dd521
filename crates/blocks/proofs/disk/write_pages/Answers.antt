-- `write_pages` writes the content's pages piece by piece. The pieces left, from the next page on, give the same
-- disk as all pieces. Assumes nothing.
use mathlib.Core.Path.{◌∙◌, ap, refl, sym}
use Prim.Native.Nat.{◌+◌}
use native.Mathlib.Omega.{arith}
use lib.ListN.{drop}
use Rattle.blocks.proofs.DiskPieces.{piece_fits, piece_next, piece_past}
use Rattle.blocks.proofs.DiskWriting.{left_all, left_end, left_more, left_over}
use Rattle.layout.specs.Layout.{block_count}
use Rattle.piece.specs.Packed.{seen}
use Rattle.table.specs.Tables.{pieces_in}
use Rattle.blocks.proofs.disk.write_pages.Goals as goal

pub loop-piece-init : goal.loop-piece-init
loop-piece-init c =
    (omega (arith, c.requires.pages, ap block_count c.as_slice-piece-items.ensures.listed), refl)

pub length-n-requires : goal.length-n-requires
length-n-requires c =
    (piece_fits _ _ c.loop-piece-test.true _ c.section-s.ensures _ _ c.as_slice-piece-items.ensures.listed
    c.requires.entry).height

pub write_run-requires : goal.write_run-requires
write_run-requires c =
    let t = c.loop-piece-test.true in
    let p = piece_fits _ _ t _ c.section-s.ensures _ _ c.as_slice-piece-items.ensures.listed c.requires.entry in
    let next = ap block_count (piece_next _ _ t _ c.section-s.ensures) in
    record {
      has_run = omega (arith, p.within, c.length-n.ensures.equal, c.loop-piece.auto.disk);
      has_run_2 = omega (arith, next, c.length-n.ensures.equal, c.loop-piece.invariant.0);
    }

pub overflow_add-page : goal.overflow_add-page
overflow_add-page c =
    let next = ap block_count (piece_next _ _ c.loop-piece-test.true _ c.section-s.ensures) in
    omega (arith, next, c.length-n.ensures.equal, c.loop-piece.invariant.0)

pub loop-piece-preserved : goal.loop-piece-preserved
loop-piece-preserved c =
    let v = c.loop-piece.invariant in
    let n = c.length-n.ensures.equal in
    let page = c.loop-piece.page in
    let content = c.args.content.now in
    let disk = c.loop-piece.disk in
    let l = drop (c.loop-piece.piece-index + 1) (seen c.as_slice-piece-items.result.now) in
    let next = piece_next _ _ c.loop-piece-test.true _ c.section-s.ensures in (
      omega (arith, ap block_count next, n, v.0),
      left_more c.section-s.result l c.length-n.result page content disk _ n c.write_run.ensures
          ∙ (ap (λ z. left_over z page content disk) (sym next) ∙ v.1),
    )

pub returns : goal.returns
returns c =
    let page = c.loop-piece.page in
    let content = c.args.content.now in
    left_end page content c.loop-piece.disk
    ∙ (ap (λ z. left_over z page content c.loop-piece.disk) (sym (piece_past _ _ c.loop-piece-test.false))
    ∙ (c.loop-piece.invariant.1
    ∙ (ap (λ z. left_over z 0 content c.args.disk.now) c.as_slice-piece-items.ensures.listed
    ∙ left_all (pieces_in c.args.e) content c.args.disk.now c.requires.pages)))

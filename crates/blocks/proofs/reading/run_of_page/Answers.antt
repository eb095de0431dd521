-- `run_of_page` goes through the pieces to the one that has the page. The blocks of the pieces left from the page
-- that is left to pass on are the blocks of all pieces from the page that is asked for on. Assumes nothing.
use mathlib.Core.Path.{◌∙◌, ap, refl, sym}
use Prim.Native.Nat.{◌+◌, ◌-◌}
use native.Mathlib.Omega.{arith}
use lib.ListN.{drop, length}
use Rattle.blocks.proofs.DiskPieces.{piece_fits, piece_next, piece_past}
use Rattle.blocks.proofs.PiecesLeft.{rest_here, rest_later, run_past}
use Rattle.blocks.proofs.RunSteps.{run_is}
use Rattle.layout.specs.Layout.{blocks_of}
use Rattle.piece.specs.Packed.{seen}
use Rattle.table.specs.Tables.{pieces_in}
use Rattle.blocks.proofs.reading.run_of_page.Goals as goal

pub loop-piece-init : goal.loop-piece-init
loop-piece-init c = refl

pub length-n-requires : goal.length-n-requires
length-n-requires c =
    (piece_fits _ _ c.loop-piece-test.true _ c.section-s.ensures _ _ c.as_slice-piece-items.ensures.listed
    c.requires).height

pub overflow_add-result : goal.overflow_add-result
overflow_add-result c =
    let p = piece_fits _ _ c.loop-piece-test.true _ c.section-s.ensures _ _ c.as_slice-piece-items.ensures.listed
    c.requires in
    omega (arith, p.within, c.length-n.ensures.equal)

pub returns-then-rest-n : goal.returns-then-rest-n
returns-then-rest-n c =
    let t = c.loop-piece-test.true in
    let n = c.length-n.ensures.equal in
    let listed = c.as_slice-piece-items.ensures.listed in
    let l = pieces_in c.args.e in
    let m = drop (c.loop-piece.piece-index + 1) (seen c.as_slice-piece-items.result.now) in
    let page = c.args.page in
    let rest = c.loop-piece.rest in
    let next = piece_next _ _ t _ c.section-s.ensures in
    let p = piece_fits _ _ t _ c.section-s.ensures _ _ listed c.requires in
    let on = rest_here c.section-s.result l m page rest (ap (λ z. drop rest (blocks_of z)) (sym next)
    ∙ (c.loop-piece.invariant ∙ ap (λ z. drop page (blocks_of z)) listed)) in
    run_is (blocks_of l) page (c.section-s.result.first + rest) (c.length-n.result - rest)
    (λ i q. on i (omega (arith, n))) (omega arith) (omega (arith, p.within, n))

pub loop-piece-preserved : goal.loop-piece-preserved
loop-piece-preserved c =
    let n = c.length-n.ensures.equal in
    let l = seen c.as_slice-piece-items.result.now in
    let m = drop (c.loop-piece.piece-index + 1) l in
    let rest = c.loop-piece.rest in
    let next = piece_next _ _ c.loop-piece-test.true _ c.section-s.ensures in
    ap (λ z. drop (rest - z) (blocks_of m)) n
    ∙ rest_later c.section-s.result l m c.args.page rest
    (ap (λ z. drop rest (blocks_of z)) (sym next) ∙ c.loop-piece.invariant) (omega (arith, n))

pub returns : goal.returns
returns c =
    let l = c.as_slice-piece-items.result.now in
    let last = piece_past l c.loop-piece.piece-index c.loop-piece-test.false in
    let e = ap (λ z. length (blocks_of z)) c.as_slice-piece-items.ensures.listed in
    omega (arith, e, run_past (seen l) _ c.args.page c.loop-piece.rest last c.loop-piece.invariant)

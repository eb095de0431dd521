-- `Pair::copies` meets its contract: after some turns the blocks before as many pieces are counted. Assumes nothing.
use Rattle.std.proofs.Common.{◌+◌, ◌-◌, ◌<◌, ◌≡◌, ◌≤◌, ◌∙◌, ap, arith, get_or, length, sym}
use Rattle.std.proofs.lemmas.List.{length-take}
use Rattle.piece.specs.Packed.{no_piece, section_in}
use Rattle.free_pieces.proofs.GapSteps.{copies_gaps, counting_end, counting_gap, counting_more, counting_start}
use Rattle.free_pieces.proofs.FoundPieces.{read_at}
use Rattle.free_pieces.specs.Free.{free_of}
use Rattle.free_pieces.proofs.Pair.copies.Goals.{After-section}
use Rattle.free_pieces.proofs.Pair.copies.Goals as goal

pub loop-piece-init : goal.loop-piece-init
loop-piece-init c = counting_start c.args.self c.buddy-buddy.result c.requires c.buddy-buddy.ensures

-- the piece that is looked at
read : (c : After-section) → (c.loop-piece.piece-index < c.args.self.others.count)
    × (c.section.result ≡ section_in (get_or c.args.self.others.items c.loop-piece.piece-index no_piece))
read c =
    read_at c.args.self.others.items _ c.args.self.others.count _ _ c.as_slice-piece-items.ensures.words
    c.loop-piece-test.true c.section.ensures

pub gap_before-gap-requires : goal.gap_before-gap-requires
gap_before-gap-requires c =
    let r = read c in
    let g = counting_gap _ _ _ _ _ _ c.loop-piece.invariant _ r.0 r.1 in
    record { addressable = g.0; at_le_first = g.1 }

pub loop-piece-preserved : goal.loop-piece-preserved
loop-piece-preserved c =
    let r = read (goal.at.loop-piece-preserved c).After-section in
    counting_more _ _ _ _ _ _ c.loop-piece.invariant _ r.0 r.1 c.gap_before-gap.result c.gap_before-gap.ensures

pub returns : goal.returns
unfolding free_of
returns c =
    let p = c.args.self in
    let l = c.as_slice-piece-items in
    let n = ap length l.ensures.words ∙ length-take p.others.count p.others.items in
    let all : p.others.count ≤ c.loop-piece.piece-index =
    omega (arith, c.loop-piece-test.false, c.loop-piece.invariant.within, n) in
    ap (λ z. c.loop-piece.n + (z - c.loop-piece.at)) c.end.ensures
    ∙ counting_end _ _ _ _ _ _ c.loop-piece.invariant all p.upper.first
    ∙ sym (ap length (copies_gaps p c.buddy-buddy.result c.buddy-buddy.ensures c.if-buddy-self.false))

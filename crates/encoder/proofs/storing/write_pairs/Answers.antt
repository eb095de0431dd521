-- `encoder::storing::write_pairs` meets its contract: the pairs of the pieces passed stand. Assumes nothing.
use Rattle.layout.proofs.Lists.{each_unmap}
use Rattle.piece.specs.Packed.{no_piece, section_in, seen}
use Rattle.piece_lists.proofs.EachItem.{each_get}
use Rattle.pieces.specs.Pieces.{Low}
use Rattle.encoder.proofs.StoreLists.{list_all, list_more, list_none, list_room, pairs_joined}
use Rattle.encoder.proofs.storing.write_pairs.Goals as goal

pub loop-piece-init : goal.loop-piece-init
loop-piece-init c = list_none (pairs_joined c.args.width) c.args.pieces.now c.args.cat.now c.args.at

pub write_pair-next-requires : goal.write_pair-next-requires
unfolding seen
write_pair-next-requires c =
    let p = c.args.pieces.now in
    let l = c.loop-piece in
    let h = c.loop-piece-test.true in record {
      width = c.requires.width;
      no_higher = rw c.section.ensures
          (each_get {P = λ s. Low (section_in s)} l.piece-index no_piece (each_unmap section_in p c.requires.each) h);
      room = rw c.section.ensures
          (list_room (pairs_joined c.args.width) p no_piece l.piece-index h c.requires.room l.invariant);
    }

pub loop-piece-preserved : goal.loop-piece-preserved
loop-piece-preserved c =
    let l = c.loop-piece in
    list_more (pairs_joined c.args.width) c.args.pieces.now no_piece l.piece-index c.loop-piece-test.true l.invariant
    (rw c.section.ensures at c.write_pair-next.ensures)

pub returns : goal.returns
returns c =
    let l = c.loop-piece in
    list_all (pairs_joined c.args.width) c.args.pieces.now l.piece-index c.loop-piece-test.false l.invariant

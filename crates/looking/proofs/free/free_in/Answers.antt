-- `looking::free::free_in` adds up the lengths of the free pieces. Assumes nothing.
use Rattle.std.proofs.Common.{◌∙◌, ap, arith, subst, sym, take}
use Rattle.piece.proofs.Seen.{seen-take}
use Rattle.layout.specs.Layout.{block_count}
use Rattle.layout.specs.Lists.{Each}
use Rattle.free_pieces.specs.Free.{free_of}
use Rattle.piece_lists.proofs.SeenPlaces.{all-seen}
use Rattle.pieces.proofs.SeenSums.{sum-seen}
use Rattle.pieces.proofs.SoundPieces.{free-low}
use Rattle.pieces.specs.Pieces.{Low}
use Rattle.looking.proofs.FreeSum.{free-blocks, free_most}
use Rattle.looking.proofs.free.free_in.Goals as goal

pub blocks_in-requires-clause-low : goal.blocks_in-requires-clause-low
unfolding free_of
blocks_in-requires-clause-low c =
    let t = c.args.t in
    let f = t.free in
    let e = seen-take f.count f.items in
    all-seen (take f.count f.items) (subst (Each Low) e (free-low t c.requires.sized c.requires.rules))

pub blocks_in-requires-clause-fits : goal.blocks_in-requires-clause-fits
blocks_in-requires-clause-fits c =
    let t = c.args.t in
    let f = t.free in
    let n = sum-seen (take f.count f.items) ∙ ap block_count (sym (seen-take f.count f.items)) in
    omega (arith, n, free-blocks t c.requires, free_most t c.requires)

pub returns : goal.returns
returns c =
    let t = c.args.t in
    let f = t.free in
    let n = sum-seen (take f.count f.items) ∙ ap block_count (sym (seen-take f.count f.items)) in
    record {
      equal = c.blocks_in.ensures ∙ n ∙ free-blocks t c.requires;
      most = omega (arith, c.blocks_in.ensures, n, free-blocks t c.requires, free_most t c.requires);
    }

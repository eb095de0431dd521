-- `Free::as_slice` meets its contract: the first words are the free pieces. Assumes nothing.
use Rattle.std.proofs.Common.{sym}
use Rattle.piece.proofs.Seen.{seen-take}
use Rattle.free_pieces.specs.Free.{free_of}
use Rattle.free_pieces.proofs.Free.as_slice.Goals as goal

pub returns-clause-listed : goal.returns-clause-listed
unfolding free_of
returns-clause-listed c =
    let f = c.args.self.now in
    sym (seen-take f.count f.items)

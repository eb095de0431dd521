-- `Pieces::as_slice` meets its contract: the first words are the pieces of the list. Assumes nothing.
use Rattle.std.proofs.Common.{sym}
use Rattle.piece.proofs.Seen.{seen-take}
use Rattle.piece_lists.specs.Few.{list_of}
use Rattle.piece_lists.proofs.Pieces.as_slice.Goals as goal

pub returns-clause-listed : goal.returns-clause-listed
unfolding list_of
returns-clause-listed c =
    let p = c.args.self.now in
    sym (seen-take p.count p.items)

-- `Free::of` meets its contract: the pieces stand in the first places. Assumes nothing.
use Rattle.std.proofs.Common.{◌≡◌, ◌∙◌, ap, arith, length, refl, sym, take}
use Rattle.std.proofs.lemmas.List.{length-take}
use Rattle.piece.proofs.Seen.{seen-length}
use Rattle.piece.specs.Packed.{seen}
use Rattle.piece_lists.specs.Few.{list_of}
use Rattle.free_pieces.proofs.FoundPieces.{first_places}
use Rattle.free_pieces.specs.Free.{free_of}
use Rattle.free_pieces.proofs.Free.of.Goals as goal

pub returns : goal.returns
unfolding free_of
returns c =
    let f = c.args.list in
    let p = c.as_slice in
    let items = c.in_places-items.result in
    let list : take f.count (seen items) ≡ list_of f =
    first_places f.items items p.result.now f.count p.ensures.words (omega arith) c.in_places-items.ensures.first
    ∙ p.ensures.listed in
    record {
      count = refl;
      list = list;
      exact = sym (ap length list) ∙ omega (arith, length-take f.count (seen items), seen-length items);
    }

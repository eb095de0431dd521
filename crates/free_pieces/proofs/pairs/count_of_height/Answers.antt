-- `free_pieces::pairs::count_of_height` counts no more pieces than there are, so the sum of ones fits. Assumes nothing.
use Rattle.std.proofs.Common.{arith, rules, tests, ◌<◌, ◌^◌, Bool, cond, ℕ}
use Rattle.std.specs.List.{sum_by}
use Rattle.std.proofs.lemmas.Iterator.{YieldsList-from_map, YieldsList-from_slice}
use Rattle.std.proofs.lemmas.Iterator.Consumers.{fits_by_from_yields_list}
use Rattle.std.proofs.lemmas.List.Sums.{count_by-le-length}
use Rattle.layout.specs.Layout.{has_height}
use Rattle.piece.specs.Packed.{section_in}
use Rattle.piece.specs.declared.Piece.{Piece}
use Rattle.free_pieces.proofs.pairs.count_of_height.Goals as goal

pub sum-requires-clause-fits : goal.sum-requires-clause-fits
sum-requires-clause-fits c =
    let p : Piece → Bool = λ x. has_height c.args.h (section_in x) in
    let one : Piece → ℕ = λ x. cond (p x) 1 0 in
    let l = c.args.pieces.now in
    let few : sum_by one l < 2 ^ 64 = omega (arith, count_by-le-length p l) in
    fits_by_from_yields_list one l c.map.result _
    (YieldsList-from_map _ one (YieldsList-from_slice l cc) c.map.ensures.closure (λ x r q k. search (rules, tests)))
    few

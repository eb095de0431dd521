-- `breaks_in` meets its contract: each piece is compared with the one after it. Assumes nothing.
use Rattle.std.proofs.Common.{drop, rules, tests}
use Rattle.std.proofs.lemmas.Iterator.{YieldsList-from_map, YieldsList-from_slice, YieldsList-from_zip}
use Rattle.std.proofs.lemmas.Iterator.Adapters.{YieldsList-from_skip}
use Rattle.std.proofs.lemmas.Iterator.Consumers.{YieldsList-at, fits_by_from_yields_list, sum_by_from_yields_List}
use Rattle.std.specs.List.{zip}
use Rattle.piece_lists.specs.Few.{break_in}
use Rattle.piece_lists.proofs.breaks.breaks_in.Goals as goal

pub sum-requires-clause-fits : goal.sum-requires-clause-fits
sum-requires-clause-fits c =
    let l = c.args.pieces.now in
    fits_by_from_yields_list break_in (zip l (drop 1 l)) c.map.result _
    (YieldsList-from_map _ break_in
    (YieldsList-at c.map.ensures.source
    (YieldsList-from_zip (YieldsList-at c.zip.ensures.first (YieldsList-from_slice l c.iter.ensures.rest))
    (YieldsList-at c.zip.ensures.second
    (YieldsList-from_skip 1 (YieldsList-at c.skip.ensures.source (YieldsList-from_slice l c.iter-2.ensures.rest))
    c.skip.ensures.count)))) c.map.ensures.closure
    (λ x r q k. search (rules, tests))) c.requires.fits

pub returns : goal.returns
returns c =
    let l = c.args.pieces.now in
    sum_by_from_yields_List break_in (zip l (drop 1 l)) c.map.result _ c.sum.ensures.ran
    (YieldsList-from_map _ break_in
    (YieldsList-at c.map.ensures.source
    (YieldsList-from_zip (YieldsList-at c.zip.ensures.first (YieldsList-from_slice l c.iter.ensures.rest))
    (YieldsList-at c.zip.ensures.second
    (YieldsList-from_skip 1 (YieldsList-at c.skip.ensures.source (YieldsList-from_slice l c.iter-2.ensures.rest))
    c.skip.ensures.count)))) c.map.ensures.closure
    (λ x r q k. search (rules, tests)))

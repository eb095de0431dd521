-- `Pieces::breaks` meets its contract: the breaks of few pieces fit a word. Assumes nothing.
use Rattle.std.proofs.Common.{◌∙◌, ap, arith, subst, sym}
use Rattle.std.proofs.lemmas.List.{length-take}
use Rattle.section.specs.Sections.{Addressable}
use Rattle.layout.proofs.Breaks.{breaks_most}
use Rattle.layout.specs.Layout.{breaks_of}
use Rattle.layout.specs.Lists.{Each}
use Rattle.piece.specs.Packed.{seen}
use Rattle.piece_lists.specs.Few.{list_of}
use Rattle.piece_lists.proofs.BreakSteps.{breaks-between}
use Rattle.piece_lists.proofs.SeenPlaces.{all-seen}
use Rattle.piece_lists.proofs.Pieces.breaks.Goals as goal

pub breaks_in-requires-clause-each : goal.breaks_in-requires-clause-each
breaks_in-requires-clause-each c =
    let s = c.as_slice in
    all-seen s.result.now (subst (Each Addressable) (sym s.ensures.listed) c.requires.each)

pub breaks_in-requires-clause-fits : goal.breaks_in-requires-clause-fits
unfolding list_of
breaks_in-requires-clause-fits c =
    let s = c.as_slice in
    let p = c.args.self in
    omega (
      arith,
      breaks-between s.result.now ∙ ap breaks_of s.ensures.listed,
      breaks_most (list_of p),
      length-take p.count (seen p.items),
    )

pub returns : goal.returns
returns c =
    let s = c.as_slice in
    c.breaks_in.ensures ∙ breaks-between s.result.now ∙ ap breaks_of s.ensures.listed

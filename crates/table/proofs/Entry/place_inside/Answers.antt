-- `Entry::place_inside` meets its contract: it searches the words in which the pieces are seen. Assumes nothing.
use Rattle.std.proofs.Common.{◌∙◌, ap, sym, subst}
use Rattle.std.specs.List.{position}
use Rattle.layout.specs.Lists.{Each}
use Rattle.section.specs.Sections.{Addressable}
use Rattle.piece.specs.Packed.{section_in, seen}
use Rattle.table.proofs.MappedPlaces.{all-seen, position-mapped}
use Rattle.table.specs.Moves.{lies_in}
use Rattle.table.proofs.Entry.place_inside.Goals as goal

pub place_within-requires-clause-served : goal.place_within-requires-clause-served
place_within-requires-clause-served c =
    all-seen {P = Addressable} c.as_slice.result.now
    (subst (Each Addressable) (sym c.as_slice.ensures.listed) c.requires.pieces_served)

pub returns : goal.returns
unfolding seen
returns c =
    c.place_within.ensures
    ∙ position-mapped section_in (lies_in c.args.from) c.as_slice.result.now
    ∙ ap (position (lies_in c.args.from)) c.as_slice.ensures.listed

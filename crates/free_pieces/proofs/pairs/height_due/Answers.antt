-- `height_due` meets its contract: it looks through every height, from 0 up. Assumes nothing.
use Rattle.std.proofs.Common.{◌∙◌, refl, rules, sym, tests}
use Rattle.std.specs.List.{count_by}
use Rattle.std.specs.Prelude.{nat_lt}
use Rattle.std.proofs.lemmas.Iterator.{YieldsList-from_range}
use Rattle.std.proofs.lemmas.Iterator.Adapters.{option_map_id}
use Rattle.std.proofs.lemmas.Iterator.Search.{find_from_yields_List}
use Rattle.section.specs.Limits.{height_count}
use Rattle.layout.specs.Layout.{has_height}
use Rattle.piece.specs.Packed.{section_in}
use Rattle.free_pieces.proofs.pairs.height_due.Goals as goal

pub returns : goal.returns
returns c =
    sym (option_map_id c.find.result)
    ∙ find_from_yields_List (λ h. nat_lt 1 (count_by (λ x. has_height h (section_in x)) c.args.pieces.now)) _ _
    c.find.result c.find.ensures.ran (YieldsList-from_range 0 height_count height_count refl refl)
    (λ x b q k. search (rules, tests))

-- `looking::breaks::breaks_in` meets its contract: the refusal of the id, else the breaks of the file. Assumes nothing.
use mathlib.Core.List.{[]}
use native.Mathlib.Omega.{arith}
use borrow.Author.Rules.{rules}
use Rattle.std.proofs.lemmas.Result.{err_from_is_err_and}
use Rattle.answers.specs.Answers.{number_of}
use Rattle.table.specs.Files.{entry_at}
use Rattle.table.specs.Tables.{file_of, layout_of}
use Rattle.looking.proofs.LookJudged.{breaks_found_lem, breaks_refused}
use Rattle.looking.proofs.LookedUp.{looked_count, looked_found, looked_served}
use Rattle.looking.proofs.breaks.breaks_in.Goals as goal

pub returns-in_err-i : goal.returns-in_err-i
returns-in_err-i c =
    let a = number_of c.in_err-i.field-0.0 in
    let p = err_from_is_err_and c.from_residual.result c.from_residual.ensures.1 in
    rw (p.1, p.2) (breaks_refused (layout_of c.args.t) c.args.id a (c.in_err-i.ensures.first []))

pub offset_bounds-t-i : goal.offset_bounds-t-i
offset_bounds-t-i c = search (rules, c.in_ok-i.ensures.place.within, c.requires.sized.files)

pub bounds-t-i : goal.bounds-t-i
bounds-t-i c = omega (arith, c.in_ok-i.ensures.place.within, c.requires.sized.files)

pub breaks-n-requires : goal.breaks-n-requires
breaks-n-requires c =
    let x = c.in_ok-i.ensures.place in
    record {
      count_le_piece_places = looked_count c.args.t c.requires c.args.id c.in_ok-i.i x;
      each = looked_served c.args.t c.requires c.args.id c.in_ok-i.i x;
    }

pub returns : goal.returns
returns c =
    let f = c.in_ok-i.ensures in
    breaks_found_lem (layout_of c.args.t) c.args.id f.least (file_of (entry_at c.args.t c.in_ok-i.i))
    (looked_found c.args.t c.requires c.args.id c.in_ok-i.i f.place)
    c.breaks-n.result c.breaks-n.ensures

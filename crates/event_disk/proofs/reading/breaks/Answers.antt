-- `event_disk::reading::breaks` meets its contract: each return has the reply of the definition. Assumes nothing.
use mathlib.Core.Path.{◌∙◌, refl, sym}
use Rattle.std.proofs.lemmas.Result.{err_from_is_err_and}
use Rattle.answers.specs.Answers.{number_of}
use Rattle.catalogue.specs.Version.{version_of}
use Rattle.table.specs.Tables.{layout_of}
use Rattle.manager.proofs.OnRead.{breaks_on_read, breaks_refused}
use Rattle.event_disk.proofs.WithinLimits.{within_ones}
use Rattle.event_disk.proofs.reading.breaks.Goals as goal

pub returns-in_err-opened : goal.returns-in_err-opened
returns-in_err-opened c =
    let a = c.in_err-opened.field-0.0 in
    let shut = c.in_err-opened.ensures in
    let refused = breaks_refused (version_of c.args.cat.now) c.args.cat.now (number_of a) shut.first c.args.id in
    let answer = sym refused in
    let p = err_from_is_err_and c.from_residual.result c.from_residual.ensures.1 in
    rw (p.1, p.2)
    record {
      answer = answer;
      catalogue = refl;
      limit = within_ones c.args.cat.now c.args.id _ answer;
    }

pub breaks_in-requires : goal.breaks_in-requires
breaks_in-requires c =
    c.in_ok-opened.ensures.entered.opened

pub returns : goal.returns
returns c =
    let entered = c.in_ok-opened.ensures.entered in
    let l = layout_of c.in_ok-opened.opened.table in
    let read = breaks_on_read (version_of c.args.cat.now) c.args.cat.now l entered.bytes entered.reading in
    let answer = c.breaks_in.ensures ∙ sym (read c.args.id) in
    record {
      answer = answer;
      catalogue = refl;
      limit = within_ones c.args.cat.now c.args.id _ answer;
    }

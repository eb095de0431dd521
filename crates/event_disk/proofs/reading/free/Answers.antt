-- `event_disk::reading::free` meets its contract: each return has the reply of the definition. Assumes nothing.
use mathlib.Core.Path.{◌∙◌, ap, refl, sym}
use Rattle.manager.specs.Conditions.{answered}
use Rattle.std.proofs.lemmas.Result.{err_from_is_err_and}
use Rattle.answers.specs.Answers.{number_of}
use Rattle.catalogue.specs.Version.{version_of}
use Rattle.table.specs.Tables.{layout_of}
use Rattle.manager.proofs.OnRead.{free_on_read, free_refused}
use Rattle.event_disk.proofs.reading.free.Goals as goal

pub returns-in_err-opened : goal.returns-in_err-opened
returns-in_err-opened c =
    let a = c.in_err-opened.field-0.0 in
    let shut = c.in_err-opened.ensures in
    let p = err_from_is_err_and c.from_residual.result c.from_residual.ensures.1 in
    rw (p.1, p.2)
    record {
      answer = sym (free_refused (version_of c.args.cat.now) c.args.cat.now (number_of a) shut.first);
      catalogue = refl;
    }

pub free_in-n-requires : goal.free_in-n-requires
free_in-n-requires c = c.in_ok-opened.ensures.entered.opened

pub returns : goal.returns
returns c =
    let entered = c.in_ok-opened.ensures.entered in
    let l = layout_of c.in_ok-opened.opened.table in
    let read = free_on_read (version_of c.args.cat.now) c.args.cat.now l entered.bytes entered.reading in
    record {
      answer = ap answered c.free_in-n.ensures.equal ∙ sym read;
      catalogue = refl;
    }

-- `event_disk::reading::read` meets its contract: each return has the outcome of the definition. Assumes nothing.
use mathlib.Core.Path.{◌∙◌, ap, sym}
use Rattle.std.proofs.lemmas.Result.{err_from_is_err_and}
use Rattle.answers.specs.Answers.{number_of}
use Rattle.catalogue.specs.Version.{version_of}
use Rattle.table.specs.Tables.{layout_of}
use Rattle.manager.specs.Outcomes.{read_outcome}
use Rattle.manager.proofs.OnRead.{read_on_read, read_refused_lem}
use Rattle.manager.proofs.Untouched.{read_keeps}
use Rattle.event_disk.proofs.Entering.{shut_out}
use Rattle.event_disk.proofs.reading.read.Goals as goal

pub returns-in_err-opened : goal.returns-in_err-opened
returns-in_err-opened c =
    let cat = c.args.cat.now in
    let disk = c.args.disk.now in
    let out = c.args.out.now in
    let a = c.in_err-opened.field-0.0 in
    let shut = c.in_err-opened.ensures in
    let e = read_refused_lem (version_of cat) cat (number_of a) shut.first c.args.id c.args.first out disk in
    let full = read_outcome c.args.id c.args.first out cat disk in
    let s = shut_out cat disk out a full e in
    let p = err_from_is_err_and c.from_residual.result c.from_residual.ensures.1 in
    rw (p.1, p.2)
    record {
      answer = s.0;
      catalogue = s.1;
      disk = s.2;
      output = s.3;
    }

pub read_in-requires : goal.read_in-requires
read_in-requires c =
    c.in_ok-opened.ensures.entered.opened

pub returns : goal.returns
returns c =
    let cat = c.args.cat.now in
    let entered = c.in_ok-opened.ensures.entered in
    let l = layout_of c.in_ok-opened.opened.table in
    let on = read_on_read (version_of cat) cat l entered.bytes entered.reading in
    let e = on c.args.id c.args.first c.args.out.now c.args.disk.now in
    let m = c.read_in.ensures in
    let kept = read_keeps c.args.id c.args.first c.args.out.now cat c.args.disk.now in
    let output = m.output cat ∙ sym (ap (λ x. x.output) e) in
    record {
      answer = m.answer cat ∙ sym (ap (λ x. x.reply) e);
      catalogue = sym kept.0;
      disk = sym kept.1;
      output = output;
    }

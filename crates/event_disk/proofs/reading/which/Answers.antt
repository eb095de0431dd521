-- `event_disk::reading::which` meets its contract: each return has the outcome of the definition. Assumes nothing.
use mathlib.Core.List.{[]}
use mathlib.Core.Path.{◌∙◌, ap, sym}
use Rattle.std.proofs.lemmas.Result.{err_from_is_err_and}
use Rattle.answers.specs.Answers.{number_of}
use Rattle.catalogue.specs.Version.{version_of}
use Rattle.table.specs.Tables.{layout_of}
use Rattle.manager.specs.Outcomes.{which_outcome}
use Rattle.manager.proofs.OnRead.{which_on_read, which_refused}
use Rattle.manager.proofs.Untouched.{which_keeps}
use Rattle.event_disk.proofs.Entering.{shut_out}
use Rattle.event_disk.proofs.reading.which.Goals as goal

pub returns-in_err-opened : goal.returns-in_err-opened
returns-in_err-opened c =
    let cat = c.args.cat.now in
    let places = c.args.places.now in
    let a = c.in_err-opened.field-0.0 in
    let shut = c.in_err-opened.ensures in
    let e = which_refused (version_of cat) cat (number_of a) shut.first c.args.n places [] in
    let s = shut_out cat [] places a (which_outcome c.args.n places cat) e in
    let p = err_from_is_err_and c.from_residual.result c.from_residual.ensures.1 in
    rw (p.1, p.2)
    record {
      answer = s.0;
      catalogue = s.1;
      output = s.3;
    }

pub which_in-requires : goal.which_in-requires
which_in-requires c =
    c.in_ok-opened.ensures.entered.opened

pub returns : goal.returns
returns c =
    let cat = c.args.cat.now in
    let entered = c.in_ok-opened.ensures.entered in
    let l = layout_of c.in_ok-opened.opened.table in
    let e = which_on_read (version_of cat) cat l entered.bytes entered.reading c.args.n c.args.places.now [] in
    let m = c.which_in.ensures in
    let kept = which_keeps c.args.n c.args.places.now cat [] in
    record {
      answer = m.answer cat [] ∙ sym (ap (λ x. x.reply) e);
      catalogue = sym kept.0;
      output = m.output cat [] ∙ sym (ap (λ x. x.output) e);
    }

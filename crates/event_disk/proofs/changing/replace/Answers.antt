-- `event_disk::changing::replace` meets its contract: each return has the outcome of the definition. Assumes nothing.
use mathlib.Core.List.{List, []}
use mathlib.Core.Path.{refl}
use Prim.Native.Nat.{ℕ}
use Rattle.std.proofs.lemmas.Result.{err_from_is_err_and}
use Rattle.answers.specs.Answers.{number_of}
use Rattle.catalogue.specs.declared.Version.{Version}
use Rattle.table.specs.Tables.{layout_of}
use Rattle.manager.specs.Conditions.{Outcome}
use Rattle.manager.specs.Outcomes.{replace_outcome}
use Rattle.calls.specs.Changing.{replace_on}
use Rattle.manager.proofs.OnRead.{replace_refused}
use Rattle.manager.specs.Call.{replace}
use Rattle.event_disk.proofs.WithinLimits.{within_carries}
use Rattle.event_disk.proofs.ReplaceOutcome.{replace_on_entered}
use Rattle.event_disk.proofs.Entering.{made, made_none, shut_out, storable}
use Rattle.event_disk.proofs.changing.replace.Goals as goal

pub returns-in_err-opened : goal.returns-in_err-opened
returns-in_err-opened c =
    let cat = c.args.cat.now in
    let disk = c.args.disk.now in
    let a = c.in_err-opened.field-0.0 in
    let shut = c.in_err-opened.ensures in
    let e = replace_refused cat (number_of a) shut.first c.args.id c.args.content.now disk in
    let full = replace_outcome c.args.id c.args.content.now cat disk in
    let s = shut_out cat disk [] a full e in
    let limit = within_carries (replace c.args.id c.args.content.now) cat c.args.id disk _ refl s.0 in
    let p = err_from_is_err_and c.from_residual.result c.from_residual.ensures.1 in
    rw (p.1, p.2)
    record {
      answer = s.0;
      catalogue = s.1;
      disk = s.2;
      content = refl;
      limit = limit;
    }

pub replace_in-requires : goal.replace_in-requires
replace_in-requires c =
    c.in_ok-opened.ensures.entered.opened

pub returns-in_err-changed : goal.returns-in_err-changed
returns-in_err-changed c =
    let cat = c.args.cat.now in
    let disk = c.args.disk.now in
    let entered = c.in_ok-opened.ensures.entered in
    let l = layout_of c.in_ok-opened.opened.table in
    let on = replace_on_entered cat c.in_ok-opened.opened.table entered c.args.id c.args.content.now disk in
    let past : Version → List ℕ → Outcome = λ v z. replace_on v l c.args.id c.args.content.now z disk in
    let full = replace_outcome c.args.id c.args.content.now cat disk in
    let x =
    made_none past cat c.replace_in.new.disk full on c.in_err-changed.field-0.0 c.in_err-changed.ensures in
    let p = err_from_is_err_and c.from_residual-in_err-changed.result c.from_residual-in_err-changed.ensures.1 in
    rw (p.1, p.2)
    record {
      answer = x.0;
      catalogue = x.1;
      disk = x.2;
      content = refl;
      limit = within_carries (replace c.args.id c.args.content.now) cat c.args.id disk _ refl x.0;
    }

pub store_changed-requires : goal.store_changed-requires
store_changed-requires c =
    storable _ c.in_ok-opened.opened c.in_ok-opened.ensures c.in_ok-changed.changed c.in_ok-changed.ensures

pub returns : goal.returns
returns c =
    let cat = c.args.cat.now in
    let disk = c.args.disk.now in
    let entered = c.in_ok-opened.ensures.entered in
    let l = layout_of c.in_ok-opened.opened.table in
    let on = replace_on_entered cat c.in_ok-opened.opened.table entered c.args.id c.args.content.now disk in
    let past : Version → List ℕ → Outcome = λ v z. replace_on v l c.args.id c.args.content.now z disk in
    let full = replace_outcome c.args.id c.args.content.now cat disk in
    let x =
    made past cat c.replace_in.new.disk full on _ c.in_ok-changed.changed c.in_ok-changed.ensures c.store_changed.new.cat
    c.store_changed.ensures.catalogue _ c.store_changed.ensures.answer in
    record {
      answer = x.0;
      catalogue = x.1;
      disk = x.2;
      content = refl;
      limit = within_carries (replace c.args.id c.args.content.now) cat c.args.id disk _ refl x.0;
    }

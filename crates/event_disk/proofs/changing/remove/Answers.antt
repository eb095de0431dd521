-- `event_disk::changing::remove` meets its contract: each return has the outcome of the definition. Assumes nothing.
use mathlib.Core.List.{List, []}
use mathlib.Core.Path.{refl}
use Prim.Native.Nat.{ℕ}
use Rattle.std.proofs.lemmas.Result.{err_from_is_err_and}
use Rattle.answers.specs.Answers.{number_of}
use Rattle.catalogue.specs.Version.{version_of}
use Rattle.catalogue.specs.declared.Version.{Version}
use Rattle.table.specs.Tables.{layout_of}
use Rattle.manager.specs.Conditions.{Outcome}
use Rattle.manager.specs.Outcomes.{remove_outcome}
use Rattle.calls.specs.Changing.{remove_on}
use Rattle.manager.proofs.OnRead.{remove_on_read, remove_refused}
use Rattle.event_disk.proofs.Entering.{made, made_none, shut_out, storable}
use Rattle.event_disk.proofs.WithinLimits.{within_carries}
use Rattle.manager.specs.Call.{remove}
use Rattle.event_disk.proofs.changing.remove.Goals as goal

pub returns-in_err-opened : goal.returns-in_err-opened
returns-in_err-opened c =
    let cat = c.args.cat.now in
    let disk = c.args.disk.now in
    let a = c.in_err-opened.field-0.0 in
    let shut = c.in_err-opened.ensures in
    let e = remove_refused (version_of cat) cat (number_of a) shut.first c.args.id disk in
    let s = shut_out cat disk [] a (remove_outcome c.args.id cat disk) e in
    let answer = s.0 in
    let p = err_from_is_err_and c.from_residual.result c.from_residual.ensures.1 in
    rw (p.1, p.2)
    record {
      answer = answer;
      catalogue = s.1;
      disk = s.2;
      limit = within_carries (remove c.args.id) cat c.args.id disk _ refl answer;
    }

pub remove_in-requires : goal.remove_in-requires
remove_in-requires c =
    c.in_ok-opened.ensures.entered.opened

pub returns-in_err-changed : goal.returns-in_err-changed
returns-in_err-changed c =
    let cat = c.args.cat.now in
    let disk = c.args.disk.now in
    let entered = c.in_ok-opened.ensures.entered in
    let l = layout_of c.in_ok-opened.opened.table in
    let on = remove_on_read (version_of cat) cat l entered.bytes entered.reading c.args.id disk in
    let past : Version → List ℕ → Outcome = λ v z. remove_on v l c.args.id z disk in
    let full = remove_outcome c.args.id cat disk in
    let x =
    made_none past cat c.remove_in.new.disk full on c.in_err-changed.field-0.0 c.in_err-changed.ensures in
    let p = err_from_is_err_and c.from_residual-in_err-changed.result c.from_residual-in_err-changed.ensures.1 in
    rw (p.1, p.2)
    record {
      answer = x.0;
      catalogue = x.1;
      disk = x.2;
      limit = within_carries (remove c.args.id) cat c.args.id disk _ refl x.0;
    }

pub store_changed-requires : goal.store_changed-requires
store_changed-requires c =
    storable _ c.in_ok-opened.opened c.in_ok-opened.ensures c.in_ok-changed.changed c.in_ok-changed.ensures

pub returns : goal.returns
returns c =
    let cat = c.args.cat.now in
    let disk = c.args.disk.now in
    let entered = c.in_ok-opened.ensures.entered in
    let l = layout_of c.in_ok-opened.opened.table in
    let on = remove_on_read (version_of cat) cat l entered.bytes entered.reading c.args.id disk in
    let past : Version → List ℕ → Outcome = λ v z. remove_on v l c.args.id z disk in
    let full = remove_outcome c.args.id cat disk in
    let x =
    made past cat c.remove_in.new.disk full on _ c.in_ok-changed.changed c.in_ok-changed.ensures c.store_changed.new.cat
    c.store_changed.ensures.catalogue _ c.store_changed.ensures.answer in
    record {
      answer = x.0;
      catalogue = x.1;
      disk = x.2;
      limit = within_carries (remove c.args.id) cat c.args.id disk _ refl x.0;
    }

-- `calls::adding::add_file` meets its contract: one law for each refusal, and one for the answer. Assumes nothing.
use mathlib.Core.Path.{ap}
use native.Mathlib.Omega.{arith}
use Rattle.layout.specs.Layout.{is_found}
use Rattle.looking.proofs.LookedUp.{looked_first, looked_found, looked_fresh, opened_rises}
use Rattle.calls.proofs.AddJudged.{answer-add, can_add, refuse-empty, refuse-files, refuse_part, refuse-space}
use Rattle.calls.proofs.AddJudged.{refuse_there}
use Rattle.calls.proofs.adding.add_file.Goals as goal

pub look_up-requires : goal.look_up-requires
look_up-requires c =
    record {
      count_le_most_files = c.requires.opened.sized.files;
      by_rising_id = opened_rises c.args.t c.requires.opened;
    }

pub returns-in-Some : goal.returns-in-Some
returns-in-Some c =
    let p = c.look_up in
    let e = c.in-Some.is in
    let x = looked_first c.args.t c.requires.opened c.args.id p.result p.ensures e in
    (refuse_there c.args.t c.requires.opened c.args.id c.args.content.now c.args.disk.now c.requires.disk_len.0
    (λ z. omega (arith, c.requires.disk_len.1))
    (ap is_found (looked_found c.args.t c.requires.opened c.args.id _ x)))

pub returns-then-content-eq0 : goal.returns-then-content-eq0
returns-then-content-eq0 c =
    let p = c.look_up in
    let e = c.in_default.is in
    (refuse-empty c.args.t c.requires.opened c.args.id c.args.content.now c.args.disk.now c.requires.disk_len.0
    (λ z. omega (arith, c.requires.disk_len.1))
    (looked_fresh c.args.t c.requires.opened c.args.id p.result p.ensures e)
    c.if-content-eq0.true)

pub returns-then-content-ne0 : goal.returns-then-content-ne0
returns-then-content-ne0 c =
    let p = c.look_up in
    let e = c.in_default.is in
    (refuse_part c.args.t c.requires.opened c.args.id c.args.content.now c.args.disk.now c.requires.disk_len.0
    (λ z. omega (arith, c.requires.disk_len.1))
    (looked_fresh c.args.t c.requires.opened c.args.id p.result p.ensures e)
    c.if-content-eq0.false
    c.if-content-ne0.true)

pub returns-then-t-ge-MOST_FILES : goal.returns-then-t-ge-MOST_FILES
returns-then-t-ge-MOST_FILES c =
    let p = c.look_up in
    let e = c.in_default.is in
    (refuse-files c.args.t c.requires.opened c.args.id c.args.content.now c.args.disk.now c.requires.disk_len.0
    (λ z. omega (arith, c.requires.disk_len.1))
    (looked_fresh c.args.t c.requires.opened c.args.id p.result p.ensures e)
    c.if-content-eq0.false
    c.if-content-ne0.false
    (omega (arith, c.if-t-ge-MOST_FILES.true)))

pub returns-then-free-pages : goal.returns-then-free-pages
returns-then-free-pages c =
    let p = c.look_up in
    let e = c.in_default.is in
    let n = c.free_in-free in
    (refuse-space c.args.t c.requires.opened c.args.id c.args.content.now c.args.disk.now c.requires.disk_len.0
    (λ z. omega (arith, c.requires.disk_len.1))
    (looked_fresh c.args.t c.requires.opened c.args.id p.result p.ensures e)
    c.if-content-eq0.false
    c.if-content-ne0.false
    (omega (arith, c.if-t-ge-MOST_FILES.false))
    n.result n.ensures
    (omega (arith, c.if-free-pages.true)))

pub place_file-table-requires : goal.place_file-table-requires
place_file-table-requires c =
    let p = c.look_up in
    let e = c.in_default.is in
    let n = c.free_in-free in
    can_add c.args.t c.requires.opened c.args.id c.args.content.now c.args.disk.now c.requires.disk_len.0
    (λ z. omega (arith, c.requires.disk_len.1))
    (looked_fresh c.args.t c.requires.opened c.args.id p.result p.ensures e)
    c.if-content-eq0.false
    c.if-content-ne0.false
    (omega (arith, c.if-t-ge-MOST_FILES.false))
    n.result n.ensures
    (omega (arith, c.if-free-pages.false))
    (omega (arith, c.ranges.id.fits))

pub returns : goal.returns
returns c =
    let k = c.place_file-table in
    let n = c.free_in-free in
    let can =
    let p = c.look_up in
    let e = c.in_default.is in
    can_add c.args.t c.requires.opened c.args.id c.args.content.now c.args.disk.now c.requires.disk_len.0
    (λ z. omega (arith, c.requires.disk_len.1))
    (looked_fresh c.args.t c.requires.opened c.args.id p.result p.ensures e)
    c.if-content-eq0.false
    c.if-content-ne0.false
    (omega (arith, c.if-t-ge-MOST_FILES.false))
    n.result n.ensures
    (omega (arith, c.if-free-pages.false))
    (omega (arith, c.ranges.id.fits)) in
    answer-add c.args.t c.args.id _ c.args.content.now c.args.disk.now _ k.result can k.ensures

-- `calls::replacing::replace_in` meets its contract: the first conditions, then what `replace_found` makes. Assumes
-- nothing.
use native.Mathlib.Omega.{arith}
use Rattle.std.proofs.lemmas.Result.{err_from_is_err_and}
use Rattle.looking.proofs.LookChecks.{empty-unpaged, part_unpaged, whole_paged}
use Rattle.looking.proofs.LookedUp.{looked_found}
use Rattle.calls.proofs.ReplaceJudged.{refuse-disk, refuse_unfound, refuse-unpaged}
use Rattle.calls.proofs.replacing.replace_in.Goals as goal

pub returns-then-disk-t : goal.returns-then-disk-t
returns-then-disk-t c =
    (refuse-disk c.args.t c.requires c.args.id c.args.content.now c.args.disk.now
    c.if-disk-t.true)

pub returns-in_err-i : goal.returns-in_err-i
returns-in_err-i c =
    let p = err_from_is_err_and c.from_residual.result c.from_residual.ensures.1 in
    rw (p.1, p.2)
    (refuse_unfound c.args.t c.requires c.args.id c.args.content.now c.args.disk.now c.if-disk-t.false
    c.in_err-i.field-0.0 c.in_err-i.ensures)

pub returns-then-content-eq0 : goal.returns-then-content-eq0
returns-then-content-eq0 c =
    let x = c.in_ok-i.ensures.place in
    (refuse-unpaged c.args.t c.requires c.args.id c.args.content.now c.args.disk.now
    c.if-disk-t.false c.in_ok-i.ensures.least _
    (looked_found c.args.t c.requires c.args.id c.in_ok-i.i x)
    (empty-unpaged c.args.content.now c.if-content-eq0.true))

pub returns-then-content-ne0 : goal.returns-then-content-ne0
returns-then-content-ne0 c =
    let x = c.in_ok-i.ensures.place in
    (refuse-unpaged c.args.t c.requires c.args.id c.args.content.now c.args.disk.now
    c.if-disk-t.false c.in_ok-i.ensures.least _
    (looked_found c.args.t c.requires c.args.id c.in_ok-i.i x)
    (part_unpaged c.args.content.now c.if-content-eq0.false c.if-content-ne0.true))

pub replace_found-requires : goal.replace_found-requires
replace_found-requires c =
    record {
      opened = c.requires;
      disk = c.if-disk-t.false;
      least = c.in_ok-i.ensures.least;
      most = omega (arith, c.ranges.id.fits);
      place = c.in_ok-i.ensures.place;
      paged = whole_paged c.args.content.now c.if-content-eq0.false c.if-content-ne0.false;
    }

-- `calls::removing::remove_in` meets its contract: the refusals by their conditions, then the file is taken out.
-- Assumes nothing.
use Rattle.std.proofs.lemmas.Result.{err_from_is_err_and}
use Rattle.calls.proofs.Removals.{remove_can_take, remove_makes, remove_unfound, remove_wrong_disk}
use Rattle.calls.proofs.removing.remove_in.Goals as goal

pub returns-then-disk-t : goal.returns-then-disk-t
returns-then-disk-t c =
    (remove_wrong_disk c.args.t c.requires c.args.id c.args.disk.now (λ e. c.if-disk-t.true e))

pub returns-in_err-i : goal.returns-in_err-i
returns-in_err-i c =
    let p = err_from_is_err_and c.from_residual.result c.from_residual.ensures.1 in
    rw (p.1, p.2)
    (remove_unfound c.args.t c.requires c.args.id c.args.disk.now c.if-disk-t.false
    c.in_err-i.field-0.0 c.in_err-i.ensures)

pub take_out-s-requires : goal.take_out-s-requires
take_out-s-requires c =
    remove_can_take c.args.t c.requires c.args.id c.args.disk.now c.if-disk-t.false c.in_ok-i.i c.in_ok-i.ensures

pub returns : goal.returns
returns c =
    remove_makes c.args.t c.requires c.args.id c.args.disk.now c.if-disk-t.false c.in_ok-i.i c.in_ok-i.ensures _
    c.take_out-s.result c.take_out-s.ensures

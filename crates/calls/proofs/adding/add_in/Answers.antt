-- `calls::adding::add_in` meets its contract: the first two conditions, then what `add_file` makes. Assumes nothing.
use Rattle.calls.proofs.AddJudged.{refuse-disk, refuse-zero}
use Rattle.calls.proofs.adding.add_in.Goals as goal

pub returns-then-disk-t : goal.returns-then-disk-t
returns-then-disk-t c =
    (refuse-disk c.args.t c.requires c.args.id c.args.content.now c.args.disk.now
    c.if-disk-t.true)

pub returns-then-id-eq0 : goal.returns-then-id-eq0
returns-then-id-eq0 c =
    (refuse-zero c.args.t c.requires c.args.id c.args.content.now c.args.disk.now
    c.if-disk-t.false
    c.if-id-eq0.true)

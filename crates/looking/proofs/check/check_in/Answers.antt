-- `looking::check::check_in` meets its contract: a disk of another length is refused. Assumes nothing.
use Rattle.looking.proofs.LookJudged.{check_right, check_wrong}
use Rattle.looking.proofs.check.check_in.Goals as goal

pub returns-then-bytes-t : goal.returns-then-bytes-t
returns-then-bytes-t c = check_wrong c.args.t c.args.bytes c.if-bytes-t.true

pub returns : goal.returns
returns c = check_right c.args.t c.args.bytes c.if-bytes-t.false

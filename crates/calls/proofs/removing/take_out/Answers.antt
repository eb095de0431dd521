-- `calls::removing::take_out` meets its contract: the release, and the merges after it. Assumes nothing.
use Rattle.calls.proofs.TakenOut.{release-room, released_can_settle, taken_out}
use Rattle.calls.proofs.removing.take_out.Goals as goal

pub release-released-requires : goal.release-released-requires
release-released-requires c =
    let p = c.requires in
    record {
      sized = p.opened.sized;
      i_lt_count = (p.there, release-room c.args.t c.args.i c.args.disk.now p);
      i_value = p.first;
    }

pub settle-requires : goal.settle-requires
settle-requires c =
    let r = c.release-released in
    released_can_settle c.args.t c.args.i c.args.disk.now c.requires r.result r.ensures

pub returns : goal.returns
returns c =
    let r = c.release-released in
    let s = c.settle in
    taken_out c.args.t c.args.i c.args.disk.now c.requires r.result r.ensures _ s.result
    s.ensures

-- `encoder::storing::write_pair` meets its contract: first block, then length. Assumes nothing.
use native.Mathlib.Omega.{arith}
use Rattle.catalogue.proofs.Fields.{big_endian-length}
use Rattle.catalogue.proofs.Size.{pair_length}
use Rattle.encoder.proofs.StoreEntry.{pair_written}
use Rattle.encoder.proofs.storing.write_pair.Goals as goal

pub write_field-next-requires-clause-room : goal.write_field-next-requires-clause-room
write_field-next-requires-clause-room c =
    simp big_endian-length (omega (arith, pair_length c.args.width c.args.s, c.requires.room))

pub write_field-requires-clause-room : goal.write_field-requires-clause-room
write_field-requires-clause-room c =
    let w = c.write_field-next.ensures in
    simp big_endian-length
    (omega (
      arith,
      pair_length c.args.width c.args.s,
      c.requires.room,
      w.exact,
      simp big_endian-length at w.next,
    ))

pub returns : goal.returns
returns c =
    let second = c.write_field.ensures in
    let first = c.write_field-next.ensures in
    let n = c.length in
    pair_written _
    c.args.s n.result
    n.ensures.equal first second

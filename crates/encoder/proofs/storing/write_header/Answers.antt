-- `encoder::storing::write_header` meets its contract: version, number of blocks, number of files. Assumes nothing.
use native.Mathlib.Omega.{arith}
use Rattle.catalogue.proofs.Fields.{big_endian-length}
use Rattle.encoder.proofs.StoreTable.{header-length}
use Rattle.encoder.proofs.StoreWritten.{written_more}
use Rattle.encoder.proofs.storing.write_header.Goals as goal

pub write_short-after_version-requires : goal.write_short-after_version-requires
write_short-after_version-requires c =
    simp big_endian-length
    (omega (arith, header-length c.args.version c.args.blocks c.args.count, c.requires.room))

pub write_field-after_blocks-requires-clause-room : goal.write_field-after_blocks-requires-clause-room
write_field-after_blocks-requires-clause-room c =
    let w = c.write_short-after_version.ensures in
    simp big_endian-length
    (omega (
      arith,
      header-length c.args.version c.args.blocks c.args.count,
      c.requires.room,
      w.exact,
      simp big_endian-length at w.next,
    ))

pub write_short-requires : goal.write_short-requires
write_short-requires c =
    let v = c.write_field-after_blocks.ensures in
    let w = c.write_short-after_version.ensures in
    simp big_endian-length
    (omega (
      arith,
      header-length c.args.version c.args.blocks c.args.count,
      c.requires.room,
      w.exact,
      simp big_endian-length at w.next,
      v.exact,
      simp big_endian-length at v.next,
    ))

pub returns : goal.returns
returns c =
    let u = c.write_short in
    let v = c.write_field-after_blocks in
    let w = c.write_short-after_version in
    written_more w.ensures (written_more v.ensures u.ensures)

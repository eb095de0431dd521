-- `encoder::storing::write_entry` meets its contract: id, blocks, sorted pairs. Assumes nothing.
use mathlib.Core.Path.{◌∙◌}
use Rattle.layout.proofs.Lists.{each_sort}
use Rattle.layout.specs.Layout.{by_first, file_blocks}
use Rattle.layout.specs.Lists.{sort_by}
use Rattle.table.specs.Tables.{file_of, pieces_in}
use Rattle.catalogue.specs.Encoding.{big_endian, pairs_bytes}
use Rattle.encoder.proofs.StoreEntry.{entry_parts, entry-room, entry-room-rest}
use Rattle.encoder.proofs.StoreWritten.{room_left, room_right, written_more}
use Rattle.encoder.proofs.storing.write_entry.Goals as goal

pub write_short-after_id-requires : goal.write_short-after_id-requires
write_short-after_id-requires c =
    entry-room c.args.width c.args.e c.args.cat.now c.args.at c.requires.room

pub write_field-after_blocks-requires : goal.write_field-after_blocks-requires
write_field-after_blocks-requires c =
    let e = c.args.e in
    let w = c.write_short-after_id in record {
      width = c.requires.width;
      room = rw c.blocks_of.ensures.equal
          (room_left w.new.cat (big_endian c.args.width (file_blocks (file_of e)))
          (pairs_bytes c.args.width (sort_by by_first (pieces_in e))) w.result
          (entry-room-rest c.args.width e c.requires.room w.ensures));
    }

pub write_pairs-requires : goal.write_pairs-requires
write_pairs-requires c =
    let e = c.args.e in
    let w = c.write_short-after_id.ensures in
    let v = rw c.blocks_of.ensures.equal at c.write_field-after_blocks.ensures in
    let q = c.as_slice.ensures.listed ∙ c.sorted-list.ensures.list in record {
      width = c.requires.width;
      each = rw q (each_sort by_first c.requires.low_entry.low);
      room = rw q
          (room_right (big_endian c.args.width (file_blocks (file_of e)))
          (pairs_bytes c.args.width (sort_by by_first (pieces_in e))) v
          (entry-room-rest c.args.width e c.requires.room w));
    }

pub returns : goal.returns
returns c =
    let q = c.as_slice.ensures.listed ∙ c.sorted-list.ensures.list in
    rw (entry_parts c.args.width c.args.e c.blocks_of.result c.blocks_of.ensures.equal _ q)
    (written_more c.write_short-after_id.ensures
    (written_more c.write_field-after_blocks.ensures c.write_pairs.ensures))

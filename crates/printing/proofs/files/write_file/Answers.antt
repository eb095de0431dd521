-- `write_file` appends the line of id and n, and behind it the pairs by first block. Assumes nothing.
use mathlib.Core.Path.{◌∙◌}
use Rattle.layout.proofs.Lists.{each_sort}
use Rattle.layout.specs.Layout.{by_first}
use Rattle.piece.specs.Packed.{seen}
use Rattle.piece_lists.specs.Few.{list_of}
use Rattle.table.specs.Tables.{file_of}
use Rattle.printing.proofs.FileLines.{file-pairs-room, file-room, file-written}
use Rattle.printing.proofs.files.write_file.Goals as goal

pub write_line-next-requires : goal.write_line-next-requires
write_line-next-requires c =
    let n = c.blocks_of-n in
    let l = c.sorted-list in
    file-room (file_of c.args.e) n.result (list_of l.result) n.ensures.equal l.ensures.list c.requires.room

pub write_pairs-requires : goal.write_pairs-requires
write_pairs-requires c =
    let n = c.blocks_of-n in
    let l = c.as_slice in
    let e = l.ensures.listed ∙ c.sorted-list.ensures.list in record {
      low = rw e (each_sort by_first c.requires.low.low);
      room = file-pairs-room (file_of c.args.e) n.result (seen l.result.now) n.ensures.equal e c.requires.room
          c.write_line-next.ensures;
    }

pub returns : goal.returns
returns c =
    let n = c.blocks_of-n in
    let l = c.as_slice in
    file-written (file_of c.args.e) n.result (seen l.result.now) n.ensures.equal
    (l.ensures.listed ∙ c.sorted-list.ensures.list) c.write_line-next.ensures c.write_pairs.ensures

-- `write_first_line` is the line of the disk's blocks and the free ones: the blocks less those of the files.
-- Assumes nothing.
use native.Mathlib.Omega.{arith}
use lib.ListN.{take}
use Rattle.piece_lists.proofs.EachItem.{each_get}
use Rattle.table.specs.Tables.{files_of}
use Rattle.printing.proofs.FileLines.{files_blocks, free_line}
use Rattle.texts.proofs.Writing.{appends_same, room_same}
use Rattle.printing.proofs.files.write_first_line.Goals as goal

pub blocks_of_files-requires : goal.blocks_of_files-requires
unfolding files_of
blocks_of_files-requires c = record {
  low = λ i e h. each_get i e c.requires.low.each h;
  fits = omega (arith, files_blocks (take c.args.t.count c.args.t.files));
}

pub overflow_sub-free : goal.overflow_sub-free
unfolding files_of
overflow_sub-free c = omega (arith, files_blocks (take c.args.t.count c.args.t.files))

pub write_line-requires : goal.write_line-requires
write_line-requires c =
    room_same (free_line c.args.t c.blocks_of_files.result c.blocks_of_files.ensures) c.requires.room

pub returns : goal.returns
returns c = appends_same (free_line c.args.t c.blocks_of_files.result c.blocks_of_files.ensures) c.write_line.ensures

-- `write_files` appends the lines of each file. The loop's invariant: the lines of the files ahead are left to write.
-- Assumes nothing.
use mathlib.Core.List.{map}
use Prim.Native.Nat.{◌+◌}
use lib.ListN.{drop, get_or}
use Rattle.manager.specs.Printing.{all_file_lines, file_lines}
use Rattle.piece_lists.proofs.EachItem.{each_get}
use Rattle.table.specs.Files.{no_entry}
use Rattle.table.specs.Tables.{file_of}
use Rattle.pieces.specs.Pieces.{LowEntry}
use Rattle.printing.proofs.Rows.{files_ahead, files_behind}
use Rattle.texts.proofs.Writing.{left_end, left_room, left_start, left_step}
use Rattle.printing.proofs.files.write_files.Goals as goal

pub loop-entry-init : goal.loop-entry-init
loop-entry-init c = left_start c.args.at (all_file_lines (map file_of c.args.files.now)) c.args.out.now

pub write_file-next-requires : goal.write_file-next-requires
write_file-next-requires c =
    let l = c.args.files.now in
    let b = c.loop-entry in record {
      low = each_get {P = LowEntry} b.entry-index no_entry c.requires.low c.loop-entry-test.true;
      room = left_room (file_lines (file_of (get_or l b.entry-index no_entry)))
          (all_file_lines (map file_of (drop (b.entry-index + 1) l)))
          (files_ahead l b.entry-index c.loop-entry-test.true) b.invariant c.requires.room;
    }

pub loop-entry-preserved : goal.loop-entry-preserved
loop-entry-preserved c =
    let l = c.args.files.now in
    let b = c.loop-entry in
    left_step (file_lines (file_of (get_or l b.entry-index no_entry)))
    (all_file_lines (map file_of (drop (b.entry-index + 1) l)))
    (files_ahead l b.entry-index c.loop-entry-test.true) b.invariant c.write_file-next.ensures

pub returns : goal.returns
returns c = left_end (files_behind _ _ c.loop-entry-test.false) c.loop-entry.invariant

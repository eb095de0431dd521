-- `print_table` writes the four parts of the text, one behind the other; a sound table gives what each asks.
-- Assumes nothing.
use native.Mathlib.Omega.{arith}
use Rattle.manager.specs.Printing.{layout_text}
use Rattle.table.specs.Tables.{files_of, layout_of}
use Rattle.pieces.proofs.SoundPieces.{files-low, free-low}
use Rattle.printing.proofs.SoundTables.{files-fit, table-room}
use Rattle.printing.proofs.TextRoom.{text_size}
use Rattle.texts.proofs.Writing.{joined, prints}
use Rattle.printing.proofs.print_table.Goals as goal

pub write_first_line-a-requires : goal.write_first_line-a-requires
unfolding layout_of
write_first_line-a-requires c =
    let t = c.args.t in
    let r = table-room t c.requires.places c.requires.sound c.args.out.now c.requires.room in record {
      low = files-low t c.requires.places c.requires.sound;
      fit = files-fit t c.requires.places c.requires.sound;
      room = record { fits = omega (arith, text_size (layout_of t)) };
    }

pub write_files-b-requires : goal.write_files-b-requires
unfolding files_of layout_of
write_files-b-requires c =
    let t = c.args.t in
    let r = table-room t c.requires.places c.requires.sound c.args.out.now c.requires.room in record {
      low = (files-low t c.requires.places c.requires.sound).each;
      room = record { fits = omega (arith, text_size (layout_of t)) };
    }

pub write_bytes-c-requires : goal.write_bytes-c-requires
unfolding files_of layout_of
write_bytes-c-requires c =
    let t = c.args.t in
    let r = table-room t c.requires.places c.requires.sound c.args.out.now c.requires.room in
    record { fits = omega (arith, text_size (layout_of t)) }

pub write_pairs-requires : goal.write_pairs-requires
unfolding files_of layout_of
write_pairs-requires c =
    let t = c.args.t in
    let r = table-room t c.requires.places c.requires.sound c.args.out.now c.requires.room in record {
      low = rw c.as_slice.ensures.listed (free-low t c.requires.places c.requires.sound);
      room = record { fits = rw c.as_slice.ensures.listed (omega (arith, text_size (layout_of t))) };
    }

pub returns : goal.returns
unfolding files_of layout_of layout_text
returns c =
    let t = c.args.t in
    prints
    (joined c.write_first_line-a.ensures
    (joined c.write_files-b.ensures
    (joined c.write_bytes-c.ensures (rw c.as_slice.ensures.listed at c.write_pairs.ensures))))
    (table-room t c.requires.places c.requires.sound c.args.out.now c.requires.room)

-- `encoder::storing::write_entries` meets its contract: the entries of the files passed stand. Assumes nothing.
use Rattle.piece_lists.proofs.EachItem.{each_get}
use Rattle.pieces.specs.Pieces.{LowEntry}
use Rattle.table.specs.Files.{no_entry}
use Rattle.encoder.proofs.StoreLists.{entries_joined, list_all, list_more, list_none, list_room}
use Rattle.encoder.proofs.storing.write_entries.Goals as goal

pub loop-entry-init : goal.loop-entry-init
loop-entry-init c = list_none (entries_joined c.args.width) c.args.files.now c.args.cat.now c.args.at

pub write_entry-next-requires : goal.write_entry-next-requires
write_entry-next-requires c =
    let p = c.args.files.now in
    let l = c.loop-entry in
    let h = c.loop-entry-test.true in record {
      width = c.requires.width;
      low_entry = each_get {P = LowEntry} l.entry-index no_entry c.requires.each h;
      room = list_room (entries_joined c.args.width) p no_entry l.entry-index h c.requires.room l.invariant;
    }

pub loop-entry-preserved : goal.loop-entry-preserved
loop-entry-preserved c =
    let l = c.loop-entry in
    list_more (entries_joined c.args.width) c.args.files.now no_entry l.entry-index c.loop-entry-test.true l.invariant
    c.write_entry-next.ensures

pub returns : goal.returns
returns c =
    let l = c.loop-entry in
    list_all (entries_joined c.args.width) c.args.files.now l.entry-index c.loop-entry-test.false l.invariant

-- `encoder::storing::store_layout` meets its contract: the header, the entries, the free pairs, and zero bytes.
-- Assumes nothing.
use mathlib.Core.Path.{sym}
use native.Mathlib.Omega.{arith}
use lib.ListN.{length-map}
use Rattle.catalogue.proofs.Roomy.{served}
use Rattle.encoder.specs.Store.{layout_from}
use Rattle.encoder.proofs.StoreTable.{end-room, files-room, free-low, free-room, header-room, stored}
use Rattle.table.specs.Tables.{file_of}
use Rattle.encoder.proofs.storing.store_layout.Goals as goal

pub overflow_cast-files : goal.overflow_cast-files
overflow_cast-files c = omega (arith, c.requires.sound.most_files, length-map c.args.files.now file_of)

pub write_header-after_header-requires : goal.write_header-after_header-requires
write_header-after_header-requires c =
    let y = layout_from c.args.blocks c.args.files.now c.args.free.now in
    let n = sym (length-map c.args.files.now file_of) in
    let known = c.requires.one_of in record {
      width = (served known.0).width;
      room = header-room c.args.version known.0 y _ n c.requires.sound c.args.cat.now known.1;
    }

pub write_entries-after_files-requires : goal.write_entries-after_files-requires
write_entries-after_files-requires c =
    let y = layout_from c.args.blocks c.args.files.now c.args.free.now in
    let n = sym (length-map c.args.files.now file_of) in
    let known = c.requires.one_of in
    let h = c.write_header-after_header in record {
      width = (served known.0).width;
      each = c.requires.each;
      room = files-room c.args.version known.0 y _ n c.requires.sound c.args.cat.now known.1 _ _ h.ensures;
    }

pub write_pairs-end-requires : goal.write_pairs-end-requires
write_pairs-end-requires c =
    let y = layout_from c.args.blocks c.args.files.now c.args.free.now in
    let n = sym (length-map c.args.files.now file_of) in
    let known = c.requires.one_of in
    let z = served known.0 in
    let h = c.write_header-after_header in
    let f = c.write_entries-after_files in record {
      width = z.width;
      each = free-low c.args.version.heights z.most_heights y c.requires.sound;
      room = free-room c.args.version known.0 y _ n c.requires.sound c.args.cat.now known.1 _ _ h.ensures _ _
          f.ensures;
    }

pub clear-requires : goal.clear-requires
clear-requires c =
    let y = layout_from c.args.blocks c.args.files.now c.args.free.now in
    let n = sym (length-map c.args.files.now file_of) in
    let known = c.requires.one_of in
    end-room c.args.version known.0 y _ n c.requires.sound c.args.cat.now known.1 _ _
    c.write_header-after_header.ensures _ _ c.write_entries-after_files.ensures _ _ c.write_pairs-end.ensures

pub returns : goal.returns
returns c =
    let y = layout_from c.args.blocks c.args.files.now c.args.free.now in
    let n = sym (length-map c.args.files.now file_of) in
    let known = c.requires.one_of in
    stored c.args.version known.0 y _ n c.requires.sound c.args.cat.now known.1 _ _
    c.write_header-after_header.ensures _ _ c.write_entries-after_files.ensures _ _ c.write_pairs-end.ensures _
    c.clear.ensures

-- `encoder::storing::write_field` meets its contract: the last bytes of a number are those of the field. Assumes
-- nothing.
use mathlib.Core.Path.{subst, sym}
use Rattle.catalogue.specs.Encoding.{big_endian}
use Rattle.encoder.specs.Store.{Room, Written}
use Rattle.encoder.proofs.StoreWritten.{field-bytes, room_same, written_same}
use Rattle.encoder.proofs.storing.write_field.Goals as goal

pub write_short-requires : goal.write_short-requires
write_short-requires c =
    subst (λ w. Room c.args.cat.now c.args.at (big_endian w c.args.value)) c.if-width-eq-SHORT_FIELD.true
    c.requires.room

pub returns-then-width-eq-SHORT_FIELD : goal.returns-then-width-eq-SHORT_FIELD
returns-then-width-eq-SHORT_FIELD c =
    let w = c.write_short in
    subst (λ k. Written c.args.cat.now c.args.at (big_endian k c.args.value) w.new.cat w.result)
    (sym c.if-width-eq-SHORT_FIELD.true) w.ensures

pub write_bytes-requires : goal.write_bytes-requires
write_bytes-requires c =
    rw c.to_be_bytes-bytes.ensures
    (room_same c.args.cat.now c.args.at (field-bytes c.args.width c.args.value c.requires.width) c.requires.room)

pub returns : goal.returns
returns c =
    written_same (field-bytes c.args.width c.args.value c.requires.width)
    (rw c.to_be_bytes-bytes.ensures at c.write_bytes.ensures)

-- `encoder::storing::write_short` meets its contract: the two bytes are those of the field. Assumes nothing.
use mathlib.Core.Path.{◌∙◌}
use Rattle.encoder.proofs.StoreWritten.{room_same, short-bytes, written_same}
use Rattle.encoder.proofs.storing.write_short.Goals as goal

pub write_bytes-requires : goal.write_bytes-requires
write_bytes-requires c =
    room_same c.args.cat.now c.args.at (c.to_be_bytes.ensures ∙ short-bytes c.args.value) c.requires

pub returns : goal.returns
returns c = written_same (c.to_be_bytes.ensures ∙ short-bytes c.args.value) c.write_bytes.ensures

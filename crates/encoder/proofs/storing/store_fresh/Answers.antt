-- `encoder::storing::store_fresh` meets its contract: the layout has no file. Assumes nothing.
use Rattle.layout.specs.Lists.{done}
use Rattle.encoder.proofs.storing.store_fresh.Goals as goal

pub store_layout-requires : goal.store_layout-requires
store_layout-requires c = record {
  one_of = c.requires.one_of;
  each = done;
  sound = rw c.as_slice.ensures.listed c.requires.sound;
}

pub returns : goal.returns
returns c = rw c.as_slice.ensures.listed at c.store_layout.ensures

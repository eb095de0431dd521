-- `encoder::storing::store` meets its contract: the layout is that of the table. Assumes nothing.
use Rattle.catalogue.proofs.Roomy.{served}
use Rattle.catalogue.specs.Version.{OneOf, versions}
use Rattle.catalogue.specs.declared.Version.{Version}
use Rattle.layout.proofs.SoundHeights.{sound_higher}
use Rattle.layout.specs.Layout.{Layout}
use Rattle.layout.specs.Sound.{Sound}
use Rattle.pieces.proofs.SoundPieces.{files-low}
use Rattle.section.specs.Limits.{height_count}
use Rattle.encoder.proofs.StoreTable.{table_layout}
use Rattle.encoder.proofs.storing.store.Goals as goal

-- a layout that is sound in a version is sound for all heights
wide : {v : Version} {y : Layout} → OneOf v versions → Sound v.heights y → Sound height_count y
wide {v} {y} known s = sound_higher v.heights height_count y (served known).most_heights s

pub store_layout-requires : goal.store_layout-requires
store_layout-requires c = record {
  one_of = c.requires.one_of;
  each = (files-low c.args.t c.requires.sized (wide c.requires.one_of.0 c.requires.sound)).each;
  sound = rw (table_layout c.args.t _ c.as_slice.ensures.listed) c.requires.sound;
}

pub returns : goal.returns
returns c = rw (table_layout c.args.t _ c.as_slice.ensures.listed) at c.store_layout.ensures

-- `event_disk::catalogues::store_changed` meets its contract. Assumes nothing.
use mathlib.Core.Path.{◌∙◌, ap, refl, subst, sym}
use Rattle.catalogue.proofs.Roomy.{version_of-one}
use Rattle.catalogue.specs.Encoding.{encode}
use Rattle.catalogue.specs.Version.{OneOf, versions}
use Rattle.catalogue.specs.declared.Version.{Version}
use Rattle.layout.specs.Sound.{Sound}
use Rattle.table.specs.Tables.{layout_of}
use Rattle.event_disk.proofs.catalogues.store_changed.Goals as goal

pub store-requires : goal.store-requires
store-requires c =
    let back = sym c.requires.version in record {
      one_of = (
        subst (λ v. OneOf v versions) back (version_of-one _),
        c.requires.bytes ∙ ap (λ (v : Version). v.bytes) back,
      );
      sized = c.requires.sized;
      sound = subst (λ (v : Version). Sound v.heights (layout_of c.args.changed.table)) back c.requires.rules;
    }

pub returns : goal.returns
returns c = record {
  answer = refl;
  catalogue = c.store.ensures ∙ ap (λ v. encode v (layout_of c.args.changed.table)) c.requires.version;
}

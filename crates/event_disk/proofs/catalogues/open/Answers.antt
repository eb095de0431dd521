-- `event_disk::catalogues::open` meets its contract. Assumes nothing.
use mathlib.Core.Path.{subst, sym}
use Rattle.catalogue.proofs.Roomy.{served, version_of-one}
use Rattle.catalogue.specs.Version.{Served}
use Rattle.event_disk.proofs.Entering.{opens_loaded, shut-length, shut-unsound}
use Rattle.event_disk.proofs.catalogues.open.Goals as goal

pub returns-then-cat-version : goal.returns-then-cat-version
returns-then-cat-version c = shut-length c.args.cat.now _ c.of_length-version.ensures c.if-cat-version.true

pub load-requires : goal.load-requires
load-requires c =
    (subst Served (sym c.of_length-version.ensures) (served (version_of-one _)), c.if-cat-version.false)

pub returns-in_default : goal.returns-in_default
returns-in_default c =
    shut-unsound c.args.cat.now _ c.of_length-version.ensures c.if-cat-version.false c.in_default.ensures.reading

pub returns : goal.returns
returns c =
    opens_loaded c.args.cat.now _ c.of_length-version.ensures c.if-cat-version.false c.in-Some.table
    c.in-Some.ensures.ready.exact c.in-Some.ensures.reading

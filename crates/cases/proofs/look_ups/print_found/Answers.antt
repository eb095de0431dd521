-- `cases::look_ups::print_found` looks up in the table of a sound catalogue alone. Assumes nothing.
use Rattle.std.proofs.Common.{subst, sym}
use Rattle.catalogue.proofs.Roomy.{served, version_of-one}
use Rattle.catalogue.specs.Version.{Served}
use Rattle.event_disk.proofs.Entering.{opens_loaded}
use Rattle.cases.proofs.look_ups.print_found.Goals as goal

pub load-requires : goal.load-requires
load-requires g c = (subst Served (sym c.of_length-version.ensures) (served (version_of-one _)), c.if-cat-version.false)

pub print_looked_up-requires : goal.print_looked_up-requires
print_looked_up-requires g c =
    (opens_loaded c.args.cat.now _ c.of_length-version.ensures c.if-cat-version.false c.in-Some.table
    c.in-Some.ensures.ready.exact c.in-Some.ensures.reading).entered.opened

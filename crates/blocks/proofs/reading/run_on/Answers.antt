-- `run_on` meets its contract: what is left of the run, or the run that is found. Assumes nothing.
use mathlib.Core.Path.{subst}
use Rattle.blocks.proofs.RunSteps.{run_more}
use Rattle.blocks.specs.Runs.{Follows}
use Rattle.layout.specs.Layout.{blocks_of}
use Rattle.table.specs.Tables.{pieces_in}
use Rattle.blocks.proofs.reading.run_on.Goals as goal

pub returns-in-Some : goal.returns-in-Some
returns-in-Some c =
    let l = blocks_of (pieces_in c.args.e) in
    run_more l c.args.page c.in-Some.run' (subst (Follows l c.args.page) c.in-Some.is c.requires.follows)
    c.if-run-gt1.true

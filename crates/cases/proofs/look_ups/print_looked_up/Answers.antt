-- `cases::look_ups::print_looked_up` looks up in a sound table. Assumes nothing.
use Rattle.looking.proofs.LookedUp.{opened_rises}
use Rattle.cases.proofs.look_ups.print_looked_up.Goals as goal

pub look_up-looked-requires-clause-by_rising_id : goal.look_up-looked-requires-clause-by_rising_id
look_up-looked-requires-clause-by_rising_id g c = opened_rises c.args.t c.requires

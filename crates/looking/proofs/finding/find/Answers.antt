-- `looking::finding::find` meets its contract: the refusal of the id 0, that of an id which no file has, or the place of
-- the file. Assumes nothing.
use native.Mathlib.Omega.{arith}
use Rattle.table.specs.Tables.{layout_of}
use Rattle.looking.proofs.LookChecks.{id_missing_lem, id-zero}
use Rattle.looking.proofs.LookedUp.{looked_first, looked_missing, opened_rises}
use Rattle.looking.proofs.finding.find.Goals as goal

pub returns-then-id-eq0 : goal.returns-then-id-eq0
returns-then-id-eq0 c = record { first = λ cs. id-zero (layout_of c.args.t) c.args.id cs c.if-id-eq0.true }

pub look_up-requires : goal.look_up-requires
look_up-requires c = record {
  count_le_most_files = c.requires.sized.files;
  by_rising_id = opened_rises c.args.t c.requires;
}

pub returns-in_default : goal.returns-in_default
returns-in_default c =
    let none =
    looked_missing c.args.t c.requires c.args.id c.look_up.result c.look_up.ensures c.in_default.is in
    record {
      first = λ cs. id_missing_lem (layout_of c.args.t) c.args.id cs (omega (arith, c.if-id-eq0.false)) none;
    }

pub returns : goal.returns
returns c = record {
  least = omega (arith, c.if-id-eq0.false);
  place = looked_first c.args.t c.requires c.args.id c.look_up.result c.look_up.ensures c.in-Some.is;
}

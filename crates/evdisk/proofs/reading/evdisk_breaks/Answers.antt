-- `evdisk::reading::evdisk_breaks` meets its contract: the call's outcome, its answer a number. Assumes nothing.
use mathlib.Core.List.{[]}
use mathlib.Core.Path.{◌∙◌, ap, refl, sym}
use Rattle.answers.specs.Answers.{reply_of}
use Rattle.evdisk.specs.Codes.{code_of}
use Rattle.evdisk.proofs.Within.{breaks_never_fits, code_within_ones}
use Rattle.evdisk.proofs.reading.evdisk_breaks.Goals as goal

pub returns : goal.returns
returns c =
    let e = c.breaks-a.ensures in
    let code = c.code.ensures.signed ∙ c.code.ensures.value in
    let number = code ∙ ap code_of e.answer in
    let within = code_within_ones c.args.cat.now c.args.id (reply_of c.breaks-a.result) _
    (λ q. breaks_never_fits c.args.id c.args.cat.now [] (sym e.answer ∙ q)) code e.limit in
    record {
      answer = number;
      catalogue = refl;
      limit = within;
      listed = λ disk. record { answer = number; catalogue = refl; disk = refl; output = refl };
    }

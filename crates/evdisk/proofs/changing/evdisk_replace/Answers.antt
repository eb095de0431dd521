-- `evdisk::changing::evdisk_replace` meets its contract: the call's outcome, its answer a number. Assumes nothing.
use mathlib.Core.Path.{◌∙◌, ap, refl, sym}
use Rattle.answers.specs.Answers.{reply_of}
use Rattle.manager.proofs.Untouched.{replace_no_output}
use Rattle.manager.specs.Call.{replace}
use Rattle.evdisk.specs.Codes.{code_of}
use Rattle.evdisk.proofs.Promising.{as_promised}
use Rattle.evdisk.proofs.Within.{code_within, strikes_never_fits}
use Rattle.evdisk.proofs.changing.evdisk_replace.Goals as goal

pub returns : goal.returns
returns c =
    let e = c.replace-a.ensures in
    let number = c.code.ensures.signed ∙ c.code.ensures.value in
    let within = code_within c.args.cat.now c.args.id (reply_of c.replace-a.result) _
    (λ q. strikes_never_fits c.args.id (replace c.args.id c.args.content.now) c.args.cat.now c.args.disk.now refl
    (sym e.answer ∙ q)) number e.limit in
    let answer = number ∙ ap code_of e.answer in
    let silent = replace_no_output c.args.id c.args.content.now c.args.cat.now c.args.disk.now in
    let promised = as_promised _ _ _ _ answer e.catalogue e.disk silent in
    record {
      answer = answer;
      catalogue = e.catalogue;
      disk = e.disk;
      content = refl;
      limit = within;
      listed = promised;
    }

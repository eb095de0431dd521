-- `evdisk::reading::evdisk_which` meets its contract: the call's outcome, its answer a number. Assumes nothing.
use mathlib.Core.Path.{◌∙◌, ap, sym}
use Rattle.manager.proofs.Untouched.{which-without-disk}
use Rattle.manager.specs.Conditions.{Outcome}
use Rattle.evdisk.specs.Codes.{code_of}
use Rattle.evdisk.proofs.reading.evdisk_which.Goals as goal

pub returns : goal.returns
returns c =
    let e = c.which-a.ensures in
    let number = c.code.ensures.signed ∙ (c.code.ensures.value ∙ ap code_of e.answer) in
    record {
      answer = number;
      catalogue = e.catalogue;
      output = e.output;
      listed = λ disk.
          (let w = which-without-disk c.args.n c.args.places.now c.args.cat.now disk in
          record {
            answer = number ∙ sym (ap (λ (x : Outcome). code_of x.reply) w);
            catalogue = sym (ap (λ (x : Outcome). x.catalogue) w);
            disk = sym (ap (λ (x : Outcome). x.disk) w);
            output = e.output ∙ sym (ap (λ (x : Outcome). x.output) w);
          });
    }

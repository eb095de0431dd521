-- `evdisk::reading::evdisk_free` meets its contract: the outcome of the call, its answer as a number. Assumes nothing.
use mathlib.Core.Path.{◌∙◌, ap, refl}
use Rattle.evdisk.specs.Codes.{code_of}
use Rattle.evdisk.proofs.reading.evdisk_free.Goals as goal

pub returns : goal.returns
returns c =
    let number = c.code.ensures.signed ∙ (c.code.ensures.value ∙ ap code_of c.free-a.ensures.answer) in
    record {
      answer = number;
      catalogue = refl;
      listed = λ disk. record { answer = number; catalogue = refl; disk = refl; output = refl };
    }

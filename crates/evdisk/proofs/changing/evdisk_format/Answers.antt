-- `evdisk::changing::evdisk_format` meets its contract: the call's outcome, its answer a number. Assumes nothing.
use mathlib.Core.Path.{◌∙◌, ap}
use Rattle.manager.proofs.Untouched.{format_no_output}
use Rattle.evdisk.specs.Codes.{code_of}
use Rattle.evdisk.proofs.Promising.{as_promised}
use Rattle.evdisk.proofs.changing.evdisk_format.Goals as goal

pub returns : goal.returns
returns c =
    let e = c.format-a.ensures in
    let number = c.code.ensures.signed ∙ (c.code.ensures.value ∙ ap code_of e.answer) in
    let silent = format_no_output c.args.cat.now c.args.disk.now in
    let promised = as_promised _ _ _ _ number e.catalogue e.disk silent in
    record {
      answer = number;
      catalogue = e.catalogue;
      disk = e.disk;
      listed = promised;
    }

-- `evdisk::changing::evdisk_add` meets its contract: the outcome of the call, its answer as a number. Assumes nothing.
use mathlib.Core.Path.{◌∙◌, ap, refl}
use Rattle.manager.proofs.Untouched.{add_no_output}
use Rattle.evdisk.specs.Codes.{code_of}
use Rattle.evdisk.proofs.Promising.{as_promised}
use Rattle.evdisk.proofs.changing.evdisk_add.Goals as goal

pub returns : goal.returns
returns c =
    let e = c.add-a.ensures in
    let number = c.code.ensures.signed ∙ (c.code.ensures.value ∙ ap code_of e.answer) in
    let silent = add_no_output c.args.id c.args.content.now c.args.cat.now c.args.disk.now in
    let promised = as_promised _ _ _ _ number e.catalogue e.disk silent in
    record {
      answer = number;
      catalogue = e.catalogue;
      disk = e.disk;
      content = refl;
      listed = promised;
    }

-- `evdisk::reading::evdisk_read` meets its contract: the outcome of the call, its answer as a number. Assumes nothing.
use mathlib.Core.Path.{◌∙◌, ap}
use Rattle.evdisk.specs.Codes.{code_of}
use Rattle.evdisk.proofs.reading.evdisk_read.Goals as goal

pub returns : goal.returns
returns c =
    let e = c.read-a.ensures in
    let number = c.code.ensures.signed ∙ (c.code.ensures.value ∙ ap code_of e.answer) in
    record {
      answer = number;
      catalogue = e.catalogue;
      disk = e.disk;
      output = e.output;
      listed = record {
        answer = number;
        catalogue = e.catalogue;
        disk = e.disk;
        output = e.output;
      };
    }

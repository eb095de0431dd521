-- `print_read` writes the text for the whole input: no more of it tells anything. Assumes nothing.
use Rattle.std.proofs.Common.{rules}
use Rattle.print_catalogue.proofs.ReadText.{on_ok, written_for_all}
use Rattle.print_catalogue.proofs.print_read.Goals as goal

pub returns : goal.returns
returns g c =
    let read = c.in_ok-n.ensures in
    let text = c.print_input-m.ensures in
    on_ok c.write_all.result
    (written_for_all _ c.in_ok-n.n read.within (search rules) _ _ _ _ _ read.bytes read.end text.bytes)
    c.write_all.ensures.bytes

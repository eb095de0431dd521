-- `first_letter` meets its contract: the byte stands in the first block of the first piece. Assumes nothing.
use mathlib.Core.Path.{◌∙◌, ap}
use native.Mathlib.Omega.{arith}
use Rattle.blocks.proofs.DiskLetter.{letter_is, letter_on_disk}
use Rattle.blocks.proofs.DiskPieces.{some_piece}
use Rattle.layout.specs.Layout.{block_count}
use Rattle.manager.specs.Disk.{pages_on}
use Rattle.quality.specs.Letters.{first_letter}
use Rattle.blocks.proofs.reading.first_letter.Goals as goal

pub bounds-as_slice-0 : goal.bounds-as_slice-0
bounds-as_slice-0 c = some_piece _ (omega (arith, c.requires.bound, ap block_count c.as_slice.ensures.listed))

pub bounds-disk-start : goal.bounds-disk-start
bounds-disk-start c =
    let listed = c.as_slice.ensures.listed in
    letter_on_disk _ _ (omega (arith, c.requires.bound, ap block_count listed)) _ c.first.ensures _ listed
    c.requires.entry_fits

pub returns : goal.returns
returns c =
    let listed = c.as_slice.ensures.listed in
    letter_is _ _ (omega (arith, c.requires.bound, ap block_count listed)) _ c.first.ensures
    ∙ ap (λ l. first_letter (pages_on c.args.disk.now l)) listed

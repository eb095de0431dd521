-- `decoder::tables::read_table` meets its contract: the layout of the definition, or unsound bytes. Assumes nothing.
use native.Mathlib.Omega.{arith}
use Rattle.decoder.proofs.Whole.{header_of, large-header, many_files, wrong_version}
use Rattle.decoder.proofs.tables.read_table.Goals as goal

pub returns-then-number-version : goal.returns-then-number-version
returns-then-number-version c =
    wrong_version c.args.version _ _ c.read_field-number.ensures c.if-number-version.true

pub returns-then-count-gt-MOST_FILES : goal.returns-then-count-gt-MOST_FILES
returns-then-count-gt-MOST_FILES c =
    many_files c.args.version _ _ _ _ c.read_field-number.ensures
    c.read_field-blocks.ensures
    c.read_field-count.ensures c.if-count-gt-MOST_FILES.true

pub returns-then-greatest_blocks-blocks : goal.returns-then-greatest_blocks-blocks
returns-then-greatest_blocks-blocks c =
    large-header c.args.version _ _ _ _ c.read_field-number.ensures
    c.read_field-blocks.ensures c.read_field-count.ensures
    c.if-number-version.false c.if-count-gt-MOST_FILES.false
    (omega (arith, c.greatest_blocks.ensures.answer, c.if-greatest_blocks-blocks.true))

pub read_body-requires : goal.read_body-requires
read_body-requires c =
    let n = c.greatest_blocks.ensures in (
      c.requires.0,
      c.requires.1,
      header_of c.args.version _ _ _ _ c.read_field-number.ensures
          c.read_field-blocks.ensures c.read_field-count.ensures
          c.if-number-version.false c.if-count-gt-MOST_FILES.false
          (omega (arith, n.answer, c.if-greatest_blocks-blocks.false))
          (omega (arith, n.most, c.if-greatest_blocks-blocks.false)),
    )

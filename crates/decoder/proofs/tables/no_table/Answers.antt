-- `decoder::tables::no_table` meets its contract: the empty table is within its arrays. Assumes nothing.
use mathlib.Core.Path.{refl, ap, ◌∙◌, sym}
use native.Mathlib.Omega.{arith}
use lib.ListN.{length}
use Rattle.section.specs.Limits.{most_files}
use Rattle.piece_lists.proofs.EachItem.{each_replicate}
use Rattle.table.specs.Tables.{files_of}
use Rattle.decoder.proofs.tables.no_table.Goals as goal

pub returns : goal.returns
unfolding files_of
returns c =
    let none = c.none.ensures in (
      record {
        sized = record {
          files = omega arith;
          free = omega (arith, none.count);
          each = each_replicate most_files c.no_entry.result (omega (arith, c.no_entry.ensures.1));
        };
        array = refl;
        files = refl;
        free = ap length none.list ∙ sym none.count;
      },
      none.count,
    )

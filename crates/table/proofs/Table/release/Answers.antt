-- `table::Table::release` meets its contract: the files behind the one at place i move down by a place. Assumes
-- nothing.
use Rattle.std.proofs.Common.{arith, ◌-◌, ◌+◌, ◌≡◌, ◌≤◌, ◌∙◌, ap, length, refl, subst, sym}
use Rattle.std.proofs.lemmas.List.{length-drop}
use borrow.Author.Rules.{rules}
use Rattle.section.specs.Limits.{most_files}
use Rattle.layout.specs.Lists.{Each}
use Rattle.piece_lists.proofs.Arrays.{length_of_mapped}
use Rattle.piece_lists.proofs.EachItem.{each_get}
use Rattle.piece_lists.proofs.ItemsMoved.{taken_out}
use Rattle.table.proofs.EachKept.{each_drop, each_paste}
use Rattle.table.proofs.Released.{layout_released}
use Rattle.table.specs.Files.{no_entry}
use Rattle.table.specs.Tables.{InPlaces}
use Rattle.table.proofs.Table.release.Goals as goal

pub free_with-requires : goal.free_with-requires
free_with-requires c =
    let e : length c.args.self.files ≡ most_files = search (rules, length_of_mapped) in
    let q = each_get {P = InPlaces} c.args.i no_entry c.requires.sized.each (omega (arith, c.requires.sized.files)) in
    (q, omega (arith, q, c.requires.i_lt_count))

pub returns : goal.returns
returns c =
    let t = c.args.self in
    let i = c.args.i in
    let f = c.free_with.ensures in
    let long : length t.files ≡ most_files = search (rules, length_of_mapped) in
    let most : t.count ≤ length t.files = omega (arith, c.requires.sized.files) in
    let moved = c.copy_within.ensures.after in
    let q = each_get {P = InPlaces} i no_entry c.requires.sized.each (omega arith) in
    let each : Each InPlaces c.copy_within.new.self =
    subst (Each InPlaces) (sym moved)
    (each_paste {P = InPlaces} i (t.count - (i + 1)) (omega arith) (omega (arith, length-drop (i + 1) t.files))
    c.requires.sized.each (each_drop {P = InPlaces} (i + 1) c.requires.sized.each)) in
    record {
      layout =
          layout_released t _ i c.requires.i_value (taken_out t.files _ i t.count (omega arith) most moved) refl
          refl f.list;
      sized = record { files = omega arith; free = omega (arith, f.count, q); each = each };
      blocks = refl;
      count = omega arith;
      free = f.count;
      exact = ap length f.list ∙ (f.exact ∙ sym f.count);
    }

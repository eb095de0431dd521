-- `table::with_file` meets its contract: the file stands before the first whose id is not lower. Assumes nothing.
use Rattle.std.proofs.Common.{arith, ◌+◌, ◌≡◌, ◌∙◌, ap, refl, subst, sym, drop, length, take, unwrap_or}
use Rattle.std.proofs.lemmas.List.{length-take, take-take, take_all, take_at}
use borrow.Author.Rules.{rules}
use Rattle.section.specs.Limits.{most_files}
use Rattle.layout.proofs.Lists.{each_append}
use Rattle.layout.specs.Lists.{Each}
use Rattle.piece_lists.proofs.Arrays.{length_of_mapped}
use Rattle.piece_lists.proofs.EachItem.{each_take}
use Rattle.piece_lists.proofs.FoundPlaces.{first_place-found}
use Rattle.piece_lists.specs.Places.{first_place, with_at}
use Rattle.table.proofs.EachKept.{each_drop, each_with}
use Rattle.table.proofs.FileLists.{layout-added, no_lower_id}
use Rattle.table.specs.Tables.{InPlaces}
use Rattle.table.proofs.files.with_file.Goals as goal

pub returns : goal.returns
returns c =
    let t = c.args.t in
    let m = t.count in
    let e = c.args.e in
    let i = c.unwrap_or-place.result in
    let new = c.insert_at.new.items in
    let long : length t.files ≡ most_files = search (rules, length_of_mapped) in
    let place : i ≡ first_place (no_lower_id e.id) (take m t.files) =
    c.unwrap_or-place.ensures
    ∙ ap (λ o. unwrap_or o m) c.place_of.ensures
    ∙ first_place-found (no_lower_id e.id) (take m t.files) m (omega (arith, length-take m t.files)) in
    let count : length new ≡ m + 1 = c.insert_at.ensures.len ∙ omega (arith, length-take (m + 1) t.files) in
    let list : new ≡ with_at i e (take m t.files) =
    sym (take_all (m + 1) new (omega arith))
    ∙ c.insert_at.ensures.listed
    ∙ ap (with_at i e) (take-take m (m + 1) t.files (omega arith)) in
    let each : Each InPlaces new =
    let first = each_take {P = InPlaces} m c.requires.sized.each in
    subst (Each InPlaces) (sym list) (each_with {P = InPlaces} i e c.requires.count_lt_most_files.1 first) in
    record {
      layout = layout-added t _ i e place (take_at new (drop (m + 1) t.files) (m + 1) count ∙ list) refl refl;
      sized = record {
        files = omega (arith, c.requires.count_lt_most_files);
        free = c.requires.count_lt_most_files.2;
        each = each_append each (each_drop {P = InPlaces} (m + 1) c.requires.sized.each);
      };
      count = refl;
      pieces = refl;
      blocks = refl;
    }

-- `settling::settle` meets its contract: after each turn some of the merges are made, with their copies, in the files
-- and the free pieces that stand beside them. Assumes nothing.
use mathlib.Core.List.{◌++◌}
use mathlib.Core.Path.{◌≡◌, ◌∙◌, ap, refl, subst, sym}
use native.Mathlib.Omega.{arith}
use lib.ListN.{drop, length}
use lib.Seq.{length-take-le}
use borrow.Author.Rules.{rules}
use Rattle.section.specs.Limits.{most_files}
use Rattle.section.specs.Sections.{Addressable}
use Rattle.piece_lists.proofs.Arrays.{length_of_mapped}
use Rattle.piece_lists.proofs.EachItem.{each_take}
use Rattle.table.proofs.MapFirst.{length-map_first}
use Rattle.table.specs.Moves.{moved_entry}
use Rattle.table.proofs.MergedTable.{merged_by_parts}
use Rattle.table.specs.Tables.{InPlaces}
use Rattle.settling.proofs.MadeMerges.{made_in_order}
use Rattle.settling.proofs.Settling.{settling_copies, settling_countable, settling_end, settling_more, settling_ready}
use Rattle.settling.proofs.Settling.{settling_start, with_lists}
use Rattle.settling.proofs.settle.Goals as goal

pub merges-init : goal.merges-init
merges-init c =
    let long : length c.args.table.files ≡ most_files = search (rules, length_of_mapped) in
    (settling_start c.args.table c.args.disk.now c.requires, long)

pub lowest_pair-requires : goal.lowest_pair-requires
lowest_pair-requires c =
    let whole = made_in_order c.merges.invariant.0.merges in
    record { count_le_free_places = whole.0; in_order = whole.1 }

pub copy_merge-copied-requires : goal.copy_merge-copied-requires
copy_merge-copied-requires c =
    let v = c.merges.invariant.0 in record {
      merge_fits = settling_copies _ _ _ _ _ v _ c.in-Some.ensures;
      pair_fits = settling_countable _ _ _ _ _ v _ c.in-Some.ensures;
    }

pub overflow_add-copied : goal.overflow_add-copied
overflow_add-copied c =
    omega (arith, c.merges.invariant.0.merges.bounded, c.copy_merge-copied.ensures.most)

pub slice_bounds-move_files-end : goal.slice_bounds-move_files-end
slice_bounds-move_files-end c =
    let v = c.merges.invariant in
    sym (length-take-le c.args.table.count c.merges.files (omega (arith, v.1, v.0.sized.files)))

pub buddy-requires : goal.buddy-requires
buddy-requires c = (settling_ready _ _ _ _ _ c.merges.invariant.0 _ c.in-Some.ensures).lower.0

pub move_files-requires : goal.move_files-requires
move_files-requires c =
    let a = settling_ready _ _ _ _ _ c.merges.invariant.0 _ c.in-Some.ensures in record {
      in_places = each_take {P = InPlaces} c.args.table.count a.sized.each;
      addressable = (subst Addressable (sym c.buddy.ensures) a.buddy, a.upper);
      pieces_served = a.files;
    }

pub free_merged-free-requires : goal.free_merged-free-requires
free_merged-free-requires c =
    let a = settling_ready _ _ _ _ _ c.merges.invariant.0 _ c.in-Some.ensures in record {
      addressable = a.lower;
      can_move = record { from = a.buddy; to = a.upper; pieces = a.others };
      count_lt_free_places = a.few;
    }

pub merges-preserved : goal.merges-preserved
merges-preserved c =
    let v = c.merges.invariant in
    let p = c.in-Some.pair in
    let ps = c.in-Some.ensures in
    let made = c.copy_merge-copied in
    let t = with_lists c.args.table c.merges.files c.merges.free in
    let files = ap (λ l. l ++ drop t.count t.files) c.move_files.ensures in
    let r =
    with_lists c.args.table (c.move_files.new.files ++ drop t.count t.files) c.free_merged-free.result in
    let ready = settling_ready _ _ _ _ _ v.0 _ ps in
    let m = merged_by_parts t r p _ ready c.buddy.ensures refl refl files c.free_merged-free.ensures in (
      settling_more _ _ _ _ _ v.0 _ ps _ made.result _ r made.ensures m refl,
      ap length files ∙ length-map_first (moved_entry c.buddy.result p.upper) t.count t.files ∙ v.1,
    )

pub returns : goal.returns
returns c = settling_end _ _ _ _ _ c.merges.invariant.0 c.in_default.ensures c.merges.invariant.1

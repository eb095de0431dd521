-- How many blocks a merge copies: as many as files hold in the buddy of the lower section, whether or not that is the
-- upper one. Assumes nothing.
use mathlib.Core.Bool.{Bool, cond, false, true}
use mathlib.Core.List.{List, []}
use mathlib.Core.Path.{◌≡◌, refl, sym}
use Prim.Native.Nat.{◌+◌, ◌<◌, ℕ}
use native.Mathlib.Omega.{arith}
use lib.Dec.{eqb}
use lib.ListN.{length}
use borrow.Author.Tests.{eqb-true, le-ltb}
use Rattle.layout.proofs.CopiesFrom.{count_from_lem, counted_none}
use Rattle.layout.proofs.Lists.{sum-append}
use Rattle.layout.proofs.MergeParts.{merge_parts}
use Rattle.layout.proofs.Ranges.{in_range_inside, in_range-le-one}
use Rattle.layout.specs.Choices.{Mergeable}
use Rattle.layout.specs.Covering.{Whole}
use Rattle.layout.specs.Layout.{Layout, file_pieces, holds_block}
use Rattle.layout.specs.Lists.{sum_of}
use Rattle.layout.specs.Merges.{held_in}
use Rattle.layout.specs.Moves.{MergeParts}
use Rattle.layout.specs.Removing.{copies_from, copy_run, is_held, merge}
use Rattle.section.specs.Sections.{buddy_of, length_of}
use Rattle.section.specs.declared.Section.{Section}

pub merge_number : (c : ℕ) (w : Layout) (l u : Section) (r : List Section) → Whole c w
    → Mergeable l.height.value w.free l u r → length (merge l u r w).copies ≡ held_in w.files (buddy_of l)
unfolding merge
merge_number c w l u r wh p = go (eqb (buddy_of l).first u.first) refl
  where
    q : MergeParts c w l u r
    q = merge_parts c w l u r wh p

    -- no file holds a block of the upper section
    vacant : (buddy_of l).first ≡ u.first → (i : ℕ) → i < length_of l → is_held w.files ((buddy_of l).first + i) ≡ false
    vacant e i lt =
        le-ltb 0 (sum_of (holds_block ((buddy_of l).first + i)) (file_pieces w.files))
        (omega (
          arith,
          q.covers ((buddy_of l).first + i),
          in_range-le-one ((buddy_of l).first + i) 0 c,
          in_range_inside ((buddy_of l).first + i) u.first (length_of l) (omega arith) (omega arith),
          sum-append (holds_block ((buddy_of l).first + i)) (file_pieces w.files) r,
        ))

    go : (t : Bool) → eqb (buddy_of l).first u.first ≡ t
        → length (cond t [] (copies_from (is_held w.files) (copy_run (buddy_of l).first u.first (length_of l))))
        ≡ held_in w.files (buddy_of l)
    go true e =
        sym (counted_none (is_held w.files) (length_of l) (buddy_of l).first (vacant (eqb-true _ _ e)))
    go false e = count_from_lem (is_held w.files) (length_of l) (buddy_of l).first u.first

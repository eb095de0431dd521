-- What is known of the two free sections that a merge takes in a whole layout, l and u, of l's buddy and of all other
-- pieces. Assumes nothing.
use mathlib.Core.List.{List, ◌∷◌}
use mathlib.Core.Logic.{inl, inr}
use mathlib.Core.Path.{◌≡◌, ap, subst}
use Prim.Native.Nat.{◌+◌, ◌<◌, ◌≤◌, ℕ}
use native.Mathlib.Omega.{arith}
use Rattle.layout.proofs.Lists.{each_append, each_left, each_right, sum-append}
use Rattle.layout.proofs.Merging.{buddy_below, buddy_on_disk, movable}
use Rattle.layout.proofs.MovedPieces.{section_eta}
use Rattle.layout.proofs.Ranges.{in_range_above, in_range_below, in_range_inside}
use Rattle.layout.specs.Choices.{Mergeable}
use Rattle.layout.specs.Covering.{Covers, Whole}
use Rattle.layout.specs.Layout.{Layout, OnDisk, file_pieces, holds_block, in_range}
use Rattle.layout.specs.Lists.{Each, sum_of}
use Rattle.layout.specs.Moves.{MergeParts, SameOrApart, left, other_pieces, right, same}
use Rattle.section.proofs.Buddies.{buddy_aligned, buddy-apart}
use Rattle.section.specs.Sections.{Apart, buddy_of, end_of, length_of, section}
use Rattle.section.specs.declared.Section.{Section}

module _ (c : ℕ) (w : Layout) (l u : Section) (r : List Section) (wh : Whole c w)
    (p : Mergeable l.height.value w.free l u r) where
  eta : u ≡ section u.first l.height.value
  eta = section_eta u l.height.value p.high

  tops : OnDisk c l × OnDisk c u × Each (OnDisk c) r
  tops = p.each c (each_right (file_pieces w.files) w.free wh.disk)

  up : OnDisk c (section u.first l.height.value)
  up = subst (OnDisk c) eta tops.1

  od : Each (OnDisk c) (other_pieces w r)
  od = each_append (each_left (file_pieces w.files) w.free wh.disk) tops.2

  covered : Covers c (l ∷ section u.first l.height.value ∷ other_pieces w r)
  covered x = omega (
    arith,
    wh.covers x,
    sum-append (holds_block x) (file_pieces w.files) w.free,
    sum-append (holds_block x) (file_pieces w.files) r,
    p.sum (holds_block x),
    ap (holds_block x) eta,
  )

  pub merge_parts : MergeParts c w l u r
  merge_parts =
      let h = l.height.value in
      let b = buddy_below c h l.first u.first p.order tops.0 up (other_pieces w r) od covered in
      record {
        lower = tops.0;
        upper = up;
        buddy = record {
          aligned = buddy_aligned h l.first tops.0.aligned;
          within = buddy_on_disk c h l.first u.first p.order tops.0 up (other_pieces w r) od covered;
        };
        free = tops.2;
        others = od;
        covers = covered;
        place = b.0;
        below = b.1;
        movable = movable c h l.first u.first p.order tops.0 up (other_pieces w r) od covered;
      }

-- a block of the buddy, where that is not u, is in exactly one piece of a file or free piece other than the two
pub buddy-block : (c : ℕ) (w : Layout) (l u : Section) (r : List Section) → MergeParts c w l u r
    → ((buddy_of l).first ≡ u.first → ⊥) → (x : ℕ) → (buddy_of l).first ≤ x → x < end_of (buddy_of l)
    → sum_of (holds_block x) (file_pieces w.files) + sum_of (holds_block x) r ≡ 1
buddy-block c w l u r q ne x lo hi = omega (
  arith,
  q.covers x,
  sum-append (holds_block x) (file_pieces w.files) r,
  in_range_inside x 0 c (omega arith) (omega (arith, q.buddy.within)),
  off_lower (buddy-apart l.height.value l.first q.lower.aligned),
  off_upper q.place,
)
  where
    off_lower : Apart l.first (length_of l) (buddy_of l).first (length_of l) → holds_block x l ≡ 0
    off_lower (inl p) = in_range_above x l.first (length_of l) (omega arith)
    off_lower (inr p) = in_range_below x l.first (length_of l) (omega arith)

    off_upper : SameOrApart (buddy_of l).first u.first (length_of l) → in_range x u.first (length_of l) ≡ 0
    off_upper (same e) = absurd (ne e)
    off_upper (left p) = in_range_below x u.first (length_of l) (omega arith)
    off_upper (right p) = in_range_above x u.first (length_of l) (omega arith)

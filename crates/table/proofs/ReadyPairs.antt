-- In a whole layout on a disk of at most the greatest C all that a merge asks for is there. Assumes nothing.
use Rattle.std.specs.Prelude.{Some}
use mathlib.Core.List.{List, [], ◌∷◌}
use mathlib.Core.Path.{◌≡◌, subst, sym}
use Prim.Native.Nat.{◌≤◌, ℕ}
use native.Mathlib.Omega.{arith}
use lib.ListN.{take}
use lib.Pow.{pow_pos}
use Rattle.layout.proofs.Allocating.{height-lt}
use Rattle.layout.proofs.Lists.{each_imp, each_left, each_right, each_unmap}
use Rattle.layout.proofs.MergeParts.{merge_parts}
use Rattle.layout.proofs.MergeStep.{merge_keeps}
use Rattle.layout.proofs.MovedPieces.{section_eta}
use Rattle.layout.specs.Choices.{Mergeable}
use Rattle.layout.specs.Covering.{Whole}
use Rattle.layout.specs.Layout.{File, InOrder, Layout, OnDisk, file_pieces}
use Rattle.layout.specs.Lists.{Each, done, more}
use Rattle.layout.specs.Merges.{MergeKeeps}
use Rattle.layout.specs.Removing.{merge, merge_copies}
use Rattle.section.specs.Limits.{greatest_disk, height_count}
use Rattle.section.specs.Sections.{Addressable, buddy_of}
use Rattle.section.specs.declared.Section.{Section}
use Rattle.free_pieces.proofs.HeldGaps.{held_between, others_in_order}
use Rattle.free_pieces.specs.Free.{Pairs, free_of, free_places, lowest_pair}
use Rattle.free_pieces.specs.Gaps.{PairFits, free_copies}
use Rattle.free_pieces.specs.declared.Pair.{Pair}
use Rattle.table.proofs.NextPair.{DueOf, due_is}
use Rattle.table.specs.Merges.{Ready}
use Rattle.table.specs.Moves.{CanMove}
use Rattle.table.specs.Tables.{Sized, file_of, files_of, layout_of}
use Rattle.table.specs.declared.Table.{Table}

-- a section of such a disk is served
pub served : (c : ℕ) → c ≤ greatest_disk → (s : Section) → OnDisk c s → Addressable s
served c top s d =
    (omega (arith, height-lt c height_count (omega arith) s d), omega (arith, d.within, pow_pos s.height.value))

-- the pieces of each file
each_file : {P : Section → Type 0} (l : List File) → Each P (file_pieces l)
    → Each (λ (f : File). Each P f.pieces) l
unfolding file_pieces
each_file [] e = done
each_file (f ∷ l) e =
    more {a = f} (each_left f.pieces (file_pieces l) e) (each_file l (each_right f.pieces (file_pieces l) e))

-- what the two to merge are on a disk of c blocks, and what their merge keeps
pub record Fits (c : ℕ) (w : Layout) (l u : Section) (r : List Section) : Type 0 where
  pub lower : OnDisk c l
  pub upper : OnDisk c u
  pub buddy : OnDisk c (buddy_of l)
  pub same : u.height.value ≡ l.height.value
  pub others : Each (OnDisk c) r
  pub order : InOrder r
  pub copies : merge_copies w.files l u ≡ free_copies l u r
  pub keeps : MergeKeeps c l.height.value w (merge l u r w)

pub pair_fits : (c : ℕ) (w : Layout) (l u : Section) (r : List Section) → Whole c w
    → Mergeable l.height.value w.free l u r → Fits c w l u r
pair_fits c w l u r wh p =
    let q = merge_parts c w l u r wh p in
    record {
      lower = q.lower;
      upper = subst (OnDisk c) (sym (section_eta u l.height.value p.high)) q.upper;
      buddy = q.buddy;
      same = p.high;
      others = q.free;
      order = others_in_order c w l u r q p.rising;
      copies = held_between c w l u r q p.rising;
      keeps = merge_keeps c l.height.value w l u r wh p;
    }

-- of the two that are due among n free pieces
module _ (c : ℕ) (top : c ≤ greatest_disk) (w : Layout) (wh : Whole c w) (n : ℕ) (few : n ≤ free_places) (p : Pair)
    (ps : Pairs n (lowest_pair height_count 0 w.free) (Some p)) where
  pub due_fits : Fits c w p.lower p.upper (free_of p.others)
  due_fits =
      pair_fits c w p.lower p.upper (free_of p.others) wh
      (subst (DueOf height_count 0 w.free) (sym ps.meaning)
      (due_is height_count 0 w.free wh.rising)).mergeable

  -- what moving the others asks for
  pub merge_movable : CanMove (buddy_of p.lower) p.upper (free_of p.others)
  merge_movable = record {
    from = served c top (buddy_of p.lower) due_fits.buddy;
    to = served c top p.upper due_fits.upper;
    pieces = each_imp (served c top) due_fits.others;
  }

  -- and what counting the copies asks for
  pub merge_countable : PairFits p
  merge_countable = record {
    lower = served c top p.lower due_fits.lower;
    buddy = merge_movable.from;
    few = omega (arith, ps.less, few);
    exact = ps.exact;
    others = merge_movable.pieces;
    order = due_fits.order;
  }

-- what merging them in a table asks for
pub merge_ready : (c : ℕ) → c ≤ greatest_disk → (t : Table) → Whole c (layout_of t) → Sized t → (p : Pair)
    → Pairs t.free.count (lowest_pair height_count 0 (layout_of t).free) (Some p) → Ready t p
unfolding layout_of files_of
merge_ready c top t wh sized p ps =
    let m = merge_movable c top (layout_of t) wh t.free.count sized.free p ps in
    record {
      sized = sized;
      lower = (merge_countable c top (layout_of t) wh t.free.count sized.free p ps).lower;
      upper = m.to;
      buddy = m.from;
      files =
          each_imp (λ e q. each_imp (served c top) q)
          (each_unmap file_of (take t.count t.files)
          (each_file (files_of t) (each_left (file_pieces (files_of t)) (free_of t.free) wh.disk)));
      others = m.pieces;
      few = omega (arith, ps.less, sized.free);
    }

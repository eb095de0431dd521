-- Counting the copies of merges to the end by the free pieces alone. Assumes nothing.
use Rattle.std.specs.Prelude.{None, Some}
use mathlib.Core.List.{List, [], ◌++◌, ◌∷◌}
use mathlib.Core.Path.{◌∙◌, ◌≡◌, ap, refl, sym}
use Prim.Native.Nat.{◌+◌, ℕ}
use lib.ListN.{length}
use Rattle.section.specs.Limits.{height_count}
use Rattle.layout.specs.Layout.{Layout}
use Rattle.layout.specs.Removing.{Merge, copies_of, merge}
use Rattle.free_pieces.specs.Free.{Lists, Pairs, free_of, lowest_pair}
use Rattle.free_pieces.specs.Gaps.{pair_copies}
use Rattle.free_pieces.specs.declared.Free.{Free}
use Rattle.free_pieces.specs.declared.Pair.{Pair}
use Rattle.table.specs.Merges.{free_after}
use Rattle.settling.specs.Planning.{CanPlan, Plans, Starts}
use Rattle.settling.proofs.MadeMerges.{MadeMerges, made_all, made_more, made_none, merge_of}

-- the layout w has the pieces `free`, and after some of its merges, with `copied` copies, the pieces `left`
pub record Planning (c : ℕ) (w : Layout) (free left : Free) (copied : ℕ) : Type 0 where
  pub layout : Layout
  pub made : List Merge
  pub merges : MadeMerges c w free.count layout left made copied

-- of every layout with the pieces `free` some merges are counted
pub record Counted (free left : Free) (copied : ℕ) : Type 0 where
  pub can : CanPlan free
  pub each : (c : ℕ) (w : Layout) → Starts c w free → Planning c w free left copied

pub counted_none : {free : Free} → CanPlan free → Counted free free 0
counted_none {free} a = record {
  can = a;
  each = λ c w s. record { layout = w; made = []; merges = made_none c w free s };
}

module _ {free left : Free} {copied : ℕ} (t : Counted free left copied) where
  -- the merges of the layout that is known to be there
  pub counted-one : Planning t.can.blocks t.can.layout free left copied
  counted-one = t.each t.can.blocks t.can.layout t.can.starts

  pub counted_more : {p : Pair} → Pairs left.count (lowest_pair height_count 0 (free_of left)) (Some p) → (n : ℕ)
      → n ≡ copied + length (pair_copies p) → (r : Free) → Lists (p.others.count + 1) (free_after p) r
      → Counted free r n
  unfolding merge
  counted_more {p} ps n sum r l = record {
    can = t.can;
    each = λ c w s.
        let g = t.each c w s in
        let now = merge_of p g.layout in
        record {
          layout = now.after;
          made = g.made ++ (now ∷ []);
          merges =
              made_more g.merges ps now.after r n refl (sym l.list)
              (ap length l.list ∙ (l.exact ∙ sym l.count)) l.count sum;
        };
  }

  pub counted-all : Pairs left.count (lowest_pair height_count 0 (free_of left)) None
      → Plans free (record { free = left; copied = copied })
  counted-all ps = record {
    copies = λ c w s.
        let g = t.each c w s in
        g.merges.count ∙ ap (λ z. length (copies_of z)) (made_all g.merges ps);
  }

-- Merging to the end by the free pieces alone: what holds when some merges are made. Assumes nothing.
use Rattle.std.specs.Prelude.{None, Option, Some}
use mathlib.Core.List.{List, [], ◌++◌, ◌∷◌, append_assoc, append-nil}
use mathlib.Core.Path.{◌∙◌, ◌≡◌, ap, refl, subst, sym}
use Prim.Native.Nat.{◌*◌, ◌+◌, ◌≤◌, suc, zero, ℕ}
use native.Mathlib.Nat.{mul-le-mul_left, mul-suc}
use native.Mathlib.Omega.{arith}
use lib.ListN.{length, length-append}
use Rattle.section.specs.Limits.{greatest_disk, height_count}
use Rattle.section.specs.Sections.{buddy_of}
use Rattle.layout.specs.Covering.{Whole}
use Rattle.layout.specs.Layout.{InOrder, Layout}
use Rattle.layout.specs.Removing.{Merge, copies_of, due, layout_after, merge, merge_all, next_merge, settled}
use Rattle.layout.proofs.FreeBuddies.{free_in_order}
use Rattle.layout.proofs.LoopTurns.{layout_after_append}
use Rattle.free_pieces.specs.Free.{Pairs, free_of, free_places, lowest_pair}
use Rattle.free_pieces.specs.Gaps.{PairFits, pair_copies}
use Rattle.free_pieces.specs.declared.Free.{Free}
use Rattle.free_pieces.specs.declared.Pair.{Pair}
use Rattle.table.specs.Moves.{CanMove}
use Rattle.table.proofs.NextPair.{merge_due, merge_settled}
use Rattle.table.proofs.ReadyPairs.{Fits, due_fits, merge_countable, merge_movable}
use Rattle.settling.specs.Planning.{Starts}

copies-append : (a b : List Merge) → copies_of (a ++ b) ≡ copies_of a ++ copies_of b
unfolding copies_of
copies-append [] b = refl
copies-append (m ∷ a) b =
    ap (λ z. m.copies ++ z) (copies-append a b) ∙ sym (append_assoc m.copies (copies_of a) (copies_of b))

copies-one : (m : Merge) → copies_of (m ∷ []) ≡ m.copies
unfolding copies_of
copies-one m = append-nil m.copies

last_one : (w : Layout) (m : Merge) → layout_after w (m ∷ []) ≡ m.after
unfolding layout_after
last_one w m = refl

-- one more merge
merge_more : (n : ℕ) (w : Layout) (m : Merge) → next_merge height_count 0 w ≡ due m
    → merge_all (suc n) height_count w ≡ m ∷ merge_all n height_count m.after
unfolding merge_all
merge_more n w m e =
    ap (λ x. elim x as (λ _. List Merge) [ due m ↦ m ∷ merge_all n height_count m.after | settled ↦ [] ]) e

-- no more
merge_none : (n : ℕ) (w : Layout) → next_merge height_count 0 w ≡ settled → merge_all n height_count w ≡ []
unfolding merge_all
merge_none zero w e = refl
merge_none (suc n) w e =
    ap (λ x. elim x as (λ _. List Merge) [ due m ↦ m ∷ merge_all n height_count m.after | settled ↦ [] ]) e

-- the merge of a pair
abbrev pub merge_of : Pair → Layout → Merge
merge_of p w = merge p.lower p.upper (free_of p.others) w

-- the layout w₀ with n free pieces is w after the merges that are made, with `copied` copies
pub record MadeMerges (c : ℕ) (w₀ : Layout) (n : ℕ) (w : Layout) (free : Free) (made : List Merge) (copied : ℕ)
    : Type 0 where
  pub starts : Starts c w free
  pub all : made ++ merge_all free.count height_count w ≡ merge_all n height_count w₀
  pub layout : w ≡ layout_after w₀ made
  pub count : copied ≡ length (copies_of made)
  pub bounded : copied + greatest_disk * free.count ≤ greatest_disk * free_places

pub made_none : (c : ℕ) (w : Layout) (free : Free) → Starts c w free → MadeMerges c w free.count w free [] 0
unfolding layout_after copies_of
made_none c w free s = record {
  starts = s;
  all = refl;
  layout = refl;
  count = refl;
  bounded = omega (arith, mul-le-mul_left greatest_disk s.few);
}

module _ {c : ℕ} {w₀ : Layout} {n : ℕ} {w : Layout} {free : Free} {made : List Merge} {copied : ℕ}
    (g : MadeMerges c w₀ n w free made copied) where
  -- what finding the next pair asks for
  pub made_in_order : (free.count ≤ free_places) × InOrder (free_of free)
  made_in_order = (g.starts.few, subst InOrder g.starts.list (free_in_order c w g.starts.whole))

  -- the pair as that of the layout
  pub made_pair : {o : Option Pair} → Pairs free.count (lowest_pair height_count 0 (free_of free)) o
      → Pairs free.count (lowest_pair height_count 0 w.free) o
  made_pair {o} ps = subst (λ l. Pairs free.count (lowest_pair height_count 0 l) o) (sym g.starts.list) ps

  -- no height has two any more
  pub made_all : Pairs free.count (lowest_pair height_count 0 (free_of free)) None → made ≡ merge_all n height_count w₀
  made_all ps =
      let none = merge_none free.count w (merge_settled free.count w (made_pair ps)) in
      sym (append-nil made) ∙ (ap (λ z. made ++ z) (sym none) ∙ g.all)

  module _ {p : Pair} (ps : Pairs free.count (lowest_pair height_count 0 (free_of free)) (Some p)) where
    pub next_fits : Fits c w p.lower p.upper (free_of p.others)
    next_fits = due_fits c g.starts.small w g.starts.whole free.count g.starts.few p (made_pair ps)

    -- what moving the other free pieces asks for
    pub next_movable : CanMove (buddy_of p.lower) p.upper (free_of p.others)
    next_movable =
        merge_movable c g.starts.small w g.starts.whole free.count g.starts.few p (made_pair ps)

    -- and what counting the copies asks for
    pub next_countable : PairFits p
    next_countable =
        merge_countable c g.starts.small w g.starts.whole free.count g.starts.few p (made_pair ps)

    -- the blocks between the free pieces are those that files hold
    next-copies : (merge_of p w).copies ≡ pair_copies p
    unfolding merge
    next-copies = next_fits.copies

    pub next_most : length (pair_copies p) ≤ greatest_disk
    next_most = omega (
      arith,
      ap length next-copies,
      next_fits.keeps.few,
      next_fits.lower.within,
      g.starts.small,
    )

    -- the copies with those of the next merge
    pub copies_more : copies_of (made ++ (merge_of p w ∷ [])) ≡ copies_of made ++ pair_copies p
    copies_more =
        copies-append made (merge_of p w ∷ [])
        ∙ ap (λ z. copies_of made ++ z) (copies-one (merge_of p w) ∙ next-copies)

    -- and what holds after it, with k copies made by then
    pub made_more : (w' : Layout) (r : Free) (k : ℕ) → w' ≡ (merge_of p w).after → w'.free ≡ free_of r
        → length (free_of r) ≡ r.count → r.count ≡ p.others.count + 1 → k ≡ copied + length (pair_copies p)
        → MadeMerges c w₀ n w' r (made ++ (merge_of p w ∷ [])) k
    made_more w' r k after list exact one sum = record {
      starts = record {
        whole = subst (Whole c) (sym after) next_fits.keeps.whole;
        small = g.starts.small;
        list = list;
        exact = exact;
        few = omega (arith, ps.less, one, g.starts.few);
      };
      all =
          append_assoc made (merge_of p w ∷ []) (merge_all r.count height_count w')
          ∙ (ap (λ z. made ++ z) rest ∙ g.all);
      layout =
          after
          ∙ sym (layout_after_append w₀ made (merge_of p w ∷ [])
          ∙ (ap (λ z. layout_after z (merge_of p w ∷ [])) (sym g.layout) ∙ last_one w (merge_of p w)));
      count = omega (arith, sum, g.count, ap length copies_more, length-append (copies_of made) (pair_copies p));
      bounded = omega (
        arith,
        sum,
        g.bounded,
        next_most,
        ap (λ i. greatest_disk * i) fewer_left,
        mul-suc greatest_disk r.count,
      );
    }
      where
        fewer_left : free.count ≡ suc r.count
        fewer_left = omega (arith, one, ps.less)

        rest : (merge_of p w ∷ []) ++ merge_all r.count height_count w' ≡ merge_all free.count height_count w
        rest =
            sym (ap (λ i. merge_all i height_count w) fewer_left
            ∙ (merge_more r.count w (merge_of p w) (merge_due free.count w p (made_pair ps))
            ∙ ap (λ z. merge_of p w ∷ merge_all r.count height_count z) (sym after)))

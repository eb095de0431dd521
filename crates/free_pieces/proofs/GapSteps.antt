-- The gaps of a section one after the other, as the code goes through the free pieces. Assumes nothing.
use mathlib.Core.Bool.{Bool, cond, false, true}
use mathlib.Core.List.{List, [], ◌++◌, ◌∷◌}
use mathlib.Core.Path.{◌∙◌, ◌≡◌, ap, ap₂, refl, subst, sym}
use Prim.Native.Nat.{◌+◌, ◌-◌, ◌<◌, ◌≤◌, ℕ}
use native.Mathlib.Omega.{arith}
use lib.Dec.{eqb}
use lib.ListN.{drop, get_or, length, length-append, length-take, take}
use borrow.Author.Tests.{eq-eqb, ne_eqb}
use Rattle.section.specs.declared.Section.{Section}
use Rattle.section.specs.Sections.{Addressable, buddy_of, end_of, is_inside, section}
use Rattle.section.proofs.Answers.{inside_iff}
use Rattle.layout.specs.Lists.{Each, next}
use Rattle.layout.specs.Removing.{copy_run}
use Rattle.layout.proofs.Lists.{each_all, each_head, each_imp, each_tail}
use Rattle.layout.proofs.MergeKeeps.{length-copy_run}
use Rattle.piece.specs.Packed.{no_piece, section_in, seen}
use Rattle.piece.specs.declared.Piece.{Piece}
use Rattle.piece.proofs.Seen.{seen_get, seen-length}
use Rattle.piece_lists.proofs.Arrays.{ahead, behind}
use Rattle.free_pieces.specs.Free.{free_of}
use Rattle.layout.specs.Layout.{InOrder}
use Rattle.free_pieces.specs.Gaps.{Gaps, PairFits, gap_copies, gap_past, pair_copies}
use Rattle.free_pieces.specs.declared.Gap.{Gap}
use Rattle.free_pieces.specs.declared.Pair.{Pair}

-- what is known of the pieces of l, when the blocks of b below `at` are done
pub record GapsLeft (b : Section) (at : ℕ) (l : List Section) : Type 0 where
  pub low : b.first ≤ at
  pub high : at ≤ end_of b
  pub ahead : Each (λ (s : Section). is_inside s b ≡ true → at ≤ s.first) l
  pub order : InOrder l
  pub served : Each Addressable l

pub gaps_start : (p : Pair) (b : Section) → PairFits p → GapsLeft b b.first (free_of p.others)
gaps_start p b f = record {
  low = omega arith;
  high = omega arith;
  ahead = each_all (free_of p.others) (λ s e. ((inside_iff s b).0 e).0);
  order = f.order;
  served = f.others;
}

pairwise_tail : {l : List Section} {s : Section} → InOrder (s ∷ l) → InOrder l
pairwise_tail (next o r) = r

pairwise_head : {l : List Section} {s : Section} → InOrder (s ∷ l) → Each (λ (t : Section). end_of s ≤ t.first) l
pairwise_head (next o r) = o

module _ (b : Section) (at : ℕ) (s : Section) (l : List Section) (g : GapsLeft b at (s ∷ l)) where
  -- the gap before s ends before what is looked at next, within b
  past_bounds : (v : Bool) → is_inside s b ≡ v
      → (at + cond v (s.first - at) 0 ≤ cond v (end_of s) at) × (cond v (end_of s) at ≤ end_of b)
  past_bounds true e =
      let w = (inside_iff s b).0 e in
      let a : at ≤ s.first = each_head g.ahead e in
      (omega arith, omega arith)
  past_bounds false e = (omega arith, omega (arith, g.high))

  past_ahead : (v : Bool) → is_inside s b ≡ v
      → Each (λ (t : Section). is_inside t b ≡ true → cond v (end_of s) at ≤ t.first) l
  past_ahead true e = each_imp (λ t o _. o) (pairwise_head g.order)
  past_ahead false e = each_tail g.ahead

  past_left : GapsLeft b (gap_past b at s) l
  past_left =
      let w = past_bounds (is_inside s b) refl in
      record {
        low = omega (arith, w.0, g.low);
        high = w.1;
        ahead = past_ahead (is_inside s b) refl;
        order = pairwise_tail g.order;
        served = each_tail g.served;
      }

-- the sections in the first m words but the first j
abbrev pub later : List Piece → ℕ → ℕ → List Section
later items m j = drop j (take m (seen items))

-- at place j of the pieces, with the section s in its word
module _ (b : Section) (items : List Piece) (m j at : ℕ) (s : Section) (hm : m ≤ length items) (lt : j < m)
    (is : s ≡ section_in (get_or items j no_piece)) (g : GapsLeft b at (later items m j)) where
  cut : later items m j ≡ s ∷ later items m (j + 1)
  cut =
      ahead (seen items) m j (omega (arith, seen-length items)) (section 0 0) lt
      ∙ ap (λ x. x ∷ later items m (j + 1)) (seen_get items j ∙ sym is)

  here : GapsLeft b at (s ∷ later items m (j + 1))
  here = subst (GapsLeft b at) cut g

  gap_asks : Addressable s × (is_inside s b ≡ true → at ≤ s.first)
  gap_asks = (each_head here.served, each_head here.ahead)

  module _ (r : Gap) (e : Gaps b at s r) where
    -- it ends within the section
    pub gap_bounds : (at + r.count ≤ r.past) × (r.past ≤ end_of b)
    gap_bounds =
        let w = past_bounds b at s (later items m (j + 1)) here (is_inside s b) refl in
        (omega (arith, w.0, e.count, e.past), omega (arith, w.1, e.past))

    pub gap_left : GapsLeft b r.past (later items m (j + 1))
    gap_left =
        subst (λ n. GapsLeft b n (later items m (j + 1))) (sym e.past)
        (past_left b at s (later items m (j + 1)) here)

    -- the copies that are left: those of the gap, then the others
    pub gap_more : (u : ℕ)
        → gap_copies b u at (later items m j)
        ≡ copy_run at (u + (at - b.first)) r.count ++ gap_copies b u r.past (later items m (j + 1))
    unfolding gap_copies
    gap_more u =
        ap (gap_copies b u at) cut
        ∙ ap₂ (λ n k. copy_run at (u + (at - b.first)) n ++ gap_copies b u k (later items m (j + 1)))
        (sym e.count) (sym e.past)

-- after the last piece: the blocks up to the end
pub gap_last : (b : Section) (u at : ℕ) (items : List Piece) (m j : ℕ) → m ≤ length items → m ≤ j
    → gap_copies b u at (later items m j) ≡ copy_run at (u + (at - b.first)) (end_of b - at)
unfolding gap_copies
gap_last b u at items m j hm le =
    ap (gap_copies b u at) (behind (seen items) m j (omega (arith, seen-length items)) le)

-- the copies of the merge of p, whose lower section's buddy is b: none if that is the upper section, else the gaps
module _ (p : Pair) (b : Section) (is : b ≡ buddy_of p.lower) where
  copies_by : (t : Bool) → eqb b.first p.upper.first ≡ t
      → pair_copies p ≡ cond t [] (gap_copies b p.upper.first b.first (free_of p.others))
  copies_by t e =
      ap (λ (s : Section). cond (eqb s.first p.upper.first) []
      (gap_copies s p.upper.first s.first (free_of p.others))) (sym is)
      ∙ ap (λ t. cond t [] (gap_copies b p.upper.first b.first (free_of p.others))) e

  pub copies-none : b.first ≡ p.upper.first → pair_copies p ≡ []
  copies-none e = copies_by true (eq-eqb b.first p.upper.first e)

  pub copies_gaps : (b.first ≡ p.upper.first → ⊥)
      → pair_copies p ≡ gap_copies b p.upper.first b.first (free_of p.others)
  copies_gaps e = copies_by false (ne_eqb b.first p.upper.first e)

-- the gaps before the first j of m pieces have n blocks
pub record Counting (b : Section) (items : List Piece) (m at n j : ℕ) : Type 0 where
  pub within : m ≤ length items
  pub most : j ≤ m
  pub served : Addressable b
  pub left : GapsLeft b at (later items m j)
  pub bounded : b.first + n ≤ at
  pub sum : (u : ℕ)
      → n + length (gap_copies b u at (later items m j)) ≡ length (gap_copies b u b.first (take m (seen items)))

pub counting_start : (p : Pair) (b : Section) → PairFits p → b ≡ buddy_of p.lower
    → Counting b p.others.items p.others.count b.first 0 0
unfolding free_of
counting_start p b f e = record {
  within = omega (
    arith,
    f.exact,
    length-take p.others.count (seen p.others.items),
    seen-length p.others.items,
  );
  most = omega arith;
  served = subst Addressable (sym e) f.buddy;
  left = gaps_start p b f;
  bounded = omega arith;
  sum = λ u. omega arith;
}

module _ (b : Section) (items : List Piece) (m at n j : ℕ) (k : Counting b items m at n j) where
  -- what the gap before the next piece asks for
  pub counting_gap : (s : Section) → j < m → s ≡ section_in (get_or items j no_piece)
      → (Addressable b × Addressable s) × (is_inside s b ≡ true → at ≤ s.first)
  counting_gap s lt is =
      let w = gap_asks b items m j at s k.within lt is k.left in ((k.served, w.0), w.1)

  pub counting_more : (s : Section) → j < m → s ≡ section_in (get_or items j no_piece) → (r : Gap) → Gaps b at s r
      → Counting b items m r.past (n + r.count) (j + 1)
  counting_more s lt is r e = record {
    within = k.within;
    most = omega arith;
    served = k.served;
    left = gap_left b items m j at s k.within lt is k.left r e;
    bounded = omega (arith, k.bounded, (gap_bounds b items m j at s k.within lt is k.left r e).0);
    sum = λ u. omega (
      arith,
      k.sum u,
      ap length (gap_more b items m j at s k.within lt is k.left r e u),
      length-append (copy_run at (u + (at - b.first)) r.count) (gap_copies b u r.past (later items m (j + 1))),
      length-copy_run at (u + (at - b.first)) r.count,
    );
  }

  pub counting_end : m ≤ j → (u : ℕ) → n + (end_of b - at) ≡ length (gap_copies b u b.first (take m (seen items)))
  counting_end le u = omega (
    arith,
    k.sum u,
    ap length (gap_last b u at items m j k.within le),
    length-copy_run at (u + (at - b.first)) (end_of b - at),
  )

-- What the tests on sections say, as facts on block numbers. Assumes nothing.
use mathlib.Core.Path.{◌≡◌}
use mathlib.Core.Bool.{true, false}
use mathlib.Core.Logic.{◌↔◌, inl, inr, ⊎_elim}
use Prim.Native.Nat.{ℕ, ◌+◌, ◌%◌, ◌≤◌}
use native.Mathlib.Omega.{arith}
use lib.Dec.{ltb, leb}
use lib.Pow.{pow_pos}
use borrow.Author.Tests.{eqb-true, leb-true, ltb-true, ltb-false, eq-eqb, le-leb, le-ltb}
use Rattle.section.specs.Sections.{Among, Apart, Within, end_of, length_of, buddy_first, is_aligned, is_on_disk}
use Rattle.section.specs.Sections.{has_buddy, shares_block, is_inside}
use Rattle.section.proofs.Booleans.{and_true, and_false, false_and}
use Rattle.section.proofs.Buddies.{buddy_aligned}
use Rattle.section.proofs.Multiples.{below_or_not}
use Rattle.section.specs.declared.Section.{Section}

pub aligned_iff : (s : Section) → (is_aligned s ≡ true) ↔ (s.first % length_of s ≡ 0)
unfolding is_aligned
aligned_iff s = (eqb-true (s.first % length_of s) 0, eq-eqb (s.first % length_of s) 0)

pub on_disk_iff : (c : ℕ) (s : Section) → (is_on_disk c s ≡ true) ↔ ((s.first % length_of s ≡ 0) × (end_of s ≤ c))
unfolding is_on_disk
on_disk_iff c s = (
  λ e. (let w = and_true (is_aligned s) (leb (end_of s) c) e in
      ((aligned_iff s).0 w.0, leb-true (end_of s) c w.1)),
  λ w. simp ((aligned_iff s).1 w.0, le-leb _ _ w.1),
)

-- an aligned section has its buddy on the disk if the buddy ends within it
pub has_buddy_iff : (c : ℕ) (s : Section) → s.first % length_of s ≡ 0
    → (has_buddy c s ≡ true) ↔ (buddy_first s.height.value s.first + length_of s ≤ c)
unfolding has_buddy
has_buddy_iff c s ha = (
  λ e. ((on_disk_iff c _).0 e).1,
  λ l. (on_disk_iff c _).1 (buddy_aligned s.height.value s.first ha, l),
)

pub inside_iff : (s t : Section) → (is_inside s t ≡ true) ↔ Within s.first (length_of s) t.first (length_of t)
unfolding is_inside
inside_iff s t = (
  λ e. (let w = and_true (leb t.first s.first) (leb (end_of s) (end_of t)) e in
      (leb-true t.first s.first w.0, leb-true (end_of s) (end_of t) w.1)),
  λ w. simp (le-leb _ _ w.0, le-leb _ _ w.1),
)

-- two that share no block lie apart
pub apart_iff : (s t : Section) → (shares_block s t ≡ false) ↔ Apart s.first (length_of s) t.first (length_of t)
unfolding shares_block
apart_iff s t = (
  λ e. ⊎_elim
      (λ w. inr (ltb-false s.first (end_of t) w))
      (λ w. inl (ltb-false t.first (end_of s) w))
      (and_false (ltb s.first (end_of t)) (ltb t.first (end_of s)) e),
  ⊎_elim
      (λ w. false_and (ltb s.first (end_of t)) (le-ltb t.first (end_of s) w))
      (λ w. simp (le-ltb s.first (end_of t) w)),
)

-- and two that share one have a block that is in both
pub shared_block : (s t : Section) → shares_block s t ≡ true
    → (x : ℕ) × Among s.first (length_of s) x × Among t.first (length_of t) x
unfolding shares_block
shared_block s t e =
    let w = and_true (ltb s.first (end_of t)) (ltb t.first (end_of s)) e in
    let p = ltb-true s.first (end_of t) w.0 in
    let q = ltb-true t.first (end_of s) w.1 in
    let m = pow_pos s.height.value in
    let n = pow_pos t.height.value in
    ⊎_elim
    (λ l. (t.first, (omega arith), (omega arith)))
    (λ l. (s.first, (omega arith), (omega arith)))
    (below_or_not s.first t.first)

-- The piece that is taken begins where the free piece begins that it is taken or split from: of every split the lower
-- half is used, and the upper half joins the free pieces. `AddCases` has splits in literal numbers. Assumes nothing.
use mathlib.Core.List.{List}
use mathlib.Core.Path.{◌≡◌, ap, subst, sym}
use Prim.Native.Nat.{◌+◌, ◌^◌, suc, zero, ℕ}
use native.Mathlib.Omega.{arith}
use Rattle.layout.proofs.Lists.{each_all, each_and, each_imp, sum_insert}
use Rattle.layout.proofs.MovedPieces.{section_eta}
use Rattle.layout.proofs.Taking.{TakesOf, nothing_height, take_first_is, take_piece_highest, take_piece_or_split}
use Rattle.layout.proofs.Taking.{takes_height}
use Rattle.layout.specs.Adding.{Taken, nothing, or_else, split_at, take_first, take_piece, taken}
use Rattle.layout.specs.Allocations.{ComesFrom, upper_halves}
use Rattle.layout.specs.Layout.{by_first, has_height}
use Rattle.layout.specs.Lists.{Each, insert_by}
use Rattle.section.specs.Sections.{section}
use Rattle.section.specs.declared.Section.{Section}
use Rattle.layout.specs.Choices.{Takes}

abbrev ComesFromOf : ℕ → ℕ → List Section → Taken → Type 0
ComesFromOf k h free (taken s r) = ComesFrom k h free s r
ComesFromOf k h free nothing = Unit {0}

from_height : {k h : ℕ} {free : List Section} {s : Section} {r : List Section} → Takes (has_height h) free s r
    → ComesFrom k h free s r
unfolding upper_halves
from_height {k} {h} {free} {s} {r} p =
    let e = takes_height p in
    record {
      source = s;
      others = r;
      listed = subst (λ z. Takes (has_height z) free s r) (sym e) p;
      splits = 0;
      height = omega (arith, e);
      reach = omega arith;
      lowest = each_all free (λ a x y. omega (arith, e));
      piece = section_eta s h e;
      rest = λ w. omega arith;
    }

from_half : {k h : ℕ} {free : List Section} {s : Section} {r : List Section}
    → Each (λ (a : Section). a.height.value ≡ h → ⊥) free → ComesFrom k (suc h) free s r
    → ComesFrom (suc k) h free (section s.first h) (insert_by by_first (section (s.first + 2 ^ h) h) r)
unfolding upper_halves
from_half {k} {h} {free} {s} {r} none c = record {
  source = c.source;
  others = c.others;
  listed = c.listed;
  splits = suc c.splits;
  height = omega (arith, c.height);
  reach = omega (arith, c.reach);
  lowest = each_imp (λ a q x y. q.1 (omega (arith, q.0)) y) (each_and none c.lowest);
  piece = ap (λ x. section x h) start;
  rest = λ w. omega (
    arith,
    sum_insert w by_first (section (s.first + 2 ^ h) h) r,
    c.rest w,
    ap (λ x. w (section (x + 2 ^ h) h)) start,
  );
}
  where
    start : s.first ≡ c.source.first
    start = ap (λ (x : Section). x.first) c.piece

comes : (k h : ℕ) (free : List Section) → ComesFromOf k h free (take_piece k h free)
comes zero h free =
    subst (ComesFromOf 0 h free) (sym (take_piece_highest h free))
    (go (take_first (has_height h) free) (take_first_is (has_height h) free))
  where
    go : (p : Taken) → TakesOf (has_height h) free p → ComesFromOf 0 h free p
    go (taken s r) q = from_height q
    go nothing q = tt
comes (suc k) h free =
    subst (ComesFromOf (suc k) h free) (sym (take_piece_or_split k h free))
    (go (take_first (has_height h) free) (take_first_is (has_height h) free) (take_piece k (suc h) free)
    (comes k (suc h) free))
  where
    go : (p : Taken) → TakesOf (has_height h) free p → (t : Taken) → ComesFromOf k (suc h) free t
        → ComesFromOf (suc k) h free (or_else p (split_at h t))
    go (taken s r) q t c = from_height q
    go nothing q (taken s r) c = from_half (nothing_height q) c
    go nothing q nothing c = tt

-- whatever piece is taken, of whatever height
pub piece_comes_from : (k h : ℕ) (free : List Section) {s : Section} {r : List Section}
    → take_piece k h free ≡ taken s r → ComesFrom k h free s r
piece_comes_from k h free e = subst (ComesFromOf k h free) e (comes k h free)

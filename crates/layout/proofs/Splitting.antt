-- Taking a piece and splitting: what it keeps, and when it succeeds. Assumes nothing.
use mathlib.Core.Bool.{Bool, false, true}
use mathlib.Core.List.{List}
use mathlib.Core.Path.{◌∙◌, ◌≡◌, ap, refl, subst, sym}
use Prim.Native.Nat.{◌%◌, ◌+◌, ◌<◌, ◌^◌, ◌≤◌, suc, zero, ℕ}
use native.Mathlib.Nat.{mod_self}
use native.Mathlib.Omega.{arith}
use lib.Dec.{eqb}
use borrow.Author.Tests.{eq-eqb, eqb-false, eqb-true, ne_eqb}
use Rattle.layout.proofs.Digits.{val_lt, val_size}
use Rattle.layout.proofs.Lists.{each_and, each_imp, each_insert, sum_insert}
use Rattle.layout.proofs.Ranges.{in_range-halves}
use Rattle.layout.proofs.Taking.{TakesOf, insert_rising, nothing_height, take_first_is, take_piece_highest}
use Rattle.layout.proofs.Taking.{take_piece_or_split, takes_each, takes_height, takes_rising, takes_sum}
use Rattle.layout.specs.Adding.{Taken, nothing, or_else, split_at, take_first, take_piece, taken}
use Rattle.layout.specs.Allocations.{Stock}
use Rattle.layout.specs.Choices.{Takes}
use Rattle.layout.specs.Covering.{AtMostOne, count_of}
use Rattle.layout.specs.Layout.{OnDisk, by_first, has_height, holds_block, in_range, of_height}
use Rattle.layout.specs.Lists.{Each, done, indicator, insert_by, more, sum_of}
use Rattle.section.proofs.Multiples.{aligned_lower, multiple_sum}
use Rattle.section.specs.Sections.{length_of, section}
use Rattle.section.specs.declared.Section.{Section}

pub of_height_same : (h : ℕ) (s : Section) → s.height.value ≡ h → of_height h s ≡ 1
unfolding of_height
of_height_same h s e = ap indicator (eq-eqb s.height.value h e)

pub of_height_other : (h : ℕ) (s : Section) → (s.height.value ≡ h → ⊥) → of_height h s ≡ 0
unfolding of_height
of_height_other h s e = ap indicator (ne_eqb s.height.value h e)

pub count_none : (h : ℕ) {l : List Section} → Each (λ (s : Section). s.height.value ≡ h → ⊥) l → count_of h l ≡ 0
count_none h done = refl
count_none h (more {a = a} p e) = omega (arith, of_height_other h a p, count_none h e)

pub record TakesPiece (c h : ℕ) (free : List Section) (s : Section) (r : List Section) : Type 0 where
  pub height : s.height.value ≡ h
  pub fits : OnDisk c s
  pub stock : Stock c r
  pub held : (x : ℕ) → sum_of (holds_block x) free ≡ holds_block x s + sum_of (holds_block x) r
  pub size : sum_of length_of free ≡ 2 ^ h + sum_of length_of r
  pub low : (j : ℕ) → j < h → count_of j r ≡ count_of j free

abbrev pub TakesPieceOf : ℕ → ℕ → ℕ → List Section → Taken → Type 0
TakesPieceOf c k h free (taken s r) = TakesPiece c h free s r
TakesPieceOf c k h free nothing = Each (λ (s : Section). h ≤ s.height.value → s.height.value ≤ h + k → ⊥) free

module _ (c : ℕ) where
  takes_here : {h : ℕ} {free : List Section} {s : Section} {r : List Section} → Stock c free
      → Takes (has_height h) free s r → TakesPiece c h free s r
  takes_here {h} {free} {s} {r} st p = record {
    height = takes_height p;
    fits = (takes_each p st.disk).0;
    stock = record {
      disk = (takes_each p st.disk).1;
      rising = takes_rising p st.rising;
      thin = λ j. omega (arith, takes_sum (of_height j) p, st.thin j);
    };
    held = λ x. takes_sum (holds_block x) p;
    size = takes_sum length_of p ∙ ap (λ z. 2 ^ z + sum_of length_of r) (takes_height p);
    low = λ j q. let e = takes_height p in omega (
      arith,
      takes_sum (of_height j) p,
      of_height_other j s (λ f. omega arith),
    );
  }

  takes_half : {h : ℕ} {free : List Section} {s : Section} {r : List Section} → count_of h free ≡ 0
      → TakesPiece c (suc h) free s r
      → TakesPiece c h free (section s.first h) (insert_by by_first (section (s.first + 2 ^ h) h) r)
  takes_half {h} {free} {s} {r} empty t = record {
    height = refl;
    fits = lower;
    stock = record {
      disk = each_insert by_first (section (s.first + 2 ^ h) h) upper t.stock.disk;
      rising = insert_rising (section (s.first + 2 ^ h) h) t.stock.rising;
      thin = thinner;
    };
    held =
        λ x. omega (arith, t.held x, sum_insert (holds_block x) by_first (section (s.first + 2 ^ h) h) r, whole x);
    size = omega (arith, t.size, sum_insert length_of by_first (section (s.first + 2 ^ h) h) r);
    low = λ j q. omega (
      arith,
      t.low j (omega arith),
      sum_insert (of_height j) by_first (section (s.first + 2 ^ h) h) r,
      of_height_other j (section (s.first + 2 ^ h) h) (λ f. omega arith),
    );
  }
    where
      tall_s : 2 ^ s.height.value ≡ 2 ^ suc h
      tall_s = ap (λ z. 2 ^ z) t.height

      m : s.first % 2 ^ h ≡ 0
      m =
          aligned_lower h (suc h) s.first (omega arith)
          (subst (λ z. s.first % 2 ^ z ≡ 0) t.height t.fits.aligned)

      end : s.first + 2 ^ h + 2 ^ h ≤ c
      end = omega (arith, t.fits.within, tall_s)

      low_end : s.first + 2 ^ h ≤ c
      low_end = omega (arith, end)

      lower : OnDisk c (section s.first h)
      lower = record { aligned = m; within = low_end }

      upper : OnDisk c (section (s.first + 2 ^ h) h)
      upper = record { aligned = multiple_sum (2 ^ h) s.first (2 ^ h) m (mod_self (2 ^ h)); within = end }

      whole : (x : ℕ) → holds_block x s ≡ in_range x s.first (2 ^ h) + in_range x (s.first + 2 ^ h) (2 ^ h)
      whole x = ap (in_range x s.first) (tall_s ∙ omega arith) ∙ in_range-halves x s.first (2 ^ h) (2 ^ h)

      thinner : AtMostOne (insert_by by_first (section (s.first + 2 ^ h) h) r)
      thinner j = go (eqb h j) refl
        where
          go : (b : Bool) → eqb h j ≡ b → count_of j (insert_by by_first (section (s.first + 2 ^ h) h) r) ≤ 1
          go true e =
              let q = eqb-true h j e in
              omega (
                arith,
                sum_insert (of_height j) by_first (section (s.first + 2 ^ h) h) r,
                of_height_same j (section (s.first + 2 ^ h) h) q,
                t.low j (omega arith),
                ap (λ z. count_of z free) q,
              )
          go false e = omega (
            arith,
            sum_insert (of_height j) by_first (section (s.first + 2 ^ h) h) r,
            of_height_other j (section (s.first + 2 ^ h) h) (eqb-false h j e),
            t.stock.thin j,
          )

  pub take_piece_is : (k h : ℕ) (free : List Section) → Stock c free → TakesPieceOf c k h free (take_piece k h free)
  take_piece_is zero h free st =
      subst (TakesPieceOf c 0 h free) (sym (take_piece_highest h free))
      (go (take_first (has_height h) free) (take_first_is (has_height h) free))
    where
      go : (p : Taken) → TakesOf (has_height h) free p → TakesPieceOf c 0 h free p
      go (taken s r) q = takes_here st q
      go nothing q = each_imp (λ s n a b. n (omega arith)) (nothing_height q)
  take_piece_is (suc k) h free st =
      subst (TakesPieceOf c (suc k) h free) (sym (take_piece_or_split k h free))
      (go (take_first (has_height h) free) (take_first_is (has_height h) free) (take_piece k (suc h) free)
      (take_piece_is k (suc h) free st))
    where
      go : (p : Taken) → TakesOf (has_height h) free p → (t : Taken) → TakesPieceOf c k (suc h) free t
          → TakesPieceOf c (suc k) h free (or_else p (split_at h t))
      go (taken s r) q t u = takes_here st q
      go nothing q (taken s r) u = takes_half (count_none h (nothing_height q)) u
      go nothing q nothing u =
          each_imp (λ s p a b. p.1 (omega (arith, p.0)) (omega arith)) (each_and (nothing_height q) u)

  -- thin sections below height h come to less than 2^h
  pub at_most_one_small : (h : ℕ) {l : List Section} → Each (λ (s : Section). s.height.value < h) l → AtMostOne l
      → sum_of length_of l < 2 ^ h
  at_most_one_small h {l} e thin =
      subst (λ z. z < 2 ^ h) (sym (val_size 2 h e))
      (val_lt 2 (omega arith) (λ j. count_of j l) h (λ j. omega (arith, thin j)))

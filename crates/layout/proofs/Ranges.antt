-- Blocks in a row: which of them hold a block. Assumes nothing.
use mathlib.Core.Bool.{Bool, ◌&&◌, false, true}
use mathlib.Core.Logic.{inl, inr}
use mathlib.Core.Path.{◌∙◌, ◌≡◌, ap, refl, sym}
use Prim.Native.Nat.{◌+◌, ◌-◌, ◌<◌, ◌≤◌, ℕ}
use native.Mathlib.Omega.{arith}
use lib.Dec.{leb, ltb}
use borrow.Author.Tests.{le-leb, le-ltb, leb-false, leb-true, lt-leb, lt-ltb, ltb-false, ltb-true}
use Rattle.layout.specs.Layout.{in_range}
use Rattle.layout.specs.Lists.{indicator}
use Rattle.section.specs.Sections.{Apart}

-- where block x stands against the n blocks from a
pub data Position (x a n : ℕ) : Type 0 where
  within : a ≤ x → x < a + n → Position x a n
  below : x < a → Position x a n
  above : a + n ≤ x → Position x a n

pub position : (x a n : ℕ) → Position x a n
position x a n = go (leb a x) refl (ltb x (a + n)) refl
  where
    go : (s : Bool) → leb a x ≡ s → (t : Bool) → ltb x (a + n) ≡ t → Position x a n
    go true p true q = within (leb-true _ _ p) (ltb-true _ _ q)
    go true p false q = above (ltb-false _ _ q)
    go false p t q = below (leb-false _ _ p)

pub in_range_inside : (x a n : ℕ) → a ≤ x → x < a + n → in_range x a n ≡ 1
unfolding in_range
in_range_inside x a n p q = rw (le-leb a x p, lt-ltb x (a + n) q)

pub in_range_below : (x a n : ℕ) → x < a → in_range x a n ≡ 0
unfolding in_range
in_range_below x a n p = rw (lt-leb a x p)

pub in_range_above : (x a n : ℕ) → a + n ≤ x → in_range x a n ≡ 0
unfolding in_range
in_range_above x a n p = go (leb a x)
  where
    go : (t : Bool) → indicator (t && ltb x (a + n)) ≡ 0
    go true = rw (le-ltb x (a + n) p)
    go false = refl

-- two halves make a whole
pub in_range-halves : (x a m n : ℕ) → in_range x a (m + n) ≡ in_range x a m + in_range x (a + m) n
in_range-halves x a m n = go (position x a m) (position x (a + m) n)
  where
    go : Position x a m → Position x (a + m) n → in_range x a (m + n) ≡ in_range x a m + in_range x (a + m) n
    go (within p q) s =
        rw (in_range_inside x a m p q, in_range_inside x a (m + n) p (omega arith), in_range_below x (a + m) n q)
    go (below p) s =
        rw (in_range_below x a m p, in_range_below x a (m + n) p, in_range_below x (a + m) n (omega arith))
    go (above p) (within q r) = rw (
      in_range_above x a m p,
      in_range_inside x (a + m) n q r,
      in_range_inside x a (m + n) (omega arith) (omega arith),
    )
    go (above p) (below q) = absurd (omega arith)
    go (above p) (above q) =
        rw (in_range_above x a m p, in_range_above x (a + m) n q, in_range_above x a (m + n) (omega arith))

-- A renaming of blocks that is its own inverse, and a span that it carries block by block: the new span holds what
-- the old one held.
pub in_range_carried : (f : ℕ → ℕ) → ((x : ℕ) → f (f x) ≡ x) → (a b n : ℕ) → ((i : ℕ) → i < n → b + i ≡ f (a + i))
    → (x : ℕ) → in_range x b n ≡ in_range (f x) a n
in_range_carried f inv a b n c x = go (position x b n) (position (f x) a n)
  where
    back : (y : ℕ) → a ≤ y → y < a + n → b + (y - a) ≡ f y
    back y p q = c (y - a) (omega arith) ∙ ap f (omega arith)

    forth : (y : ℕ) → b ≤ y → y < b + n → a + (y - b) ≡ f y
    forth y p q = sym (inv (a + (y - b))) ∙ ap f (sym (c (y - b) (omega arith)) ∙ omega arith)

    go : Position x b n → Position (f x) a n → in_range x b n ≡ in_range (f x) a n
    go (within p q) s =
        let e = forth x p q in
        rw (in_range_inside x b n p q, in_range_inside (f x) a n (omega arith) (omega arith))
    go (below p) (within q r) = let e = back (f x) q r in let e' = inv x in absurd (omega arith)
    go (below p) (below q) = rw (in_range_below x b n p, in_range_below (f x) a n q)
    go (below p) (above q) = rw (in_range_below x b n p, in_range_above (f x) a n q)
    go (above p) (within q r) = let e = back (f x) q r in let e' = inv x in absurd (omega arith)
    go (above p) (below q) = rw (in_range_above x b n p, in_range_below (f x) a n q)
    go (above p) (above q) = rw (in_range_above x b n p, in_range_above (f x) a n q)

pub in_range-le-one : (x a n : ℕ) → in_range x a n ≤ 1
in_range-le-one x a n = go (position x a n)
  where
    go : Position x a n → in_range x a n ≤ 1
    go (within p q) = omega (arith, in_range_inside x a n p q)
    go (below p) = omega (arith, in_range_below x a n p)
    go (above p) = omega (arith, in_range_above x a n p)

-- spans that share no block are apart
pub in_range-apart : (a m b n : ℕ) → 0 < m → 0 < n → ((x : ℕ) → in_range x a m + in_range x b n ≤ 1) → Apart a m b n
in_range-apart a m b n pm pn h = go (position a b n) (position b a m)
  where
    go : Position a b n → Position b a m → Apart a m b n
    go (within p q) s =
        absurd (omega (arith, h a, in_range_inside a a m (omega arith) (omega arith), in_range_inside a b n p q))
    go (below p) (within q r) =
        absurd (omega (arith, h b, in_range_inside b a m q r, in_range_inside b b n (omega arith) (omega arith)))
    go (below p) (below q) = absurd (omega arith)
    go (below p) (above q) = inl q
    go (above p) s = inr p

-- How often a block stands among the blocks of pieces: as often as the pieces hold it. Assumes nothing.
use mathlib.Core.List.{List, [], ◌∷◌}
use mathlib.Core.Path.{◌∙◌, ◌≡◌, ap, ap₂, refl, sym}
use Prim.Native.Nat.{◌+◌, ◌<◌, ◌^◌, ◌≤◌, suc, zero, ℕ}
use native.Mathlib.Decide.{ℕ_discrete}
use native.Mathlib.Omega.{arith}
use lib.Dec.{eqb}
use lib.ListN.{length, length-append}
use borrow.Author.Tests.{eq-eqb, ne_eqb}
use Rattle.layout.proofs.Lists.{each_append, sum-append}
use Rattle.layout.proofs.Ranges.{Position, above, below, in_range_above, in_range_below, in_range-halves}
use Rattle.layout.proofs.Ranges.{in_range_inside, position, within}
use Rattle.layout.specs.Layout.{OnDisk, block_run, blocks_of, holds_block, in_range}
use Rattle.layout.specs.Lists.{Each, done, indicator, more, sum_of}
use Rattle.section.specs.Sections.{length_of}
use Rattle.section.specs.declared.Section.{Section}

-- how often x stands in a list
abbrev pub occurs : ℕ → List ℕ → ℕ
occurs x l = sum_of (λ y. indicator (eqb x y)) l

pub occurs-one : (x y : ℕ) → x ≡ y → indicator (eqb x y) ≡ 1
occurs-one x y e = ap indicator (eq-eqb x y e)

pub occurs-none : (x y : ℕ) → (x ≡ y → ⊥) → indicator (eqb x y) ≡ 0
occurs-none x y e = ap indicator (ne_eqb x y e)

occurs_up : (x n a : ℕ) → occurs x (block_run a n) ≡ in_range x a n
unfolding block_run
occurs_up x zero a = go (position x a 0)
  where
    go : Position x a 0 → 0 ≡ in_range x a 0
    go (within p q) = absurd (omega arith)
    go (below p) = sym (in_range_below x a 0 p)
    go (above p) = sym (in_range_above x a 0 p)
occurs_up x (suc n) a = go (ℕ_discrete x a) (occurs_up x n (suc a))
  where
    whole : in_range x a (suc n) ≡ in_range x a 1 + in_range x (a + 1) n
    whole = ap (in_range x a) (omega arith) ∙ in_range-halves x a 1 n

    next : in_range x (a + 1) n ≡ in_range x (suc a) n
    next = ap (λ z. in_range x z n) (omega arith)

    go : Dec (x ≡ a) → occurs x (block_run (suc a) n) ≡ in_range x (suc a) n
        → indicator (eqb x a) + occurs x (block_run (suc a) n) ≡ in_range x a (suc n)
    go (yes p) e = omega (arith, whole, next, occurs-one x a p, in_range_inside x a 1 (omega arith) (omega arith))
    go (no p) e = omega (arith, whole, next, occurs-none x a p, off (position x a 1))
      where
        off : Position x a 1 → in_range x a 1 ≡ 0
        off (within q r) = absurd (p (omega arith))
        off (below q) = in_range_below x a 1 q
        off (above q) = in_range_above x a 1 q

pub occurs-blocks : (x : ℕ) (l : List Section) → occurs x (blocks_of l) ≡ sum_of (holds_block x) l
unfolding blocks_of
occurs-blocks x [] = refl
occurs-blocks x (s ∷ l) = omega (
  arith,
  sum-append (λ y. indicator (eqb x y)) (block_run s.first (2 ^ s.height.value)) (blocks_of l),
  occurs_up x (2 ^ s.height.value) s.first,
  occurs-blocks x l,
)

length_up : (n a : ℕ) → length (block_run a n) ≡ n
unfolding block_run
length_up zero a = refl
length_up (suc n) a = ap suc (length_up n (suc a))

pub length-blocks : (l : List Section) → length (blocks_of l) ≡ sum_of length_of l
unfolding blocks_of
length-blocks [] = refl
length-blocks (s ∷ l) =
    length-append (block_run s.first (2 ^ s.height.value)) (blocks_of l)
    ∙ ap₂ (λ y z. y + z) (length_up (2 ^ s.height.value) s.first) (length-blocks l)

up_within : (n a c : ℕ) → a + n ≤ c → Each (λ b. b < c) (block_run a n)
unfolding block_run
up_within zero a c p = done
up_within (suc n) a c p = more {a = a} (omega arith) (up_within n (suc a) c (omega arith))

pub blocks_within : (c : ℕ) {l : List Section} → Each (OnDisk c) l → Each (λ b. b < c) (blocks_of l)
unfolding blocks_of
blocks_within c done = done
blocks_within c (more {a = s} p e) =
    each_append (up_within (2 ^ s.height.value) s.first c p.within) (blocks_within c e)

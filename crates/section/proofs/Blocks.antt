-- Blocks in a row, block by block: which blocks the n blocks from a on are, when they are all among others, and when
-- they share none with others. Assumes nothing.
use mathlib.Core.Logic.{◌↔◌, ◌⊎◌, inl, inr, ⊎_elim}
use mathlib.Core.Path.{◌≡◌}
use Prim.Native.Nat.{ℕ, ◌+◌, ◌-◌, ◌<◌}
use native.Mathlib.Omega.{arith}
use Rattle.section.specs.Sections.{Among, Apart, Within}
use Rattle.section.proofs.Multiples.{below_or_not}

-- the n blocks from a on are those at the distances below n from a
pub among_distance : (a n x : ℕ) → Among a n x ↔ ((i : ℕ) × (i < n) × (x ≡ a + i))
among_distance a n x = (λ w. (x - a, omega arith, omega arith), λ d. (omega (arith, d.2), omega (arith, d.1, d.2)))

-- the two blocks from 4 on are 4 and 5
pub among_two : (x : ℕ) → Among 4 2 x ↔ ((x ≡ 4) ⊎ (x ≡ 5))
among_two x = (
  λ w. ⊎_elim (λ l. inl (omega arith)) (λ l. inr (omega arith)) (below_or_not x 5),
  ⊎_elim (λ e. (omega arith, omega arith)) (λ e. (omega arith, omega arith)),
)

-- some blocks are within others if each of them is among those
pub within_blocks : (a n b m : ℕ) → 0 < n → Within a n b m ↔ ((x : ℕ) → Among a n x → Among b m x)
within_blocks a n b m pos = (
  λ w x p. (omega arith, omega arith),
  λ f. (omega (arith, (f a (omega arith, omega arith)).0), omega (arith, (f (a + (n - 1)) (omega arith, omega arith)).1)),
)

-- and apart if no block is among both
pub apart-blocks : (a n b m : ℕ) → 0 < n → 0 < m
    → Apart a n b m ↔ ((x : ℕ) → Among a n x → Among b m x → ⊥)
apart-blocks a n b m p q = (
  ⊎_elim (λ l x u v. omega arith) (λ l x u v. omega arith),
  λ f. ⊎_elim
      (λ l. ⊎_elim (λ r. absurd (f b (omega arith, omega arith) (omega arith, omega arith))) (λ r. inl r)
      (below_or_not b (a + n)))
      (λ l. ⊎_elim (λ r. absurd (f a (omega arith, omega arith) (omega arith, omega arith))) (λ r. inr r)
      (below_or_not a (b + m)))
      (below_or_not a b),
)

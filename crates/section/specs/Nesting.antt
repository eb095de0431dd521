-- How blocks in a row lie against others: the two halves of a section, and one section inside another or apart from
-- it. Definitions only.
use Rattle.std.specs.Prelude.{◌≡◌, ◌+◌, ◌≤◌, ℕ}

-- a and b start the lower and the upper half, of n blocks each, of what starts at p, in one order or the other
pub data Halves (n a b p : ℕ) : Type 0 where
  lower : a ≡ p → b ≡ p + n → Halves n a b p
  upper : a ≡ p + n → b ≡ p → Halves n a b p

-- where the n blocks from a on lie, against the m from b on
pub data Placed (a n b m : ℕ) : Type 0 where
  before : a + n ≤ b → Placed a n b m
  inside : b ≤ a → a + n ≤ b + m → Placed a n b m
  after : b + m ≤ a → Placed a n b m

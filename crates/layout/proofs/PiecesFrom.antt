-- The pieces for the ones of a number, by its digits: below height 0 none, and at each height one for the digit 1.
-- Assumes nothing.
use mathlib.Core.List.{List, [], ◌∷◌}
use mathlib.Core.Logic.{◌⊎◌, inl, inr}
use mathlib.Core.Path.{◌∙◌, ◌≡◌, ap, refl}
use Prim.Native.Nat.{◌+◌, ◌<◌, ◌^◌, ◌/◌, suc, zero, ℕ}
use native.Mathlib.Nat.{mod-lt}
use native.Mathlib.Omega.{arith}
use Rattle.layout.specs.Layout.{digit, pieces_from}
use Rattle.section.specs.Sections.{section}
use Rattle.section.specs.declared.Section.{Section}

pub digit-zero-or-one : (h n : ℕ) → (digit h n ≡ 0) ⊎ (digit h n ≡ 1)
digit-zero-or-one h n = go (digit h n) refl (mod-lt (n / 2 ^ h) (omega arith))
  where
    go : (d : ℕ) → digit h n ≡ d → digit h n < 2 → (digit h n ≡ 0) ⊎ (digit h n ≡ 1)
    go zero e p = inl e
    go (suc d) e p = inr (omega arith)

-- below height 0 there is none
pub pieces_from_nil : (n x : ℕ) → pieces_from 0 n x ≡ []
unfolding pieces_from
pieces_from_nil n x = refl

module _ (h n x : ℕ) where
  -- by n's digit at h
  from : ℕ → List Section
  from d =
      elim d as (λ _. List Section) [
        | zero ↦ pieces_from h n x
        | suc _ ↦ section x h ∷ pieces_from h n (x + 2 ^ h)
      ]

  by_digit : pieces_from (suc h) n x ≡ from (digit h n)
  unfolding pieces_from from
  by_digit = refl

  -- the digit 0 gives no piece of its height
  pub pieces_from_skip : digit h n ≡ 0 → pieces_from (suc h) n x ≡ pieces_from h n x
  unfolding from
  pieces_from_skip e = by_digit ∙ ap from e

  -- the digit 1 gives one, and the others start where it ends
  pub pieces_from-cons : digit h n ≡ 1 → pieces_from (suc h) n x ≡ section x h ∷ pieces_from h n (x + 2 ^ h)
  unfolding from
  pieces_from-cons e = by_digit ∙ ap from e

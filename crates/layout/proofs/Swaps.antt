-- Two runs of blocks that are the same or apart change places. Assumes nothing.
use mathlib.Core.Logic.{inl, inr}
use mathlib.Core.Path.{◌∙◌, ◌≡◌, ap, refl, sym}
use Prim.Native.Nat.{◌+◌, ◌-◌, ◌<◌, ◌≤◌, ℕ}
use native.Mathlib.Omega.{arith}
use Rattle.layout.proofs.Ranges.{Position, above, below, in_range_above, in_range_inside, position, within}
use Rattle.layout.specs.Layout.{in_range}
use Rattle.layout.specs.Moves.{SameOrApart, left, right, same}
use Rattle.section.specs.Sections.{Apart}

-- the n blocks from b change places with those from u
abbrev pub swap_at : {x b u n : ℕ} → Position x b n → Position x u n → ℕ
swap_at {x} {b} {u} (within p q) s = u + (x - b)
swap_at {x} {b} {u} (below p) (within q r) = b + (x - u)
swap_at {x} (below p) (below q) = x
swap_at {x} (below p) (above q) = x
swap_at {x} {b} {u} (above p) (within q r) = b + (x - u)
swap_at {x} (above p) (below q) = x
swap_at {x} (above p) (above q) = x

unfoldable pub swap : ℕ → ℕ → ℕ → ℕ → ℕ
swap b u n x = swap_at (position x b n) (position x u n)

module _ (b u n : ℕ) where
  pub swap-first : (x : ℕ) → b ≤ x → x < b + n → swap b u n x ≡ u + (x - b)
  unfolding swap
  swap-first x p q = go (position x b n) (position x u n)
    where
      go : (s : Position x b n) (t : Position x u n) → swap_at s t ≡ u + (x - b)
      go (within p q) s = refl
      go (below r) s = absurd (omega arith)
      go (above r) s = absurd (omega arith)

  pub swap-second : (x : ℕ) → Apart x 1 b n → u ≤ x → x < u + n → swap b u n x ≡ b + (x - u)
  unfolding swap
  swap-second x o p q = go o (position x b n) (position x u n)
    where
      go : Apart x 1 b n → (s : Position x b n) (t : Position x u n) → swap_at s t ≡ b + (x - u)
      go (inl o) (within p q) s = absurd (omega arith)
      go (inr o) (within p q) s = absurd (omega arith)
      go o (below r) (within v w) = refl
      go o (below r) (below v) = absurd (omega arith)
      go o (below r) (above v) = absurd (omega arith)
      go o (above r) (within v w) = refl
      go o (above r) (below v) = absurd (omega arith)
      go o (above r) (above v) = absurd (omega arith)

  pub swap_off : (x : ℕ) → Apart x 1 b n → Apart x 1 u n → swap b u n x ≡ x
  unfolding swap
  swap_off x o o' = go o o' (position x b n) (position x u n)
    where
      go : Apart x 1 b n → Apart x 1 u n → (s : Position x b n) (t : Position x u n) → swap_at s t ≡ x
      go (inl o) _ (within p q) s = absurd (omega arith)
      go (inr o) _ (within p q) s = absurd (omega arith)
      go _ (inl o) (below r) (within v w) = absurd (omega arith)
      go _ (inr o) (below r) (within v w) = absurd (omega arith)
      go _ _ (below r) (below v) = refl
      go _ _ (below r) (above v) = refl
      go _ (inl o) (above r) (within v w) = absurd (omega arith)
      go _ (inr o) (above r) (within v w) = absurd (omega arith)
      go _ _ (above r) (below v) = refl
      go _ _ (above r) (above v) = refl

  pub swap-swap : SameOrApart b u n → (x : ℕ) → swap b u n (swap b u n x) ≡ x
  swap-swap sep x = go sep (position x b n) (position x u n)
    where
      there : (y : ℕ) → swap b u n x ≡ y → swap b u n y ≡ x → swap b u n (swap b u n x) ≡ x
      there y p q = ap (swap b u n) p ∙ q

      from_b : b ≤ x → x < b + n → SameOrApart b u n → swap b u n (u + (x - b)) ≡ x
      from_b p q (same e) = swap-first (u + (x - b)) (omega arith) (omega arith) ∙ omega arith
      from_b p q (left s) = swap-second (u + (x - b)) (inr (omega arith)) (omega arith) (omega arith) ∙ omega arith
      from_b p q (right s) = swap-second (u + (x - b)) (inl (omega arith)) (omega arith) (omega arith) ∙ omega arith

      from_u : Apart x 1 b n → u ≤ x → x < u + n → swap b u n (swap b u n x) ≡ x
      from_u o p q =
          there (b + (x - u)) (swap-second x o p q)
          (swap-first (b + (x - u)) (omega arith) (omega arith) ∙ omega arith)

      stay : Apart x 1 b n → Apart x 1 u n → swap b u n (swap b u n x) ≡ x
      stay o o' = there x (swap_off x o o') (swap_off x o o')

      go : SameOrApart b u n → Position x b n → Position x u n → swap b u n (swap b u n x) ≡ x
      go s (within p q) v = there (u + (x - b)) (swap-first x p q) (from_b p q s)
      go s (below r) (within v w) = from_u (inl (omega arith)) v w
      go s (above r) (within v w) = from_u (inr r) v w
      go s (below r) (below v) = stay (inl (omega arith)) (inl (omega arith))
      go s (below r) (above v) = stay (inl (omega arith)) (inr v)
      go s (above r) (below v) = stay (inr r) (inl (omega arith))
      go s (above r) (above v) = stay (inr r) (inr v)

-- blocks of a disk of c blocks change places within it
pub swap-bound : (b u n c : ℕ) → b + n ≤ c → u + n ≤ c → (x : ℕ) → x < c → swap b u n x < c
swap-bound b u n c p q x r = go (position x b n) (position x u n)
  where
    go : Position x b n → Position x u n → swap b u n x < c
    go (within s t) v = omega (arith, swap-first b u n x s t)
    go (below s) (within v w) = omega (arith, swap-second b u n x (inl (omega arith)) v w)
    go (above s) (within v w) = omega (arith, swap-second b u n x (inr s) v w)
    go (below s) (below v) = omega (arith, swap_off b u n x (inl (omega arith)) (inl (omega arith)))
    go (below s) (above v) = omega (arith, swap_off b u n x (inl (omega arith)) (inr v))
    go (above s) (below v) = omega (arith, swap_off b u n x (inr s) (inl (omega arith)))
    go (above s) (above v) = omega (arith, swap_off b u n x (inr s) (inr v))

pub swap-disk : (b u n c : ℕ) → SameOrApart b u n → b + n ≤ c → u + n ≤ c → (x : ℕ)
    → in_range (swap b u n x) 0 c ≡ in_range x 0 c
swap-disk b u n c s p q x = go (position x 0 c) (position (swap b u n x) 0 c)
  where
    go : Position x 0 c → Position (swap b u n x) 0 c → in_range (swap b u n x) 0 c ≡ in_range x 0 c
    go (within v w) (within v' w') = in_range_inside (swap b u n x) 0 c v' w' ∙ sym (in_range_inside x 0 c v w)
    go (within v w) (below z) = absurd (omega arith)
    go (within v w) (above z) = absurd (omega (arith, swap-bound b u n c p q x (omega arith)))
    go (below v) z = absurd (omega arith)
    go (above v) (within v' w') =
        absurd (omega (arith, swap-bound b u n c p q (swap b u n x) (omega arith), swap-swap b u n s x))
    go (above v) (below z) = absurd (omega arith)
    go (above v) (above z) = in_range_above (swap b u n x) 0 c z ∙ sym (in_range_above x 0 c v)

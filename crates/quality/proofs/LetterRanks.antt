-- The ranks say which letters are outside the four and which rank above which. Assumes nothing.
use mathlib.Core.Logic.{◌↔◌, ◌⊎◌, inl, inr}
use mathlib.Core.Path.{◌∙◌, ◌≡◌, ap}
use Prim.Native.Nat.{◌<◌, ◌≤◌, suc, zero, ℕ}
use native.Mathlib.Decide.{dec_lt, ℕ_discrete}
use native.Mathlib.Omega.{arith}
use lib.ListN.{get_or}
use Rattle.quality.proofs.Ranks.{rank_of_other, ranks_literal}
use Rattle.quality.specs.Letters.{rank_of}
use Rattle.quality.specs.Ranking.{Above, IsLetter, NotAbove, Outside}

letter-rank : (a x : ℕ) → IsLetter a x → rank_of x ≡ suc a
letter-rank zero x w = ap rank_of w.1 ∙ ap (λ rs. get_or rs 0 0) ranks_literal
letter-rank (suc zero) x w = ap rank_of w.1 ∙ ap (λ rs. get_or rs 1 0) ranks_literal
letter-rank (suc (suc zero)) x w = ap rank_of w.1 ∙ ap (λ rs. get_or rs 2 0) ranks_literal
letter-rank (suc (suc (suc zero))) x w = ap rank_of w.1 ∙ ap (λ rs. get_or rs 3 0) ranks_literal
letter-rank (suc (suc (suc (suc a)))) x w = absurd (omega (arith, w.0))

-- a letter is outside the four, and ranks 0, or one of them
ranked-or-not : (x : ℕ) → (Outside x × (rank_of x ≡ 0)) ⊎ ((a : ℕ) × IsLetter a x)
ranked-or-not x = go (ℕ_discrete x 82) (ℕ_discrete x 68) (ℕ_discrete x 81) (ℕ_discrete x 77)
  where
    go : Dec (x ≡ 82) → Dec (x ≡ 68) → Dec (x ≡ 81) → Dec (x ≡ 77)
        → (Outside x × (rank_of x ≡ 0)) ⊎ ((a : ℕ) × IsLetter a x)
    go (yes e) d q m = inr (0, (omega arith, e))
    go (no r) (yes e) q m = inr (1, (omega arith, e))
    go (no r) (no d) (yes e) m = inr (2, (omega arith, e))
    go (no r) (no d) (no q) (yes e) = inr (3, (omega arith, e))
    go (no r) (no d) (no q) (no m) = inl ((r, d, q, m), rank_of_other x r d q m)

pub outside_rank : (x : ℕ) → Outside x ↔ (rank_of x ≡ 0)
outside_rank x = (λ w. rank_of_other x w.0 w.1 w.2 w.3, from (ranked-or-not x))
  where
    from : (Outside x × (rank_of x ≡ 0)) ⊎ ((a : ℕ) × IsLetter a x) → rank_of x ≡ 0 → Outside x
    from (inl w) e = w.0
    from (inr w) e = absurd (omega (arith, letter-rank w.0 x w.1))

pub not_above_rank : (x y : ℕ) → NotAbove x y ↔ ((1 ≤ rank_of x) × (rank_of x ≤ rank_of y))
not_above_rank x y = (to, from (ranked-or-not x) (ranked-or-not y))
  where
    to : NotAbove x y → (1 ≤ rank_of x) × (rank_of x ≤ rank_of y)
    to (a, b, le, s, t) =
        let new = letter-rank a x s in let old = letter-rank b y t in (omega (arith, new), omega (arith, new, old))

    from : (Outside x × (rank_of x ≡ 0)) ⊎ ((a : ℕ) × IsLetter a x)
        → (Outside y × (rank_of y ≡ 0)) ⊎ ((b : ℕ) × IsLetter b y)
        → (1 ≤ rank_of x) × (rank_of x ≤ rank_of y) → NotAbove x y
    from (inl s) t (some, le) = absurd (omega (arith, s.1))
    from (inr s) (inl t) (some, le) = absurd (omega (arith, t.1))
    from (inr (a, s)) (inr (b, t)) (some, le) = (a, b, omega (arith, letter-rank a x s, letter-rank b y t), s, t)

pub above_rank : (x y : ℕ) → Above x y ↔ (rank_of y < rank_of x)
above_rank x y = (to (ranked-or-not y), from (ranked-or-not x))
  where
    to : (Outside y × (rank_of y ≡ 0)) ⊎ ((b : ℕ) × IsLetter b y) → Above x y → rank_of y < rank_of x
    to (inl t) (a, s, later) = omega (arith, t.1, letter-rank a x s)
    to (inr (b, t)) (a, s, later) =
        let earlier : (a ≤ b → ⊥) = λ le. later b le t in
        omega (arith, earlier, letter-rank a x s, letter-rank b y t)

    from : (Outside x × (rank_of x ≡ 0)) ⊎ ((a : ℕ) × IsLetter a x) → rank_of y < rank_of x → Above x y
    from (inl s) h = absurd (omega (arith, s.1))
    from (inr (a, s)) h = (a, s, λ b le t. omega (arith, letter-rank a x s, letter-rank b y t))

-- two letters are in one of the three cases
pub letters_cases : (x y : ℕ) → Outside x ⊎ (NotAbove x y ⊎ Above x y)
letters_cases x y = go (ranked-or-not x) (dec_lt (rank_of y) (rank_of x))
  where
    go : (Outside x × (rank_of x ≡ 0)) ⊎ ((a : ℕ) × IsLetter a x) → Dec (rank_of y < rank_of x)
        → Outside x ⊎ (NotAbove x y ⊎ Above x y)
    go (inl w) r = inl w.0
    go (inr w) (yes h) = inr (inr ((above_rank x y).1 h))
    go (inr w) (no h) =
        inr (inl ((not_above_rank x y).1 (omega (arith, letter-rank w.0 x w.1), omega (arith, h))))

-- Which blocks the copies of a merge read and write, and where they bring each block. Assumes nothing.
use mathlib.Core.Bool.{Bool, cond, false, true}
use mathlib.Core.List.{[]}
use mathlib.Core.Logic.{inl, inr}
use mathlib.Core.Path.{◌∙◌, ◌≡◌, ap, refl}
use Prim.Native.Nat.{◌+◌, ◌-◌, ◌^◌, ℕ}
use native.Mathlib.Omega.{arith}
use lib.Dec.{eqb}
use borrow.Author.Tests.{eqb-false, eqb-true}
use Rattle.layout.proofs.CopiesFrom.{each_from}
use Rattle.layout.proofs.Lists.{each_imp}
use Rattle.layout.proofs.Origins.{InRun, copy_run_in_run, origin_from, origin_off}
use Rattle.layout.proofs.Ranges.{Position, above, below, position, within}
use Rattle.layout.proofs.Swaps.{swap, swap-first, swap_off}
use Rattle.layout.specs.Lists.{Each, done}
use Rattle.layout.specs.Merges.{origin}
use Rattle.layout.specs.Moves.{SameOrApart, left, right, run_or_none, same}
use Rattle.layout.specs.Removing.{Copy, copies_from, copy_run}
use Rattle.section.specs.Sections.{Apart}

sep_off : (b u n : ℕ) → (b ≡ u → ⊥) → SameOrApart b u n → Apart b n u n
sep_off b u n z (same e) = absurd (z e)
sep_off b u n z (left p) = inl p
sep_off b u n z (right p) = inr p

-- the copies of a merge bring each block that passes the test and is off u to its place under the swap
pub merge-origin : (p : ℕ → Bool) (h b u : ℕ) → SameOrApart b u (2 ^ h) → (x : ℕ) → p x ≡ true
    → Apart x 1 u (2 ^ h)
    → origin (run_or_none p (2 ^ h) b u) (swap b u (2 ^ h) x) ≡ x
unfolding origin
merge-origin p h b u s x held o = go (eqb b u) refl
  where
    stay : (b ≡ u) → Apart x 1 u (2 ^ h) → swap b u (2 ^ h) x ≡ x
    stay e (inl p) = swap_off b u (2 ^ h) x (inl (omega arith)) (inl p)
    stay e (inr p) = swap_off b u (2 ^ h) x (inr (omega arith)) (inr p)

    miss : Apart x 1 u (2 ^ h) → (c : Copy) → InRun b u (2 ^ h) c → x ≡ c.target → ⊥
    miss (inl p) c w e = omega (arith, w.to, w.less)
    miss (inr p) c w e = omega (arith, w.to, w.less)

    fixed : origin (copies_from p (copy_run b u (2 ^ h))) x ≡ x
    fixed = origin_off x (each_imp (λ c w. miss o c w.0) (each_from p (copy_run_in_run b u (2 ^ h))))

    ran : Apart b (2 ^ h) u (2 ^ h) → Position x b (2 ^ h)
        → origin (copies_from p (copy_run b u (2 ^ h))) (swap b u (2 ^ h) x) ≡ x
    ran ob (within q r) =
        let e : b + (x - b) ≡ x = omega arith in
        ap (origin (copies_from p (copy_run b u (2 ^ h)))) (swap-first b u (2 ^ h) x q r)
        ∙ (origin_from p (2 ^ h) b u ob (x - b) (omega arith) (ap p e ∙ held) ∙ e)
    ran ob (below q) =
        ap (origin (copies_from p (copy_run b u (2 ^ h)))) (swap_off b u (2 ^ h) x (inl (omega arith)) o) ∙ fixed
    ran ob (above q) = ap (origin (copies_from p (copy_run b u (2 ^ h)))) (swap_off b u (2 ^ h) x (inr q) o) ∙ fixed

    go : (t : Bool) → eqb b u ≡ t → origin (cond t [] (copies_from p (copy_run b u (2 ^ h)))) (swap b u (2 ^ h) x) ≡ x
    go true e = stay (eqb-true b u e) o
    go false e = ran (sep_off b u (2 ^ h) (eqb-false b u e) s) (position x b (2 ^ h))

-- what is known of a copy of a merge: it goes from a block within b to its place within u, b is not u, and the block
-- passes the test
pub record MergeCopy (p : ℕ → Bool) (h b u : ℕ) (c : Copy) : Type 0 where
  pub run : InRun b u (2 ^ h) c
  pub other : b ≡ u → ⊥
  pub held : p c.source ≡ true

pub merge_within : (p : ℕ → Bool) (h b u : ℕ) → Each (MergeCopy p h b u) (run_or_none p (2 ^ h) b u)
merge_within p h b u = go (eqb b u) refl
  where
    go : (t : Bool) → eqb b u ≡ t → Each (MergeCopy p h b u) (cond t [] (copies_from p (copy_run b u (2 ^ h))))
    go true e = done
    go false e =
        each_imp (λ c w. record { run = w.0; other = eqb-false b u e; held = w.1 })
        (each_from p (copy_run_in_run b u (2 ^ h)))

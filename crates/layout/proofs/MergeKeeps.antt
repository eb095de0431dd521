-- How long a run of copies is, and how long the copies of a merge are at most. Assumes nothing.
use mathlib.Core.Bool.{Bool, cond, false, true}
use mathlib.Core.List.{[]}
use mathlib.Core.Path.{◌≡◌, ap, refl}
use Prim.Native.Nat.{◌^◌, ◌≤◌, suc, zero, ℕ}
use native.Mathlib.Omega.{arith}
use lib.Dec.{eqb}
use lib.ListN.{length}
use Rattle.layout.proofs.CopiesFrom.{count_from_lem, counted-le}
use Rattle.layout.specs.Moves.{run_or_none}
use Rattle.layout.specs.Removing.{copies_from, copy_run}

pub length-copy_run : (b u n : ℕ) → length (copy_run b u n) ≡ n
unfolding copy_run
length-copy_run b u zero = refl
length-copy_run b u (suc n) = ap suc (length-copy_run (suc b) (suc u) n)

pub copies-le : (p : ℕ → Bool) (h b u : ℕ) → length (run_or_none p (2 ^ h) b u) ≤ 2 ^ h
copies-le p h b u = go (eqb b u)
  where
    go : (t : Bool) → length (cond t [] (copies_from p (copy_run b u (2 ^ h)))) ≤ 2 ^ h
    go true = omega arith
    go false = omega (arith, count_from_lem p (2 ^ h) b u, counted-le p (2 ^ h) b)

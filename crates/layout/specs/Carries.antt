-- The limit on the copies of a removal: the place values at which f + n carries. Definitions only.
use Rattle.std.specs.Prelude.{true, false, ℕ, zero, suc, ◌+◌, ◌^◌, ◌%◌, leb}

-- the sum of the place values 2 ^ h below 2 ^ k at which f + n carries: the remainders by 2 ^ (h + 1) add up to at
-- least
-- 2 ^ (h + 1)
unfoldable pub carries : ℕ → ℕ → ℕ → ℕ
carries zero f n = 0
carries (suc h) f n =
    elim (leb (2 ^ suc h) (f % 2 ^ suc h + n % 2 ^ suc h)) as (λ _. ℕ) [
      | true ↦ 2 ^ h + carries h f n
      | false ↦ carries h f n
    ]

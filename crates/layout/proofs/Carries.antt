-- What carries, in the words of document 01 and in literal numbers: f + n carries at the place value 2 ^ h if the
-- remainders of f and n by 2 ^ (h + 1) add up to at least 2 ^ (h + 1). Assumes nothing.
use mathlib.Core.List.{[], ◌∷◌}
use mathlib.Core.Path.{◌≡◌, refl}
use Prim.Native.Nat.{◌%◌, ◌+◌, ◌<◌, ◌^◌, ◌≤◌, suc, ℕ}
use native.Mathlib.Omega.{arith}
use borrow.Author.Tests.{le-leb, lt-leb}
use Rattle.layout.specs.Carries.{carries}

-- no place value is below 2 ^ 0
pub carries-none : (f n : ℕ) → carries 0 f n ≡ 0
unfolding carries
carries-none f n = refl

-- the place value counts where f + n carries at it
pub carries-at : (h f n : ℕ) → 2 ^ suc h ≤ f % 2 ^ suc h + n % 2 ^ suc h
    → carries (suc h) f n ≡ carries h f n + 2 ^ h
unfolding carries
carries-at h f n e = rw (le-leb (2 ^ suc h) (f % 2 ^ suc h + n % 2 ^ suc h) e, carries) (omega arith)

-- and nowhere else
pub carries-not-at : (h f n : ℕ) → f % 2 ^ suc h + n % 2 ^ suc h < 2 ^ suc h → carries (suc h) f n ≡ carries h f n
unfolding carries
carries-not-at h f n e = rw (lt-leb (2 ^ suc h) (f % 2 ^ suc h + n % 2 ^ suc h) e, carries)

-- ---- in literal numbers

-- cases 7, 9, 10 and 11, and two removals that copy more (28 blocks, and three free pieces of one height)
pub carries_of_cases :
    carries 21 10 3 ∷ carries 21 1 1 ∷ carries 21 3 1 ∷ carries 21 3 1 ∷ carries 21 3 15 ∷ carries 21 3 3 ∷ []
    ≡ 2 ∷ 1 ∷ 3 ∷ 3 ∷ 15 ∷ 3 ∷ []
unfolding carries
carries_of_cases = refl

-- no carry: nothing added, and ones at other places
pub carries_nowhere : carries 21 7 0 ∷ carries 21 10 5 ∷ carries 21 524288 524287 ∷ [] ≡ 0 ∷ 0 ∷ 0 ∷ []
unfolding carries
carries_nowhere = refl

-- at the greatest place of the two versions alone, and at every place
pub carries-greatest :
    carries 13 2048 2048 ∷ carries 13 1 4095 ∷ carries 21 524288 524288 ∷ carries 21 1 1048575 ∷ []
    ≡ 2048 ∷ 4095 ∷ 524288 ∷ 1048575 ∷ []
unfolding carries
carries-greatest = refl

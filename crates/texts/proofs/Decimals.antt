-- Decimals: what the library writes of a number is its decimal, and how many digits there are. Assumes nothing.
use mathlib.Core.List.{[], ◌++◌, ◌∷◌}
use mathlib.Core.Logic.{⊎_elim}
use mathlib.Core.Path.{◌∙◌, ◌≡◌, ap, sym}
use Prim.Native.Nat.{◌%◌, ◌+◌, ◌/◌, ◌<◌, ◌^◌, ◌≤◌, suc, zero, ℕ}
use native.Mathlib.Nat.{div-lt_iff_lt-mul}
use native.Mathlib.Omega.{arith}
use lib.Dec.{lit<}
use lib.ListN.{length, length-append}
use borrow.Author.Tests.{le-ltb, lt-ltb}
use Rattle.std.specs.Fmt.{decimal as library_decimal}
use Rattle.std.proofs.lemmas.Fmt.{decimal_digit, decimal_step}
use Rattle.manager.specs.Printing.{decimal, decimal_in, digit_zero}
use Rattle.section.proofs.Multiples.{below_or_not}

one-digit : (k n : ℕ) → n < 10 → decimal_in (suc k) n ≡ (digit_zero + n) ∷ []
unfolding decimal_in
one-digit k n h = rw (lt-ltb n 10 h, decimal_in)

last-digit : (k n : ℕ) → 10 ≤ n → decimal_in (suc k) n ≡ decimal_in k (n / 10) ++ ((digit_zero + n % 10) ∷ [])
unfolding decimal_in
last-digit k n h = rw (le-ltb n 10 h, decimal_in)

-- with places enough it is what the library writes
library-in : (k n : ℕ) → n < 10 ^ suc k → n < 2 ^ 64 → library_decimal n ≡ decimal_in (suc k) n
library-in zero n h f = decimal_digit n (omega arith) ∙ sym (one-digit 0 n (omega arith))
library-in (suc k) n h f =
    ⊎_elim (λ l. decimal_digit n l ∙ sym (one-digit (suc k) n l))
    (λ g.
    let fewer : n / 10 < 10 ^ suc k =
    (div-lt_iff_lt-mul {k = 10} {x = n} {y = 10 ^ suc k} (lit< tt)).1 (omega arith) in
    decimal_step n g f
    ∙ ap (λ z. z ++ ((digit_zero + n % 10) ∷ [])) (library-in k (n / 10) fewer (omega arith))
    ∙ sym (last-digit (suc k) n g))
    (below_or_not n 10)

pub library_writes : (n : ℕ) → n < 2 ^ 32 → library_decimal n ≡ decimal n
library_writes n h = library-in 9 n (omega arith) (omega arith)

-- at most as many digits as places
pub digits_most : (k n : ℕ) → length (decimal_in k n) ≤ k
unfolding decimal_in
digits_most zero n = omega arith
digits_most (suc k) n =
    ⊎_elim (λ l. omega (arith, ap length (one-digit k n l)))
    (λ g. omega (
      arith,
      ap length (last-digit k n g) ∙ length-append (decimal_in k (n / 10)) ((digit_zero + n % 10) ∷ []),
      digits_most k (n / 10),
    ))
    (below_or_not n 10)

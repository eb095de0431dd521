-- A decimal read back is its number, and it has no leading zero. Assumes nothing.
use mathlib.Core.Bool.{true}
use mathlib.Core.List.{List, [], ◌∷◌}
use mathlib.Core.Path.{◌∙◌, ◌≡◌, ap, subst, sym}
use Prim.Native.Nat.{◌*◌, ◌+◌, ◌-◌, ◌<◌, ◌^◌, ◌≤◌, ℕ}
use native.Mathlib.Omega.{arith}
use borrow.Author.Rules.{rules}
use lib.ListN.{get_or}
use Rattle.std.specs.Str.{all_ascii_digits}
use Rattle.std.proofs.lemmas.Fmt.{digits_value-decimal, first_decimal}
use Rattle.std.proofs.lemmas.Str.Parse.{IsNumeralModel, numerals_by_fold}
use Rattle.manager.specs.Printing.{decimal, digit_zero}
use Rattle.texts.proofs.Decimals.{library_writes}

-- the number that the digits say, behind the digits of v
abbrev value_from : ℕ → List ℕ → ℕ
value_from v [] = v
value_from v (d ∷ l) = value_from (10 * v + (d - digit_zero)) l

-- the number of a text of digits
abbrev pub value_of : List ℕ → ℕ
value_of l = value_from 0 l

numerals : IsNumeralModel (λ l. all_ascii_digits l ≡ true) value_of
numerals = numerals_by_fold _ (search rules) value_from (search rules)

pub decimal_value : (n : ℕ) → n < 2 ^ 32 → value_of (decimal n) ≡ n
decimal_value n h = ap value_of (sym (library_writes n h)) ∙ digits_value-decimal numerals n (omega arith)

pub no_leading_zero : (n : ℕ) → n < 2 ^ 32 → 1 ≤ n → digit_zero < get_or (decimal n) 0 0
no_leading_zero n h p = subst (λ l. digit_zero < get_or l 0 0) (library_writes n h) (first_decimal n p (omega arith))

-- The number of a reply beside the book's: what it is, and that it tells what alters anything. Assumes nothing.
use mathlib.Core.Path.{◌∙◌, ◌≡◌, ap, refl}
use Prim.Native.Nat.{◌≤◌, ℕ}
use native.Mathlib.Omega.{arith}
use lib.IntN.{ℤ, neg_ℤ, pos}
use Rattle.manager.specs.Book.{BookReply, answers, any_number, fits, in_any_order, most_lines, refuses}
use Rattle.manager.specs.Call.{Call, add, breaks, check, free, read, remove, replace, which}
use Rattle.manager.specs.Conditions.{Reply, answered, fits_already, refused}
use Rattle.manager.specs.WholeList.{Alters, RepliesAgree}
use Rattle.evdisk.specs.Codes.{code_of, fits_number}
use Rattle.evdisk.specs.ExportedList.{AltersBy, CodeOfBook}

-- the number of a reply that agrees with the book is the one that the book asks for
pub code_of_book : (y : Reply) (s : BookReply) → ((n : ℕ) → s ≡ refuses n → 1 ≤ n)
    → ((m n : ℕ) → y ≡ answered m → s ≡ in_any_order n → m ≤ most_lines) → RepliesAgree y s → (r : ℤ) → r ≡ code_of y
    → CodeOfBook s r
code_of_book (refused m) (refuses k) some few e r q = (some k refl, q ∙ ap (λ z. neg_ℤ (pos z)) e)
code_of_book (answered m) (answers k) some few e r q = q ∙ ap pos e
code_of_book (answered m) any_number some few e r q = (m, q)
code_of_book (answered m) (in_any_order k) some few e r q = (omega (arith, e, few m k refl refl), q ∙ ap pos e)
code_of_book fits_already fits some few e r q = q
code_of_book (refused m) (answers k) some few e r q = absurd e
code_of_book (refused m) any_number some few e r q = absurd e
code_of_book (refused m) (in_any_order k) some few e r q = absurd e
code_of_book (refused m) fits some few e r q = absurd e
code_of_book (answered m) (refuses k) some few e r q = absurd e
code_of_book (answered m) fits some few e r q = absurd e
code_of_book fits_already (refuses k) some few e r q = absurd e
code_of_book fits_already (answers k) some few e r q = absurd e
code_of_book fits_already any_number some few e r q = absurd e
code_of_book fits_already (in_any_order k) some few e r q = absurd e

-- what alters anything by its reply does so by its number
pub alters_by : (c : Call) (y : Reply) (r : ℤ) → r ≡ code_of y → Alters c y → AltersBy c r
alters_by (add i bs) (answered n) r e a = (n, e)
alters_by (add i bs) (refused n) r e a = absurd a
alters_by (add i bs) fits_already r e a = (fits_number, e)
alters_by (remove i) (answered n) r e a = (n, e)
alters_by (remove i) (refused n) r e a = absurd a
alters_by (remove i) fits_already r e a = (fits_number, e)
alters_by (replace i bs) (answered n) r e a = (n, e)
alters_by (replace i bs) (refused n) r e a = absurd a
alters_by (replace i bs) fits_already r e a = (fits_number, e)
alters_by (read i p o) y r e a = absurd a
alters_by (breaks i) y r e a = absurd a
alters_by (which n o) y r e a = absurd a
alters_by free y r e a = absurd a
alters_by check y r e a = absurd a

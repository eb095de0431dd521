-- The plain book's quality letters (document 02, W1), on pages alone. Definitions only.
use Rattle.std.specs.Prelude.{cond, List, [], ◌∷◌, suc, ℕ, eqb, get_or}

-- R, D, Q, M, lowest rank first
abbrev pub ranked : List ℕ
ranked = 0x52 ∷ 0x44 ∷ 0x51 ∷ 0x4d ∷ []

-- where x stands in a list, counted from k, or 0
unfoldable pub counted_from : ℕ → ℕ → List ℕ → ℕ
counted_from k x [] = 0
counted_from k x (y ∷ l) = cond (eqb x y) k (counted_from (suc k) x l)

-- byte 6 of the first page
unfoldable pub letter_on : List (List ℕ) → ℕ
letter_on [] = 0
letter_on (p ∷ l) = get_or p 6 0

-- its rank, 0 outside the four
unfoldable pub book_rank : List (List ℕ) → ℕ
book_rank ps = counted_from 1 (letter_on ps) ranked

-- The quality letters of miniSEED records and their ranks, as request W1 has them. Definitions only.
use Rattle.std.specs.Prelude.{cond, List, [], ℕ, eqb, get_or, Option, Some, None}
use Rattle.quality.specs.declared.Rank.{Rank}
use Rattle.quality.specs.declared.Rank.TheVariants.{R, D, Q, M}

-- the letters R, D, Q and M as bytes
abbrev pub letter_r : ℕ
letter_r = 82

abbrev pub letter_d : ℕ
letter_d = 68

abbrev pub letter_q : ℕ
letter_q = 81

abbrev pub letter_m : ℕ
letter_m = 77

-- ranked R, D, Q, M, lowest first; a letter outside the four ranks below all
unfoldable pub rank_of : ℕ → ℕ
rank_of x = cond (eqb x letter_r) 1 (cond (eqb x letter_d) 2 (cond (eqb x letter_q) 3 (cond (eqb x letter_m) 4 0)))

-- the number of a rank, and 0 for no rank
abbrev pub rank_number : Option Rank → ℕ
rank_number None = 0
rank_number (Some R) = 1
rank_number (Some D) = 2
rank_number (Some Q) = 3
rank_number (Some M) = 4

-- the byte of a record, counted from 0, that is its quality letter
abbrev pub letter_place : ℕ
letter_place = 6

-- the quality letter of the first of these pages
unfoldable pub first_letter : List (List ℕ) → ℕ
first_letter ps = get_or (get_or ps 0 []) letter_place 0

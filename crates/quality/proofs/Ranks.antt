-- The ranks of quality letters, by literal bytes and for every other letter, and where the letter of some pages stands.
-- Assumes nothing.
use mathlib.Core.Bool.{false, true}
use mathlib.Core.List.{List, [], ◌∷◌, map}
use mathlib.Core.Path.{◌≡◌, refl}
use Prim.Native.Nat.{◌≤◌, ℕ}
use native.Mathlib.Omega.{arith}
use lib.ListN.{get_or}
use borrow.Author.Tests.{ne_eqb}
use Rattle.quality.specs.Letters.{first_letter, rank_number, rank_of}
use Rattle.quality.specs.declared.Rank.{Rank}
use Rattle.quality.specs.declared.Rank.TheVariants.{R, D, Q, M}
use Rattle.std.specs.Option.{is_some}
use Rattle.std.specs.Prelude.{Option, Some, None}

-- R, D, Q and M, the letters beside them, small letters, and what is no letter
pub ranks_literal : map rank_of
    (82 ∷ 68 ∷ 81 ∷ 77 ∷ 65 ∷ 67 ∷ 69 ∷ 76 ∷ 78 ∷ 80 ∷ 83 ∷ 114 ∷ 100 ∷ 113 ∷ 109 ∷ 0 ∷ 32 ∷ 255 ∷ [])
    ≡ 1 ∷ 2 ∷ 3 ∷ 4 ∷ 0 ∷ 0 ∷ 0 ∷ 0 ∷ 0 ∷ 0 ∷ 0 ∷ 0 ∷ 0 ∷ 0 ∷ 0 ∷ 0 ∷ 0 ∷ 0 ∷ []
unfolding rank_of
ranks_literal = refl

-- a letter outside the four ranks below all
pub rank_of_other : (x : ℕ) → (x ≡ 82 → ⊥) → (x ≡ 68 → ⊥) → (x ≡ 81 → ⊥) → (x ≡ 77 → ⊥) → rank_of x ≡ 0
unfolding rank_of
rank_of_other x r d q m = rw (ne_eqb x 82 r, ne_eqb x 68 d, ne_eqb x 81 q, ne_eqb x 77 m)

-- the letter is byte 6 of the first page, counted from 0
pub first-letter : (p : List ℕ) (ps : List (List ℕ)) → first_letter (p ∷ ps) ≡ get_or p 6 0
unfolding first_letter
first-letter p ps = refl

-- no rank has the number 0, and it alone
pub no_rank : (r : Option Rank) → is_some r ≡ false → rank_number r ≡ 0
no_rank None e = refl
no_rank (Some r) e = absurd (let z : ◌≡◌ {A = ℕ} 0 1 = cc in omega arith)

pub some-rank : (r : Option Rank) → is_some r ≡ true → 1 ≤ rank_number r
some-rank None e = absurd (let z : ◌≡◌ {A = ℕ} 0 1 = cc in omega arith)
some-rank (Some R) e = omega arith
some-rank (Some D) e = omega arith
some-rank (Some Q) e = omega arith
some-rank (Some M) e = omega arith

-- Divisions in literal numbers: which lists of lengths divide 7 blocks and which do not, which have not the fewest
-- pieces, and a layout that has not. These pin the definitions within this crate. Assumes nothing.
use mathlib.Core.List.{[], ◌∷◌}
use mathlib.Core.Logic.{◌⊎◌, inl, inr}
use mathlib.Core.Path.{◌≡◌, refl}
use Prim.Native.Nat.{◌<◌, ◌^◌, ◌≤◌, suc, ℕ}
use native.Mathlib.Omega.{arith}
use lib.Pow.{pow_mono, pow_pos}
use Rattle.layout.proofs.Lists.{each_head, each_tail}
use Rattle.layout.specs.Cases.{disk, file}
use Rattle.layout.specs.Divisions.{Divides, Fewest, FewestPieces, PowerOf, SmallestNumber, lengths_of}
use Rattle.layout.specs.Lists.{done, more}
use Rattle.section.proofs.Multiples.{below_or_not}
use Rattle.section.specs.Sections.{section}

-- ---- divisions

-- as 4, 2 and 1, in another order, with a length that repeats, and block by block
pub divisions_of_seven :
    Divides 2 7 (4 ∷ 2 ∷ 1 ∷ [])
    × Divides 2 7 (1 ∷ 4 ∷ 2 ∷ [])
    × Divides 2 7 (2 ∷ 2 ∷ 2 ∷ 1 ∷ [])
    × Divides 2 7 (1 ∷ 1 ∷ 1 ∷ 1 ∷ 1 ∷ 1 ∷ 1 ∷ [])
divisions_of_seven = (
  record { powers = more (2, refl) (more (1, refl) (more (0, refl) done)); sum = refl },
  record { powers = more (0, refl) (more (2, refl) (more (1, refl) done)); sum = refl },
  record { powers = more (1, refl) (more (1, refl) (more (1, refl) (more (0, refl) done))); sum = refl },
  record {
    powers = more one (more one (more one (more one (more one (more one (more one done))))));
    sum = refl;
  },
)
  where
    one : PowerOf 2 1
    one = (0, refl)

-- ---- no divisions

-- a number between a power of two and the next is none
between_powers : (h x : ℕ) → 2 ^ h < x → x < 2 ^ suc h → PowerOf 2 x → ⊥
between_powers h x low high (j, e) = go (below_or_not h j)
  where
    go : (h < j) ⊎ (j ≤ h) → ⊥
    go (inl p) = omega (arith, e, pow_mono {i = suc h} {j = j} p)
    go (inr p) = omega (arith, e, pow_mono {i = j} {j = h} p)

-- one block too few and one too many; 7 and 3 are no powers of two, nor is 0
pub no_divisions_of_seven :
    (Divides 2 7 (4 ∷ 2 ∷ []) → ⊥)
    × (Divides 2 7 (8 ∷ []) → ⊥)
    × (Divides 2 7 (7 ∷ []) → ⊥)
    × (Divides 2 7 (4 ∷ 3 ∷ []) → ⊥)
    × (Divides 2 7 (0 ∷ 4 ∷ 2 ∷ 1 ∷ []) → ⊥)
no_divisions_of_seven = (
  λ d. omega (arith, d.sum),
  λ d. omega (arith, d.sum),
  λ d. between_powers 2 7 (omega arith) (omega arith) (each_head d.powers),
  λ d. between_powers 1 3 (omega arith) (omega arith) (each_head (each_tail d.powers)),
  λ d. let power = each_head d.powers in omega (arith, power.1, pow_pos power.0),
)

-- ---- not the fewest

-- more pieces than need be, and fewer that are no division of 7
pub not_fewest_of_seven :
    (Fewest 2 7 (4 ∷ 1 ∷ 1 ∷ 1 ∷ []) → ⊥)
    × (Fewest 2 7 (2 ∷ 2 ∷ 2 ∷ 1 ∷ []) → ⊥)
    × (Fewest 2 7 (4 ∷ 2 ∷ []) → ⊥)
    × (SmallestNumber 2 7 4 → ⊥)
not_fewest_of_seven = (
  λ f. omega (arith, f.none_fewer (4 ∷ 2 ∷ 1 ∷ []) divisions_of_seven.0),
  λ f. omega (arith, f.none_fewer (4 ∷ 2 ∷ 1 ∷ []) divisions_of_seven.0),
  λ f. omega (arith, f.divides.sum),
  λ s. omega (arith, s.number, s.fewest.none_fewer (4 ∷ 2 ∷ 1 ∷ []) divisions_of_seven.0),
)

-- ---- pieces

-- case 11, id 2 after the removal
pub lengths_of_pieces : lengths_of (section 0 2 ∷ section 14 1 ∷ section 13 0 ∷ []) ≡ 4 ∷ 2 ∷ 1 ∷ []
lengths_of_pieces = refl

four-blocks : Divides 2 4 (4 ∷ [])
four-blocks = record { powers = more (2, refl) done; sum = refl }

-- of 8 blocks a file has 4 in two pieces, or 4 are free in two: one piece would do
pub not_fewest_of_eight :
    (FewestPieces 2 (disk 8 (file 1 (section 4 1 ∷ section 6 1 ∷ []) ∷ []) (section 0 2 ∷ [])) → ⊥)
    × (FewestPieces 2 (disk 8 (file 1 (section 4 2 ∷ []) ∷ []) (section 0 1 ∷ section 2 1 ∷ [])) → ⊥)
not_fewest_of_eight = (
  λ p. omega (arith, (each_head p.files).none_fewer (4 ∷ []) four-blocks),
  λ p. omega (arith, p.free.none_fewer (4 ∷ []) four-blocks),
)

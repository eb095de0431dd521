-- A call whose checks go by rising number is refused with a number exactly if that is the number of the lowest refusal
-- of the table that applies and that the call may give; and every call but a replacement is such a call.
-- Assumes nothing.
use mathlib.Core.List.{List}
use mathlib.Core.Logic.{◌↔◌}
use mathlib.Core.Path.{◌≡◌, refl}
use Prim.Native.Nat.{ℕ}
use native.Mathlib.Omega.{arith}
use Rattle.catalogue.specs.Encoding.{Bytes}
use Rattle.manager.proofs.FirstRefusal.{first_refusal_lem}
use Rattle.manager.proofs.NumberPlaces.{before_lower, lower_before}
use Rattle.manager.specs.Call.{Call, add, breaks, check, free, read, remove, replace, which}
use Rattle.manager.specs.Conditions.{refused}
use Rattle.manager.specs.Outcomes.{perform}
use Rattle.manager.specs.Table.{First, InNumberOrder, Lowest, Refusal, number_of, numbers_of}

-- every call but a replacement checks by rising number
pub in_number_order : (c : Call) → ((i : ℕ) (bs : List ℕ) → c ≡ replace i bs → ⊥) → InNumberOrder c
in_number_order (add i bs) other = refl
in_number_order (remove i) other = refl
in_number_order (replace i bs) other = absurd (other i bs refl)
in_number_order (read i p o) other = refl
in_number_order (breaks i) other = refl
in_number_order (which n o) other = refl
in_number_order free other = refl
in_number_order check other = refl

-- and a replacement does not
pub replacement_order : (i : ℕ) (bs : List ℕ) → InNumberOrder (replace i bs) → ⊥
replacement_order i bs e = let z : ◌≡◌ {A = ℕ} 0 1 = cc in omega arith

module _ (c : Call) (cat d : List ℕ) (rising : InNumberOrder c) where
  -- then the first refusal that applies is the lowest
  first-lowest : (r : Refusal) → First c cat d r → Lowest c cat d r
  first-lowest r s = record {
    by = s.by;
    given = s.given;
    lowest = λ q lower by.
        s.first q (lower_before (numbers_of c) rising (number_of q) (number_of r) by s.by lower) by;
  }

  lowest-first : (r : Refusal) → Lowest c cat d r → First c cat d r
  lowest-first r s = record {
    by = s.by;
    given = s.given;
    first = λ q before by.
        s.lowest q (before_lower (numbers_of c) rising (number_of q) (number_of r) by s.by before) by;
  }

  -- the call is refused with a number exactly if it is that of the table's lowest refusal that applies
  pub lowest_refusal : Bytes cat → (n : ℕ)
      → ((perform c cat d).reply ≡ refused n) ↔ ((r : Refusal) × (number_of r ≡ n) × Lowest c cat d r)
  lowest_refusal bytes n = (
    λ e. let w = (first_refusal_lem c cat d bytes n).0 e in (w.0, w.1, first-lowest w.0 w.2),
    λ w. (first_refusal_lem c cat d bytes n).1 (w.0, w.1, lowest-first w.0 w.2),
  )

-- The number of a removal or a replacement is within the carries because its answer is, and that of breaks within the
-- ones of n less one. Assumes nothing.
use mathlib.Core.List.{List}
use mathlib.Core.Logic.{◌⊎◌, inl, inr}
use mathlib.Core.Path.{◌≡◌, ◌∙◌, refl, subst, sym}
use Prim.Native.Nat.{ℕ, suc, zero, ◌-◌, ◌≤◌}
use native.Mathlib.Omega.{arith}
use lib.Count.{ones}
use lib.IntN.{ℤ, negsuc, pos}
use Rattle.layout.specs.Carries.{carries}
use Rattle.layout.specs.Layout.{file_blocks, free_blocks}
use Rattle.section.specs.Limits.{height_count}
use Rattle.event_disk.specs.Limit.{WithinCarries, WithinOnes}
use Rattle.manager.proofs.OnlyWhich.{only_which_fits}
use Rattle.manager.specs.Call.{Call, breaks, which}
use Rattle.manager.specs.Conditions.{Reply, answered, fits_already, refused}
use Rattle.manager.specs.Outcomes.{perform}
use Rattle.manager.specs.WholeList.{Strikes}
use Rattle.evdisk.specs.Codes.{CodeWithinCarries, CodeWithinOnes, code_of}

-- no removal and no replacement says "fits already"
pub strikes_never_fits : (i : ℕ) (c : Call) (cat d : List ℕ) → Strikes i c → (perform c cat d).reply ≡ fits_already → ⊥
strikes_never_fits i c cat d s e = subst (Strikes i) (only_which_fits c cat d e).2 s

-- and breaks do not either
pub breaks-apart : (i n : ℕ) (o : List ℕ) → breaks i ≡ which n o → ⊥
breaks-apart i n o e = let z : ◌≡◌ {A = ℕ} 0 1 = cc in omega arith

pub breaks_never_fits : (i : ℕ) (cat d : List ℕ) → (perform (breaks i) cat d).reply ≡ fits_already → ⊥
breaks_never_fits i cat d e = let w = only_which_fits (breaks i) cat d e in breaks-apart i w.0 w.1 w.2

-- a number below 0 is none
no_number : (m n : ℕ) → negsuc m ≡ pos n → n ≡ 0
no_number m n e = cc

-- a number that is no refusal stands for the answer, or is 0
code_answered : (y : Reply) (n : ℕ) → (y ≡ fits_already → ⊥) → code_of y ≡ pos n → (y ≡ answered n) ⊎ (n ≡ 0)
code_answered (answered m) n other e = inl (cc)
code_answered (refused zero) n other e = inr (cc)
code_answered (refused (suc m)) n other e = inr (no_number m n e)
code_answered fits_already n other e = absurd (other refl)

-- so it has the limit of the answer
code_most : (m : ℕ) (y : Reply) (r : ℤ) → (y ≡ fits_already → ⊥) → r ≡ code_of y → ((n : ℕ) → y ≡ answered n → n ≤ m)
    → (n : ℕ) → r ≡ pos n → n ≤ m
code_most m y r other same within n e = go (code_answered y n other (sym same ∙ e))
  where
    go : (y ≡ answered n) ⊎ (n ≡ 0) → n ≤ m
    go (inl a) = within n a
    go (inr z) = omega (arith, z)

pub code_within : (cat : List ℕ) (i : ℕ) (y : Reply) (r : ℤ) → (y ≡ fits_already → ⊥) → r ≡ code_of y
    → WithinCarries cat i y → CodeWithinCarries cat i r
code_within cat i y r other same within l f n h there =
    code_most (carries height_count (free_blocks l) (file_blocks f)) y r other same (λ m. within l f m h there) n

pub code_within_ones : (cat : List ℕ) (i : ℕ) (y : Reply) (r : ℤ) → (y ≡ fits_already → ⊥) → r ≡ code_of y
    → WithinOnes cat i y → CodeWithinOnes cat i r
code_within_ones cat i y r other same within l f n h there =
    code_most (ones (file_blocks f) - 1) y r other same (λ m. within l f m h there) n

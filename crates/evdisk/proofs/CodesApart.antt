-- The number that comes back tells a refusal from an answer, and one refusal from another. Assumes nothing.
use mathlib.Core.List.{[], ◌++◌, ◌∷◌, map}
use mathlib.Core.Path.{◌≡◌, ap, refl}
use Prim.Native.Nat.{suc, zero, ◌≤◌, ℕ}
use native.Mathlib.Omega.{arith}
use lib.IntN.{negsuc, pos}
use Rattle.std.specs.Prelude.{Err, Ok}
use Rattle.answers.specs.Answers.{reply_of}
use Rattle.answers.specs.declared.Answered.TheVariants as Answered·
use Rattle.answers.specs.declared.Refusal.TheVariants as Refusal·
use Rattle.manager.specs.Conditions.{Reply, answered, fits_already, refused}
use Rattle.section.specs.Limits.{most_files}
use Rattle.evdisk.specs.Codes.{code_of, fits_number}

-- a number below 0 is none of 0 and more
pub below_zero : (n m : ℕ) → negsuc n ≡ pos m → ⊥
below_zero n m e = let z : ◌≡◌ {A = ℕ} 0 1 = cc in omega arith

-- the number of a refusal is never that of an answer
pub codes-apart : (n m : ℕ) → 1 ≤ n → code_of (refused n) ≡ code_of (answered m) → ⊥
codes-apart zero m some e = omega (arith, some)
codes-apart (suc n) m some e = below_zero n m e

-- two refusals have two numbers
pub refusals-apart : (n m : ℕ) → code_of (refused n) ≡ code_of (refused m) → n ≡ m
refusals-apart zero zero e = refl
refusals-apart zero (suc m) e = let z : ◌≡◌ {A = ℕ} 0 1 = cc in omega arith
refusals-apart (suc n) zero e = let z : ◌≡◌ {A = ℕ} 0 1 = cc in omega arith
refusals-apart (suc n) (suc m) e = let z : n ≡ m = cc in ap suc z

-- a number that is 0 or more is the answered one, but for that of "fits already"
pub code-answer : (y : Reply) → ((m : ℕ) → y ≡ refused m → 1 ≤ m) → (n : ℕ)
    → (y ≡ fits_already → n ≡ fits_number → ⊥) → code_of y ≡ pos n → y ≡ answered n
code-answer (answered m) some n other e = cc
code-answer (refused m) some n other e = absurd (codes-apart m n (some m refl) e)
code-answer fits_already some n other e = absurd (other refl (let z : n ≡ fits_number = cc in z))

-- no count of files has the number of "fits already"
pub counts_apart : (k : ℕ) → k ≤ most_files → code_of (answered k) ≡ code_of fits_already → ⊥
counts_apart k few e = let z : k ≡ fits_number = cc in omega (arith, z, few)

-- every refusal of the code and its number, -1 to -14, two answers and "fits already"
pub literal_codes : map (λ r. code_of (reply_of (Err r)))
    (Refusal·.CatalogueLength ∷ Refusal·.NoDisk ∷ Refusal·.NotSound ∷ Refusal·.DiskLength ∷ Refusal·.IdZero
    ∷ Refusal·.IdMissing ∷ Refusal·.IdThere ∷ Refusal·.BufferLength ∷ Refusal·.PastEnd ∷ Refusal·.FilesFull
    ∷ Refusal·.NoSpace ∷ Refusal·.LetterUnknown ∷ Refusal·.LetterNotAbove ∷ Refusal·.ListLength ∷ [])
    ++ map (λ a. code_of (reply_of (Ok a))) (Answered·.Number 0 ∷ Answered·.Number 7 ∷ Answered·.FitsAlready ∷ [])
    ≡ negsuc 0 ∷ negsuc 1 ∷ negsuc 2 ∷ negsuc 3 ∷ negsuc 4 ∷ negsuc 5 ∷ negsuc 6 ∷ negsuc 7 ∷ negsuc 8 ∷ negsuc 9
    ∷ negsuc 10 ∷ negsuc 11 ∷ negsuc 12 ∷ negsuc 13 ∷ pos 0 ∷ pos 7 ∷ pos 256 ∷ []
literal_codes = refl

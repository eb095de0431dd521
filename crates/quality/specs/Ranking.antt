-- Which quality letters are outside the four and which rank above which, by literal bytes. Definitions only.
use Rattle.std.specs.Prelude.{[], ◌∷◌, ◌≡◌, ◌<◌, ◌≤◌, ℕ, get_or}

-- x is none of R, D, Q, M
abbrev pub Outside : ℕ → Type 0
Outside x = (x ≡ 82 → ⊥) × (x ≡ 68 → ⊥) × (x ≡ 81 → ⊥) × (x ≡ 77 → ⊥)

-- x is letter a of R, D, Q, M, counted from 0
abbrev pub IsLetter : ℕ → ℕ → Type 0
IsLetter a x = (a < 4) × (x ≡ get_or (82 ∷ 68 ∷ 81 ∷ 77 ∷ []) a 0)

-- x is one of the four, and y the same or a later one
abbrev pub NotAbove : ℕ → ℕ → Type 0
NotAbove x y = (a : ℕ) × (b : ℕ) × (a ≤ b) × IsLetter a x × IsLetter b y

-- x is one of the four, and y neither the same nor a later one
abbrev pub Above : ℕ → ℕ → Type 0
Above x y = (a : ℕ) × IsLetter a x × ((b : ℕ) → a ≤ b → IsLetter b y → ⊥)

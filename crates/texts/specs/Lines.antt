-- What the functions that write text promise: bytes after those that stand already. Definitions only.
use Rattle.std.specs.Prelude.{List, ◌++◌, ◌≡◌, ℕ, ◌+◌, ◌≤◌, length, take}
use Rattle.manager.specs.Printing.{decimal, line_end}

-- there is room for the text from `at` on
pub record Room (at : ℕ) (text out : List ℕ) : Type 0 where
  pub fits : at + length text ≤ length out

-- out' has the text behind the first `at` bytes of out, and r is the place behind the text
pub record Appends (at : ℕ) (text out out' : List ℕ) (r : ℕ) : Type 0 where
  pub bytes : take r out' ≡ take at out ++ text
  pub next : r ≡ at + length text
  pub same : length out' ≡ length out

-- a line with two numbers
abbrev pub line_of : List ℕ → ℕ → List ℕ → ℕ → List ℕ
line_of start m middle n = start ++ (decimal m ++ (middle ++ (decimal n ++ line_end)))

-- the first r bytes of out are the text
pub record Prints (text out : List ℕ) (r : ℕ) : Type 0 where
  pub bytes : take r out ≡ text
  pub within : r ≤ length out

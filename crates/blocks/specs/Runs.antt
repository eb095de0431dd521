-- Runs of blocks that hold pages in a row. Definitions only.
use Rattle.std.specs.Prelude.{List, ◌≡◌, ℕ, suc, ◌+◌, ◌<◌, ◌≤◌, IfSome, MatchOption, Option, get_or, length}
use Rattle.section.specs.Limits.{greatest_disk}
use Rattle.blocks.specs.declared.Run.{Run}

-- the run r starts with page k, where l has the block of each page
pub record Starts (l : List ℕ) (k : ℕ) (r : Run) : Type 0 where
  pub first : r.first ≡ get_or l k 0
  pub next : (i : ℕ) → i < r.left → r.first + i ≡ get_or l (k + i) 0
  pub within : r.first + r.left ≤ greatest_disk

-- the run o starts with page k; there is none past the last page
abbrev pub RunAt : List ℕ → ℕ → Option Run → Type 0
RunAt l k o = MatchOption o (length l ≤ k) (Starts l k)

-- the run r, without its first page, starts with page k
pub record GoesOn (l : List ℕ) (k : ℕ) (r : Run) : Type 0 where
  pub next : (i : ℕ) → suc i < r.left → r.first + suc i ≡ get_or l (k + i) 0
  pub within : r.first + r.left ≤ greatest_disk

-- the run o, if there is one, without its first page starts with page k
abbrev pub Follows : List ℕ → ℕ → Option Run → Type 0
Follows l k o = IfSome o (GoesOn l k)

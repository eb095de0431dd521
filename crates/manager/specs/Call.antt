-- The calls and their arguments, buffers as lists of bytes. Definitions only.
use Rattle.std.specs.Prelude.{List, [], ℕ, ◌≤◌}
use Rattle.layout.specs.Sound.{greatest_id}

pub data Call : Type 0 where
  -- id and content
  add : ℕ → List ℕ → Call
  -- id
  remove : ℕ → Call
  -- id and content
  replace : ℕ → List ℕ → Call
  -- id, first page and output
  read : ℕ → ℕ → List ℕ → Call
  -- id
  breaks : ℕ → Call
  -- n, and the list of two-byte numbers
  which : ℕ → List ℕ → Call
  free : Call
  check : Call

-- the caller's output buffer; that of `which` has numbers in the place of bytes
abbrev pub output_of : Call → List ℕ
output_of (add i bs) = []
output_of (remove i) = []
output_of (replace i bs) = []
output_of (read i p o) = o
output_of (breaks i) = []
output_of (which n o) = o
output_of free = []
output_of check = []

-- in every call an id is a number of 2 bytes; the claim asks it of an add alone, since no file has another id
abbrev pub TwoByteId : Call → Type 0
TwoByteId (add i bs) = i ≤ greatest_id
TwoByteId (remove i) = Unit {0}
TwoByteId (replace i bs) = Unit {0}
TwoByteId (read i p o) = Unit {0}
TwoByteId (breaks i) = Unit {0}
TwoByteId (which n o) = Unit {0}
TwoByteId free = Unit {0}
TwoByteId check = Unit {0}

-- a call as it stands in a list
pub record ListedCall : Type 0 where
  pub call : Call
  pub two_bytes : TwoByteId call

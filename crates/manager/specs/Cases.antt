-- Texts as strings, for the cases that are computed. Definitions only.
use Rattle.std.specs.Prelude.{List, [], ◌++◌, ◌∷◌, ℕ}
use Prim.Native.Char.{code}
use Prim.Native.String.{String}
use Prim.Native.String as String·

-- the code of each character
abbrev pub codes : String → List ℕ
codes String·.[] = []
codes (String·.◌∷◌ c s) = code c ∷ codes s

-- lines, each ended by the byte 0A hex
abbrev pub lines : List String → List ℕ
lines [] = []
lines (s ∷ l) = codes s ++ (0x0a ∷ lines l)

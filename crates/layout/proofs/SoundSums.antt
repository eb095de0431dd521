-- Soundness by sums: the form that adding and removing keep. The free lengths are under a rule that is a parameter.
-- Assumes nothing.
use mathlib.Core.List.{List, [], ◌∷◌, map}
use mathlib.Core.Path.{◌≡◌, refl}
use Prim.Native.Nat.{◌+◌, ◌<◌, ℕ}
use native.Mathlib.Omega.{arith}
use Rattle.layout.proofs.Cover.{covers_size}
use Rattle.layout.proofs.Lists.{each_left, each_right, sum-append}
use Rattle.layout.specs.Covering.{Falling}
use Rattle.layout.specs.Layout.{File, Layout, file_blocks, file_pieces, free_blocks}
use Rattle.layout.specs.Lists.{Each, done, more, next, none, sum_of}
use Rattle.layout.specs.Sums.{FallingN, SumsOver}
use Rattle.section.specs.Sections.{length_of}
use Rattle.section.specs.declared.Section.{Section}

-- what holds of all pieces of files holds of the pieces of each
pub each_files {κ} : {P : Section → Type κ} (fs : List File) → Each P (file_pieces fs)
    → Each (λ (f : File). Each P f.pieces) fs
unfolding file_pieces
each_files [] e = done
each_files (f ∷ fs) e =
    more (each_left f.pieces (file_pieces fs) e) (each_files fs (each_right f.pieces (file_pieces fs) e))

-- f is the sum of the free lengths
pub pieces_size : (fs : List File) → sum_of length_of (file_pieces fs) ≡ sum_of file_blocks fs
unfolding file_pieces
pieces_size [] = refl
pieces_size (f ∷ fs) = omega (arith, sum-append length_of f.pieces (file_pieces fs), pieces_size fs)

pub free_size : {T : List Section → Type 0} (K : ℕ) (l : Layout) → SumsOver T K l
    → (sum_of file_blocks l.files + sum_of length_of l.free ≡ l.blocks)
free_size K l g = omega (
  arith,
  covers_size l.blocks g.disk g.covers,
  sum-append length_of (file_pieces l.files) l.free,
  pieces_size l.files,
)

pub free_is : {T : List Section → Type 0} (K : ℕ) (l : Layout) → SumsOver T K l
    → free_blocks l ≡ sum_of length_of l.free
free_is K l g = omega (arith, free_size K l g)

pub falling-of : (l : List Section) → FallingN (map (λ (s : Section). s.height.value) l) → Falling l
falling-of [] n = none
falling-of (s ∷ l) (next e f) = next (below l e) (falling-of l f)
  where
    below : (l : List Section) → Each (λ b. b < s.height.value) (map (λ (s : Section). s.height.value) l)
        → Each (λ (b : Section). b.height.value < s.height.value) l
    below [] e = done
    below (t ∷ l) (more p e) = more p (below l e)

pub falling_heights : {l : List Section} → Falling l → FallingN (map (λ (s : Section). s.height.value) l)
falling_heights none = none
falling_heights (next {a = a} {l = l} e f) = next (go e) (falling_heights f)
  where
    go : {m : List Section} → Each (λ (b : Section). b.height.value < a.height.value) m
        → Each (λ b. b < a.height.value) (map (λ (s : Section). s.height.value) m)
    go done = done
    go (more p e) = more p (go e)

-- The free pieces as a list, and what the functions on them promise. Definitions only.
use Rattle.std.specs.Prelude.{◌≡◌, IfSome, List, None, Option, Some, ℕ, zero, suc, ◌+◌, ◌*◌, ◌≤◌, length, take}
use Rattle.section.specs.declared.Section.{Section}
use Rattle.piece.specs.Packed.{section_in, seen}
use Rattle.layout.specs.Adding.{Taken, taken, nothing}
use Rattle.layout.specs.Removing.{MergePair, pair, fewer, merge_pair}
use Rattle.piece_lists.specs.Few.{piece_places}
use Rattle.free_pieces.specs.declared.Drawn.{Drawn}
use Rattle.free_pieces.specs.declared.Free.{Free}
use Rattle.free_pieces.specs.declared.Pair.{Pair}

-- the places for free pieces: between a release and its merges those of the file stand beside the others
abbrev pub free_places : ℕ
free_places = 2 * piece_places

-- the free pieces
unfoldable pub free_of : Free → List Section
free_of f = take f.count (seen f.items)

-- r stands for the list l of n pieces
pub record Lists (n : ℕ) (l : List Section) (r : Free) : Type 0 where
  pub count : r.count ≡ n
  pub list : free_of r ≡ l
  pub exact : length l ≡ n

-- what was taken, if a piece was found
abbrev pub taken_of : Option Drawn → Taken
taken_of (Some d) = taken (section_in d.piece) (free_of d.rest)
taken_of None = nothing

-- r is what the definition takes from n pieces
pub record Draws (n : ℕ) (t : Taken) (r : Option Drawn) : Type 0 where
  pub meaning : taken_of r ≡ t
  pub most : IfSome r (λ d. d.rest.count ≤ n)
  pub exact : IfSome r (λ d. length (free_of d.rest) ≡ d.rest.count)
  pub less : IfSome r (λ d. d.rest.count + 1 ≡ n)

-- the pair, if a height has two
abbrev pub pair_of : Option Pair → MergePair
pair_of (Some p) = pair p.lower p.upper (free_of p.others)
pair_of None = fewer

-- r is the pair that the definition takes from n pieces
pub record Pairs (n : ℕ) (t : MergePair) (r : Option Pair) : Type 0 where
  pub meaning : pair_of r ≡ t
  pub exact : IfSome r (λ p. length (free_of p.others) ≡ p.others.count)
  pub less : IfSome r (λ p. p.others.count + 2 ≡ n)

-- the pair of the lowest of the k heights from h up that has two
unfoldable pub lowest_pair : ℕ → ℕ → List Section → MergePair
lowest_pair zero h free = fewer
lowest_pair (suc k) h free =
    elim (merge_pair h free) as (λ _. MergePair)
    [ pair l u others ↦ pair l u others | fewer ↦ lowest_pair k (suc h) free ]

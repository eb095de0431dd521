-- Free pieces from which pieces are taken, and what taking and splitting promise. Definitions only.
use Rattle.std.specs.Prelude.{IfSome, List, Option, Some, ◌≡◌, ◌+◌, ◌<◌, ◌^◌, ◌≤◌, suc, zero, ℕ, length}
use Rattle.layout.specs.Adding.{Taken, nothing, split_at, take_piece}
use Rattle.layout.specs.Layout.{OnDisk, of_height}
use Rattle.layout.specs.Lists.{Each, Pairwise, sum_of}
use Rattle.section.specs.Limits.{greatest_disk, greatest_height}
use Rattle.piece.specs.Packed.{section_in}
use Rattle.section.specs.declared.Section.{Section}
use Rattle.free_pieces.specs.Free.{free_of, free_places, taken_of}
use Rattle.free_pieces.specs.declared.Drawn.{Drawn}
use Rattle.free_pieces.specs.declared.Free.{Free}

-- the free pieces of a disk of at most the greatest number of blocks, no two of one height
pub record Stocked (f : Free) : Type 0 where
  pub disk : Each (OnDisk greatest_disk) (free_of f)
  pub rising : Pairwise (λ (s t : Section). s.first ≤ t.first) (free_of f)
  pub distinct : (h : ℕ) → sum_of (of_height h) (free_of f) ≤ 1
  pub most : f.count ≤ free_places
  pub exact : length (free_of f) ≡ f.count

-- r is what the definition takes
pub record Yields (t : Taken) (r : Option Drawn) : Type 0 where
  pub meaning : taken_of r ≡ t
  pub most : IfSome r (λ d. d.rest.count ≤ free_places)
  pub exact : IfSome r (λ d. length (free_of d.rest) ≡ d.rest.count)

-- a piece of height h split from one taken a height up; k heights are above h
unfoldable pub split_piece : ℕ → ℕ → List Section → Taken
split_piece zero h free = nothing
split_piece (suc k) h free = split_at h (take_piece k (suc h) free)

-- what was drawn can be split into halves of height h
pub record ToHalve (h : ℕ) (d : Drawn) : Type 0 where
  pub low : h ≤ greatest_height
  pub fits : (section_in d.piece).first + 2 ^ h ≤ greatest_disk
  pub most : d.rest.count < free_places

-- r is d with its section split
pub record Halves (h : ℕ) (d r : Drawn) : Type 0 where
  pub meaning : taken_of (Some r) ≡ split_at h (taken_of (Some d))
  pub most : r.rest.count ≤ free_places
  pub exact : length (free_of r.rest) ≡ r.rest.count

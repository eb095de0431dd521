-- Adding: one piece for each 1 of n, taken from its height or split from one taken a height up. Definitions only.
use Rattle.std.specs.Prelude.{Bool, true, false, List, [], ◌∷◌, ℕ, zero, suc, ◌+◌, ◌^◌}
use Rattle.section.specs.declared.Section.{Section}
use Rattle.section.specs.Sections.{section}
use Rattle.layout.specs.Lists.{insert_by}
use Rattle.layout.specs.Layout.{Layout, has_height, by_first, by_id, digit}

-- what taking finds: a section and those that are left, or nothing
pub data Taken : Type 0 where
  taken : Section → List Section → Taken
  nothing : Taken

abbrev pub keeping : Section → Taken → Taken
keeping a (taken s r) = taken s (a ∷ r)
keeping a nothing = nothing

-- the first section that passes the test
unfoldable pub take_first : (Section → Bool) → List Section → Taken
take_first p [] = nothing
take_first p (a ∷ l) = elim (p a) as (λ _. Taken) [ true ↦ taken a l | false ↦ keeping a (take_first p l) ]

-- a piece of height h that is free, the lowest
abbrev pub take_of_height : ℕ → List Section → Taken
take_of_height h free = take_first (has_height h) free

-- the lower half of what was taken a height up is used, the upper half joins the free pieces
abbrev pub split_at : ℕ → Taken → Taken
split_at h (taken s r) = taken (section s.first h) (insert_by by_first (section (s.first + 2 ^ h) h) r)
split_at h nothing = nothing

abbrev pub or_else : Taken → Taken → Taken
or_else (taken s r) t = taken s r
or_else nothing t = t

-- a piece of height h, from its height or split from one taken a height up, which is taken the same way; k heights
-- are above h
unfoldable pub take_piece : ℕ → ℕ → List Section → Taken
take_piece zero h free = take_of_height h free
take_piece (suc k) h free =
    let above : Taken = split_at h (take_piece k (suc h) free) in
    or_else (take_of_height h free) above

-- the pieces of a new file in page order and the free pieces that are left, or too few free blocks
pub data Allocated : Type 0 where
  allocated : List Section → List Section → Allocated
  too_few : Allocated

abbrev pub with_piece : Section → Allocated → Allocated
with_piece s (allocated l r) = allocated (s ∷ l) r
with_piece s too_few = too_few

-- from the highest 1 of n below height h down, one piece for each; k heights stand from h on
unfoldable pub allocate : ℕ → ℕ → ℕ → List Section → Allocated
allocate k zero n free = allocated [] free
allocate k (suc h) n free =
    elim (digit h n) as (λ _. Allocated) [
      | zero ↦ allocate (suc k) h n free
      | suc _ ↦ elim (take_piece k h free) as (λ _. Allocated) [
        | taken s r ↦ with_piece s (allocate (suc k) h n r)
        | nothing ↦ too_few
      ]
    ]

-- the layout with a file more
abbrev pub with_file : ℕ → List Section → List Section → Layout → Layout
with_file i s r l =
    record {
      blocks = l.blocks;
      files = insert_by by_id (record { id = i; pieces = s }) l.files;
      free = r;
    }

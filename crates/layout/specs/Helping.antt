-- Which removals let n blocks in (document 02, W4): the files whose length plus f is at least n, fewest copied blocks
-- first, equal counts by lower id. `helping_ids` is the list, and `Helping` says the same of a list without sorting.
-- Definitions only.
use Rattle.std.specs.Prelude.{Bool, ◌&&◌, ◌||◌, false, true, List, [], ◌∷◌, map, ◌⊎◌, ◌≡◌, ◌+◌, ◌<◌, ◌≤◌, ℕ, eqb}
use Rattle.std.specs.Prelude.{leb, ltb, length}
use Rattle.layout.specs.Layout.{File, Layout, file_blocks, find_file, found, free_blocks}
use Rattle.layout.specs.Lists.{Each, Pairwise, sort_by, times_in}
use Rattle.layout.specs.Removing.{copies_of, removal}

-- ---- the list

-- the file's length plus f is at least n
abbrev pub lets_in : ℕ → Layout → File → Bool
lets_in n l f = leb n (file_blocks f + free_blocks l)

-- the blocks that the removal of a file copies, with heights below k
abbrev pub copies_for : ℕ → Layout → File → ℕ
copies_for k l f = length (copies_of (removal k f l))

-- a file by its id, with the blocks that its removal copies
pub record Candidate : Type 0 where
  pub id : ℕ
  pub copies : ℕ

abbrev pub candidate : ℕ → Layout → File → Candidate
candidate k l f = record { id = f.id; copies = copies_for k l f }

-- those of some files that let n blocks in, in the files' order
unfoldable pub candidates_of : ℕ → ℕ → Layout → List File → List Candidate
candidates_of k n l [] = []
candidates_of k n l (f ∷ fs) =
    elim (lets_in n l f) as (λ _. List Candidate) [
      | true ↦ candidate k l f ∷ candidates_of k n l fs
      | false ↦ candidates_of k n l fs
    ]

-- fewer copied blocks first, equal counts by lower id
abbrev pub by_copies : Candidate → Candidate → Bool
by_copies a b = ltb a.copies b.copies || (eqb a.copies b.copies && leb a.id b.id)

-- the ids of all files that let n blocks in, fewest copied blocks first, equal counts by lower id
unfoldable pub helping_ids : ℕ → ℕ → Layout → List ℕ
helping_ids k n l = map (λ (a : Candidate). a.id) (sort_by by_copies (candidates_of k n l l.files))

-- ---- what such a list is

-- the removal of the file i copies fewer blocks than that of the file j, or as many and i is lower
abbrev pub CopiesFirst : ℕ → Layout → ℕ → ℕ → Type 0
CopiesFirst k l i j =
    (f g : File) → find_file i l.files ≡ found f → find_file j l.files ≡ found g
    → (copies_for k l f < copies_for k l g) ⊎ ((copies_for k l f ≡ copies_for k l g) × (i < j))

-- each id comes before those after it
abbrev pub InCopyOrder : ℕ → Layout → List ℕ → Type 0
InCopyOrder k l ids = Pairwise (CopiesFirst k l) ids

-- i is the id of a file whose length plus f is at least n
abbrev pub LetsIn : ℕ → Layout → ℕ → Type 0
LetsIn n l i = (f : File) × (find_file i l.files ≡ found f) × (n ≤ file_blocks f + free_blocks l)

pub record Helping (k n : ℕ) (l : Layout) (ids : List ℕ) : Type 0 where
  -- each such id once
  pub all : (i : ℕ) → LetsIn n l i → times_in i ids ≡ 1
  -- and no other
  pub only : Each (LetsIn n l) ids
  -- sorted by copies and id
  pub sorted : InCopyOrder k l ids

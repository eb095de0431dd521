-- A look-up of an id in files by rising id (document 02, W3): the file or none, and how many ids are read for it.
-- Definitions only.
use Rattle.std.specs.Prelude.{List, ◌+◌, ◌<◌, ◌≤◌, ℕ, ltb, drop, length, take}
use Rattle.layout.specs.Layout.{File, Found, find_file}
use Rattle.layout.specs.Lists.{Each, Pairwise, indicator, sum_of}

-- entries stand by rising id
abbrev pub ByRisingId : List File → Type 0
ByRisingId l = Pairwise (λ (f g : File). f.id < g.id) l

-- 1 if the file's id is below the one sought, else 0
abbrev pub is_below : ℕ → File → ℕ
is_below i f = indicator (ltb f.id i)

-- the ids below the one sought
unfoldable pub ids_below : ℕ → List File → ℕ
ids_below i l = sum_of (is_below i) l

-- the ids read: those below the one sought, and one more if any other is there
unfoldable pub ids_read : ℕ → List File → ℕ
ids_read i l = ids_below i l + indicator (ltb (ids_below i l) (length l))

-- what a look-up gives: the file or none, and the number of ids read
pub record LookUp : Type 0 where
  pub file : Found
  pub ids_read : ℕ

-- ids are read from the lowest up, and a file is found by an id that was read
unfoldable pub look_up : ℕ → List File → LookUp
look_up i l = record { file = find_file i (take (ids_read i l) l); ids_read = ids_read i l }

-- the first n ids are below the one sought, and no other is
pub record FirstBelow (i n : ℕ) (l : List File) : Type 0 where
  pub first : Each (λ (f : File). f.id < i) (take n l)
  pub others : Each (λ (f : File). i ≤ f.id) (drop n l)

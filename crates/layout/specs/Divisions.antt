-- Divisions of n blocks into pieces whose lengths are powers of a base, and which of them have the fewest pieces:
-- document 02, W6, where the base is two. A division is the list of its pieces' lengths, in any order; a length may
-- stand in it more than once. Definitions only.
use Rattle.std.specs.Prelude.{List, map, ◌≡◌, ◌^◌, ◌≤◌, ℕ, length}
use Rattle.layout.specs.Layout.{File, Layout, file_blocks, find_file, found, free_blocks}
use Rattle.layout.specs.Lists.{Each, sum_of}
use Rattle.section.specs.Sections.{length_of}
use Rattle.section.specs.declared.Section.{Section}

-- x is a power of the base: 1, base, base * base, ..
abbrev pub PowerOf : ℕ → ℕ → Type 0
PowerOf base x = (h : ℕ) × (x ≡ base ^ h)

-- n blocks are divided into pieces of these lengths, each a power of the base
pub record Divides (base n : ℕ) (lengths : List ℕ) : Type 0 where
  pub powers : Each (PowerOf base) lengths
  pub sum : sum_of (λ x. x) lengths ≡ n

-- these lengths divide n blocks, and no division of n blocks has fewer pieces
pub record Fewest (base n : ℕ) (lengths : List ℕ) : Type 0 where
  pub divides : Divides base n lengths
  pub none_fewer : (others : List ℕ) → Divides base n others → length lengths ≤ length others

-- m is the smallest number of pieces into which n blocks can be divided
pub record SmallestNumber (base n m : ℕ) : Type 0 where
  pub lengths : List ℕ
  pub fewest : Fewest base n lengths
  pub number : length lengths ≡ m

-- ---- of a layout

-- the lengths of pieces
abbrev pub lengths_of : List Section → List ℕ
lengths_of l = map length_of l

pub record FewestPieces (base : ℕ) (l : Layout) : Type 0 where
  -- no division of a file's n blocks has fewer pieces than the file
  pub files : Each (λ (f : File). Fewest base (file_blocks f) (lengths_of f.pieces)) l.files
  -- and no division of the f free blocks has fewer than are free
  pub free : Fewest base (free_blocks l) (lengths_of l.free)

-- the same with each power of the base given by its height: if such lengths sum to a file's n, the file's pieces are no
-- more, and if they sum to f, the free pieces are no more
abbrev pub NoMorePieces : ℕ → Layout → Type 0
NoMorePieces base l =
    ((i : ℕ) (f : File) → find_file i l.files ≡ found f → (heights : List ℕ)
    → sum_of (λ h. base ^ h) heights ≡ file_blocks f → length f.pieces ≤ length heights)
    × ((heights : List ℕ) → sum_of (λ h. base ^ h) heights ≡ free_blocks l → length l.free ≤ length heights)

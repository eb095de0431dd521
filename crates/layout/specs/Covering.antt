-- Lists of sections: by rising first block, by falling height, how many have a height, and those that cover a disk.
-- Definitions only.
use Rattle.std.specs.Prelude.{List, [], ◌∷◌, ◌≡◌, ◌<◌, ◌≤◌, ℕ}
use Rattle.section.specs.Sections.{Apart, end_of, length_of}
use Rattle.section.specs.declared.Section.{Section}
use Rattle.layout.specs.Layout.{Layout, OnDisk, OnePiecePerOne, all_pieces, holds_block, in_range, of_height}
use Rattle.layout.specs.Lists.{Each, Pairwise, sum_of}

-- the sections of a list stand by rising first block
abbrev pub Rising : List Section → Type 0
Rising l = Pairwise (λ (a b : Section). a.first ≤ b.first) l

-- heights fall along the list
abbrev pub Falling : List Section → Type 0
Falling l = Pairwise (λ (a b : Section). b.height.value < a.height.value) l

-- how many have height h
abbrev pub count_of : ℕ → List Section → ℕ
count_of h l = sum_of (of_height h) l

-- no height stands twice
abbrev pub AtMostOne : List Section → Type 0
AtMostOne l = (h : ℕ) → count_of h l ≤ 1

-- pairwise apart
abbrev pub Disjoint : List Section → Type 0
Disjoint l = Pairwise (λ (a b : Section). Apart a.first (length_of a) b.first (length_of b)) l

-- every block of the disk is in exactly one of the sections, and no other block is in any
abbrev pub Covers : ℕ → List Section → Type 0
Covers c l = (x : ℕ) → sum_of (holds_block x) l ≡ in_range x 0 c

-- the pieces of a layout, while it merges: sections of the disk that cover it, the free ones by rising first block
pub record Whole (c : ℕ) (w : Layout) : Type 0 where
  pub disk : Each (OnDisk c) (all_pieces w)
  pub rising : Rising w.free
  pub covers : Covers c (all_pieces w)

-- the first begins at x, and each other where the one before it ends
pub data RunFrom : ℕ → List Section → Type 0 where
  none : {x : ℕ} → RunFrom x []
  then : {x : ℕ} {s : Section} {l : List Section} → s.first ≡ x → RunFrom (end_of s) l → RunFrom x (s ∷ l)

-- the layout of a fresh disk: one free piece for each 1 of c, longest first, one after another from block 0 on
pub record FreshPieces (c : ℕ) (l : Layout) : Type 0 where
  pub blocks : l.blocks ≡ c
  pub files : l.files ≡ []
  pub ones : OnePiecePerOne c l.free
  pub longest_first : Pairwise (λ (s t : Section). length_of t < length_of s) l.free
  pub in_row : RunFrom 0 l.free

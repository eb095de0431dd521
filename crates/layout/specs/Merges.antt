-- What merges do to files and free sections: a merge, and merges one after another until no height has two free
-- sections. Definitions only.
use Rattle.std.specs.Prelude.{Bool, cond, false, true, List, [], ◌∷◌, map, ◌≡◌, ◌+◌, ◌<◌, ◌^◌, ◌≤◌, suc, ℕ, eqb, length}
use Rattle.section.specs.Sections.{length_of}
use Rattle.section.specs.declared.Section.{Section}
use Rattle.layout.specs.Covering.{AtMostOne, Whole, count_of}
use Rattle.layout.specs.Layout.{File, Layout, block_run, blocks_of, file_pieces, holds_block}
use Rattle.layout.specs.Lists.{Each, Zipped, indicator, sum_of}
use Rattle.layout.specs.Removing.{Copy, Merge, is_held}

-- the block of before the copies whose bytes stand in block x after them
unfoldable pub origin : List Copy → ℕ → ℕ
origin [] x = x
origin (c ∷ l) x = cond (eqb (origin l x) c.target) c.source (origin l x)

-- a copy reads and writes blocks below n
pub record InDisk (n : ℕ) (c : Copy) : Type 0 where
  pub source : c.source < n
  pub target : c.target < n

-- what copies cs make of a file: each page came from its old block, and to no lower one
pub record Moved (cs : List Copy) (f g : File) : Type 0 where
  pub id : g.id ≡ f.id
  pub heights : map (λ (s : Section). s.height.value) g.pieces
      ≡ map (λ (s : Section). s.height.value) f.pieces
  pub pages : map (origin cs) (blocks_of g.pieces) ≡ blocks_of f.pieces
  pub rises : Zipped (λ x y. x ≤ y) (blocks_of f.pieces) (blocks_of g.pieces)

-- the copies of a merge go to blocks that no file holds, and come from others
pub record IntoFree (fs : List File) (cs : List Copy) : Type 0 where
  pub into : ℕ → Bool
  pub each : Each (λ (x : Copy). (into x.source ≡ false) × (into x.target ≡ true)) cs
  pub vacant : (x : ℕ) → into x ≡ true → sum_of (holds_block x) (file_pieces fs) ≡ 0

-- what a merge at height h keeps
pub record MergeKeeps (c h : ℕ) (w : Layout) (m : Merge) : Type 0 where
  pub whole : Whole c m.after
  pub blocks : m.after.blocks ≡ w.blocks
  -- two free sections of the height less, one of the next more
  pub less : count_of h w.free ≡ 2 + count_of h m.after.free
  pub plus : count_of (suc h) m.after.free ≡ suc (count_of (suc h) w.free)
  pub same : (j : ℕ) → (j ≡ h → ⊥) → (j ≡ suc h → ⊥) → count_of j m.after.free ≡ count_of j w.free
  -- as many free blocks, and one free section less
  pub size : sum_of length_of m.after.free ≡ sum_of length_of w.free
  pub shorter : suc (length m.after.free) ≡ length w.free
  -- the copies: on the disk, each to a higher block
  pub few : length m.copies ≤ 2 ^ h
  pub reach : Each (InDisk c) m.copies
  pub rise : Each (λ (x : Copy). x.source < x.target) m.copies
  -- from blocks that files hold to blocks that files hold after the merge, which were free
  pub held : Each (λ (x : Copy). is_held w.files x.source ≡ true) m.copies
  pub filled : Each (λ (x : Copy). is_held m.after.files x.target ≡ true) m.copies
  pub apart : IntoFree w.files m.copies
  -- every file keeps its pages, each where its copy went
  pub files : Zipped (Moved m.copies) w.files m.after.files

-- the merges of a layout, one by one, until no height has two free sections
pub data MergedAll (c K : ℕ) : Layout → List Merge → Type 0 where
  rest : {w : Layout} → Whole c w → AtMostOne w.free → MergedAll c K w []
  step : {w : Layout} {m : Merge} {ms : List Merge} (h : ℕ) → h < K → Whole c w
      → ((j : ℕ) → j < h → count_of j w.free ≤ 1) → MergeKeeps c h w m → MergedAll c K m.after ms
      → MergedAll c K w (m ∷ ms)

-- the heights of merges, in order
unfoldable pub merge_heights : {c K : ℕ} {w : Layout} {ms : List Merge} → MergedAll c K w ms → List ℕ
merge_heights (rest wh t) = []
merge_heights (step h lt wh low st s) = h ∷ merge_heights s

-- how many of the n blocks from b on pass the test
abbrev pub counted_in : (ℕ → Bool) → ℕ → ℕ → ℕ
counted_in p n b = sum_of (λ x. indicator (p x)) (block_run b n)

-- how many blocks of a section files hold
abbrev pub held_in : List File → Section → ℕ
held_in fs s = counted_in (is_held fs) (length_of s) s.first

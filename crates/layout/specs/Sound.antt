-- When a layout is sound, for heights below k: a field for each rule of document 01, "The catalogue".
-- Definitions only. That n and f are sums, that files and pairs are listed once and that the pairs are sorted by
-- first block in the bytes is in `Layout` and in the encoding, not here.
use Rattle.std.specs.Prelude.{◌≡◌, ℕ, ◌-◌, ◌^◌, ◌<◌, ◌≤◌, length}
use Rattle.std.specs.Int.Count.{ones}
use Rattle.section.specs.declared.Section.{Section}
use Rattle.section.specs.Limits.{most_files}
use Rattle.section.specs.Sections.{Apart, length_of}
use Rattle.layout.specs.Lists.{sum_of, Each, Pairwise}
use Rattle.layout.specs.Layout.{File, Layout, OnDisk, block_count, file_blocks, free_blocks, all_pieces}

-- the greatest id
abbrev pub greatest_id : ℕ
greatest_id = 65535

pub record Sound (k : ℕ) (l : Layout) : Type 0 where
  -- C is at least 1 and at most the greatest length
  pub some_blocks : 1 ≤ l.blocks
  pub most_blocks : l.blocks ≤ 2 ^ (k - 1)
  -- there are at most 64 files
  pub most_files : length l.files ≤ most_files
  -- ids are from 1 to 65,535
  pub least_id : Each (λ (f : File). 1 ≤ f.id) l.files
  pub most_id : Each (λ (f : File). f.id ≤ greatest_id) l.files
  -- entries stand by rising id
  pub ids_rise : Pairwise (λ (f g : File). f.id < g.id) l.files
  -- n is 1 or more
  pub some_pages : Each (λ (f : File). 1 ≤ file_blocks f) l.files
  -- the n sum to at most C
  pub pages_fit : sum_of file_blocks l.files ≤ l.blocks
  -- each pair is a section of the disk
  pub on_disk : Each (OnDisk l.blocks) (all_pieces l)
  -- and its height is one of those below k
  pub heights : Each (λ (s : Section). s.height.value < k) (all_pieces l)
  -- lengths in a file are distinct, and page order is by length, the longest first
  pub page_order : Each (λ (f : File). Pairwise (λ (s t : Section). length_of t < length_of s) f.pieces) l.files
  -- the number of a file's pairs follows from n
  pub file_count : Each (λ (f : File). length f.pieces ≡ ones (file_blocks f)) l.files
  -- the free pairs stand by rising first block
  pub free_rise : Pairwise (λ (s t : Section). s.first < t.first) l.free
  -- the lengths of the free pairs are distinct
  pub free_distinct : Pairwise (λ (s t : Section). length_of s ≡ length_of t → ⊥) l.free
  -- they sum to f
  pub free_sum : block_count l.free ≡ free_blocks l
  -- the number of the free pairs follows from f
  pub free_count : length l.free ≡ ones (free_blocks l)
  -- no two pairs share a block
  pub apart :
      Pairwise (λ (s t : Section). Apart s.first (length_of s) t.first (length_of t)) (all_pieces l)

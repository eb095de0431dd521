-- Soundness by sums, which adding and removing keep. Nobody has to believe this file: `sound_sums` and `sums_sound`
-- say that a layout is sound by sums exactly if it is `Sound`. Definitions only.
use Rattle.std.specs.Prelude.{List, map, ◌-◌, ◌<◌, ◌^◌, ◌≤◌, ℕ, length}
use Rattle.section.specs.Limits.{most_files}
use Rattle.section.specs.declared.Section.{Section}
use Rattle.layout.specs.Covering.{AtMostOne, Covers, Rising}
use Rattle.layout.specs.Layout.{File, Layout, OnDisk, all_pieces}
use Rattle.layout.specs.Lists.{Each, Pairwise}
use Rattle.layout.specs.Sound.{greatest_id}

-- id and heights of a file
pub record Shape : Type 0 where
  pub id : ℕ
  pub heights : List ℕ

abbrev pub shape : File → Shape
shape f = record { id = f.id; heights = map (λ (s : Section). s.height.value) f.pieces }

-- heights fall
abbrev pub FallingN : List ℕ → Type 0
FallingN l = Pairwise (λ (a b : ℕ). b < a) l

-- an id from 1 to 65,535, and some pieces, the longest first
pub record ShapeSound (s : Shape) : Type 0 where
  pub low : 1 ≤ s.id
  pub high : s.id ≤ greatest_id
  pub falling : FallingN s.heights
  pub some : 1 ≤ length s.heights

-- ids rise
abbrev pub RisingIds : List Shape → Type 0
RisingIds l = Pairwise (λ (a b : Shape). a.id < b.id) l

-- T: what is asked of the free lengths
pub record SumsOver (T : List Section → Type 0) (K : ℕ) (l : Layout) : Type 0 where
  pub some : 1 ≤ l.blocks
  pub top : l.blocks < 2 ^ K
  pub cap : l.blocks ≤ 2 ^ (K - 1)
  pub disk : Each (OnDisk l.blocks) (all_pieces l)
  pub covers : Covers l.blocks (all_pieces l)
  pub rising : Rising l.free
  pub thin : T l.free
  pub shapes : Each ShapeSound (map shape l.files)
  pub ids : RisingIds (map shape l.files)
  pub few : length l.files ≤ most_files

-- sound: no free length repeats
abbrev pub SoundSums : ℕ → Layout → Type 0
SoundSums K l = SumsOver AtMostOne K l

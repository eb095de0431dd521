-- What loading a whole catalogue promises. Definitions only.
use Rattle.std.specs.Prelude.{◌≡◌, Bool, true, List, MatchOption, None, Option, Some, ℕ, ◌≤◌, eqb, length, drop}
use Rattle.std.specs.Prelude.{if◌then◌else◌}
use Rattle.section.specs.Limits.{greatest_disk, most_files}
use Rattle.table.specs.declared.Table.{Table}
use Rattle.piece_lists.specs.Few.{piece_places}
use Rattle.table.specs.Tables.{layout_of}
use Rattle.catalogue.specs.Version.{greatest_blocks, header_size}
use Rattle.catalogue.specs.declared.Version.{Version}
use Rattle.catalogue.specs.Reading.{got, every, read_header, read_layout, Reading, sound, unsound, read_catalogue}
use Rattle.soundness.specs.Counts.{Counted, Exact}
use Rattle.decoder.specs.declared.TableRead.{TableRead}

-- t is exact and has as few free pieces as a sound layout, so that a file's pieces can be released beside them
pub record Ready (t : Table) : Type 0 where
  pub exact : Exact t
  pub few_free : t.free.count ≤ piece_places

-- the header of the bytes has b blocks, no more than the version allows, and n files
pub record HeaderAt (v : Version) (s : List ℕ) (b n : ℕ) : Type 0 where
  pub equal : read_header v s ≡ got (record { blocks = b; count = n }) (drop (header_size v.width) s)
  pub fits : b ≤ greatest_blocks v
  pub most : b ≤ greatest_disk
  pub few : n ≤ most_files

-- t is the table of the bytes
pub record SomeTableAt (v : Version) (s : List ℕ) (t : TableRead) : Type 0 where
  pub read : read_layout v s ≡ got (layout_of t.table) (drop t.at s)
  pub fits : t.table.blocks ≤ greatest_blocks v
  pub counted : Counted t.table t.sum t.free
  pub exact : Exact t.table
  pub inside : t.at ≤ length s

-- o is the table of the bytes, or none, where they cannot be those of a sound layout
abbrev pub TableAt : Version → List ℕ → Option TableRead → Type 0
TableAt v s o = MatchOption o (read_catalogue v s ≡ unsound) (λ t. SomeTableAt v s t)

-- what was loaded: a sound layout, or none
unfoldable pub reading_of : Option Table → Reading
reading_of (Some t) = sound (layout_of t)
reading_of None = unsound

-- b says whether the bytes are sound, and t is their table if they are
pub record Judged (v : Version) (s : List ℕ) (t : Table) (b : Bool) : Type 0 where
  pub reading : reading_of (if b then Some t else None) ≡ read_catalogue v s
  pub few_free : b ≡ true → t.free.count ≤ piece_places

-- only zero bytes
abbrev pub all_zero : List ℕ → Bool
all_zero l = every (λ b. eqb b 0) l

-- What reading a file's entry promises. Definitions only.
use Rattle.std.specs.Prelude.{◌≡◌, Bool, true, false, ◌&&◌, List, MatchOption, Option, ℕ, ◌*◌, ◌≤◌}
use Rattle.std.specs.Prelude.{leb, eqb, length, drop}
use Rattle.section.specs.declared.Section.{Section}
use Rattle.section.specs.Limits.{greatest_disk}
use Rattle.layout.specs.Layout.{File, block_count, file_blocks}
use Rattle.piece_lists.specs.Few.{piece_places}
use Rattle.table.specs.Tables.{file_of}
use Rattle.catalogue.specs.Reading.{Read, bad, got, read_entry, sound_file}
use Rattle.soundness.specs.Order.{in_order}
use Rattle.decoder.specs.declared.EntryRead.{EntryRead}

-- a file that a sound layout can have, in the places of an entry
unfoldable pub acceptable : File → Bool
acceptable f = leb (length f.pieces) piece_places && sound_file f

-- a file that cannot be in a sound layout is not read on
unfoldable pub accepted : Read File → Read File
accepted (got f r) = elim (acceptable f) as (λ _. Read File) [ true ↦ got f r | false ↦ bad ]
accepted bad = bad

-- the pairs of a list make a file of id i and n blocks
unfoldable pub is_file : ℕ → ℕ → List Section → Bool
is_file i n l = leb 1 i && (leb 1 n && (eqb (block_count l) n && in_order l))

-- e is the entry at the front of the bytes, with fields of w bytes for numbers of blocks
pub record SomeEntryAt (w : ℕ) (s : List ℕ) (e : EntryRead) : Type 0 where
  pub meaning : accepted (read_entry w s) ≡ got (file_of e.entry) (drop e.size s)
  pub pages : e.n ≡ file_blocks (file_of e.entry)
  pub most : e.n ≤ greatest_disk * piece_places
  pub places : e.entry.pieces.count ≤ piece_places
  pub inside : e.size ≤ length s

-- o is the entry at the front of the bytes, or none, where no sound layout has it
abbrev pub EntryAt : ℕ → List ℕ → Option EntryRead → Type 0
EntryAt w s o = MatchOption o (accepted (read_entry w s) ≡ bad) (λ e. SomeEntryAt w s e)

-- What reading fields and pairs at a place of the catalogue promises. Definitions only.
use Rattle.std.specs.Prelude.{◌≡◌, List, MatchOption, Option, ℕ, ◌+◌, ◌*◌, ◌^◌, ◌<◌, ◌≤◌, length, drop}
use Rattle.section.specs.Limits.{greatest_disk}
use Rattle.section.specs.Sections.{length_of}
use Rattle.layout.specs.Layout.{block_count}
use Rattle.piece_lists.specs.Few.{list_of, piece_places}
use Rattle.piece.specs.Packed.{section_in}
use Rattle.catalogue.specs.Encoding.{byte_values}
use Rattle.catalogue.specs.Reading.{bad, got, read_field, read_pair, read_pairs}
use Rattle.decoder.specs.declared.PairRead.{PairRead}
use Rattle.decoder.specs.declared.PairsRead.{PairsRead}

-- r is the number of the field of w bytes at a place
pub record FieldAt (w : ℕ) (s : List ℕ) (at r : ℕ) : Type 0 where
  pub equal : read_field w (drop at s) ≡ got r (drop (at + w) s)
  pub most : r < byte_values ^ w

-- p is the pair of fields of w bytes at a place
pub record SomePairAt (w : ℕ) (s : List ℕ) (at : ℕ) (p : PairRead) : Type 0 where
  pub meaning : read_pair w (drop at s) ≡ got (section_in p.piece) (drop (at + 2 * w) s)
  pub equal : p.length ≡ length_of (section_in p.piece)
  pub most : p.length ≤ greatest_disk
  pub inside : at + 2 * w ≤ length s

-- o is the pair of fields of w bytes at a place, or none, where none can be read
abbrev pub PairAt : ℕ → List ℕ → ℕ → Option PairRead → Type 0
PairAt w s at o = MatchOption o (read_pair w (drop at s) ≡ bad) (λ p. SomePairAt w s at p)

-- p has the n pairs from a place on
pub record SomePairsAt (w : ℕ) (s : List ℕ) (at n : ℕ) (p : PairsRead) : Type 0 where
  pub meaning : read_pairs n w (drop at s) ≡ got (list_of p.list) (drop p.end s)
  pub equal : p.sum ≡ block_count (list_of p.list)
  pub most : p.sum ≤ greatest_disk * piece_places
  pub count : p.list.count ≡ n
  pub places : p.list.count ≤ piece_places
  pub exact : length (list_of p.list) ≡ p.list.count
  pub inside : p.end ≤ length s

-- o has the n pairs from a place on, or is none, where they cannot be read
abbrev pub PairsAt : ℕ → List ℕ → ℕ → ℕ → Option PairsRead → Type 0
PairsAt w s at n o = MatchOption o (read_pairs n w (drop at s) ≡ bad) (λ p. SomePairsAt w s at n p)

-- The bytes of pairs, entries, lists of them, header and layout, one part after another, alone and with what follows
-- them. Assumes nothing.
use mathlib.Core.List.{List, [], ◌++◌, ◌∷◌, append_assoc}
use mathlib.Core.Path.{◌≡◌, refl}
use Prim.Native.Nat.{ℕ}
use lib.ListN.{length}
use Rattle.catalogue.specs.Encoding.{big_endian, entries_bytes, entry_bytes, header_bytes, pair_bytes, pairs_bytes}
use Rattle.catalogue.specs.Encoding.{used_bytes}
use Rattle.catalogue.specs.Version.{short_field}
use Rattle.catalogue.specs.declared.Version.{Version}
use Rattle.layout.specs.Layout.{File, Layout, by_first, file_blocks}
use Rattle.layout.specs.Lists.{sort_by}
use Rattle.section.specs.Sections.{length_of}
use Rattle.section.specs.declared.Section.{Section}

-- ---- each definition by its parts: other laws cite these, and only computed cases unfold it again

-- first block and length
pub pair_bytes_parts : (w : ℕ) (s : Section) → pair_bytes w s ≡ big_endian w s.first ++ big_endian w (length_of s)
unfolding pair_bytes
pair_bytes_parts w s = refl

pub pairs_bytes_nil : (w : ℕ) → pairs_bytes w [] ≡ []
unfolding pairs_bytes
pairs_bytes_nil w = refl

pub pairs_bytes-cons : (w : ℕ) (s : Section) (l : List Section) → pairs_bytes w (s ∷ l) ≡ pair_bytes w s ++ pairs_bytes w l
unfolding pairs_bytes
pairs_bytes-cons w s l = refl

-- id, blocks, and the pairs by rising first block
pub entry_bytes_parts : (w : ℕ) (f : File)
    → entry_bytes w f
    ≡ big_endian short_field f.id ++ (big_endian w (file_blocks f) ++ pairs_bytes w (sort_by by_first f.pieces))
unfolding entry_bytes
entry_bytes_parts w f = refl

pub entries_bytes_nil : (w : ℕ) → entries_bytes w [] ≡ []
unfolding entries_bytes
entries_bytes_nil w = refl

pub entries_bytes-cons : (w : ℕ) (f : File) (l : List File) → entries_bytes w (f ∷ l) ≡ entry_bytes w f ++ entries_bytes w l
unfolding entries_bytes
entries_bytes-cons w f l = refl

-- version, blocks and files
pub header_bytes_parts : (v : Version) (l : Layout)
    → header_bytes v l
    ≡ big_endian short_field v.number
    ++ (big_endian v.width l.blocks ++ big_endian short_field (length l.files))
unfolding header_bytes
header_bytes_parts v l = refl

-- header, file entries, free pairs
pub used_bytes_parts : (v : Version) (l : Layout)
    → used_bytes v l ≡ header_bytes v l ++ (entries_bytes v.width l.files ++ pairs_bytes v.width l.free)
unfolding used_bytes
used_bytes_parts v l = refl

-- ---- with the bytes that follow

pub pairs-cons : (w : ℕ) (s : Section) (l : List Section) (r : List ℕ)
    → pairs_bytes w (s ∷ l) ++ r ≡ big_endian w s.first ++ (big_endian w (length_of s) ++ (pairs_bytes w l ++ r))
pairs-cons w s l r = simp (pairs_bytes-cons, pair_bytes_parts, append_assoc)

pub entry_fields : (w : ℕ) (f : File) (r : List ℕ)
    → entry_bytes w f ++ r
    ≡ big_endian short_field f.id
    ++ (big_endian w (file_blocks f) ++ (pairs_bytes w (sort_by by_first f.pieces) ++ r))
entry_fields w f r = simp (entry_bytes_parts, append_assoc)

pub entries-cons : (w : ℕ) (f : File) (l : List File) (r : List ℕ)
    → entries_bytes w (f ∷ l) ++ r ≡ entry_bytes w f ++ (entries_bytes w l ++ r)
entries-cons w f l r = simp (entries_bytes-cons, append_assoc)

pub used_fields : (v : Version) (l : Layout) (r : List ℕ)
    → used_bytes v l ++ r
    ≡ big_endian short_field v.number
    ++ (big_endian v.width l.blocks
    ++ (big_endian short_field (length l.files)
    ++ (entries_bytes v.width l.files ++ (pairs_bytes v.width l.free ++ r))))
used_fields v l r = simp (used_bytes_parts, header_bytes_parts, append_assoc)

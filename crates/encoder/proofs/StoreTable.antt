-- The bytes of a whole layout: the room that a sound one has, and all parts together. Assumes nothing.
use mathlib.Core.List.{List, ◌++◌}
use mathlib.Core.Path.{◌∙◌, ◌≡◌, ap, ap₂, sym}
use Prim.Native.Nat.{◌+◌, ◌-◌, ◌<◌, ◌≤◌, ℕ}
use native.Mathlib.Omega.{arith}
use lib.ListN.{length, length-append, replicate, take}
use Rattle.section.specs.Limits.{height_count}
use Rattle.section.specs.declared.Section.{Section}
use Rattle.layout.proofs.Lists.{each_imp, each_right}
use Rattle.layout.specs.Layout.{Layout, file_pieces}
use Rattle.layout.specs.Lists.{Each}
use Rattle.layout.specs.Sound.{Sound}
use Rattle.piece.specs.Packed.{seen}
use Rattle.piece.specs.declared.Piece.{Piece}
use Rattle.free_pieces.specs.Free.{free_of}
use Rattle.table.specs.Tables.{files_of, layout_of}
use Rattle.table.specs.declared.Table.{Table}
use Rattle.catalogue.proofs.Fields.{big_endian-length}
use Rattle.catalogue.proofs.Grouping.{header_bytes_parts, used_bytes_parts}
use Rattle.catalogue.proofs.Roomy.{roomy}
use Rattle.catalogue.proofs.Size.{used_most_lem}
use Rattle.catalogue.specs.Encoding.{encode, entries_bytes, pairs_bytes, used_bytes}
use Rattle.catalogue.specs.Version.{OneOf, short_field, versions}
use Rattle.catalogue.specs.declared.Version.{Version}
use Rattle.pieces.specs.Pieces.{Low}
use Rattle.encoder.specs.Store.{Room, Written, header_fields, layout_from}
use Rattle.encoder.proofs.StoreWritten.{room_left, room_right, written_more}

-- ---- the header

pub header-length : (v : Version) (n m : ℕ) → length (header_fields v n m) ≡ short_field + (v.width + short_field)
header-length v n m = simp (length-append, big_endian-length)

-- ---- all parts

module _ (v : Version) (known : OneOf v versions) (y : Layout) (n : ℕ) (count : n ≡ length y.files)
    (sound : Sound v.heights y) (cat : List ℕ) (full : length cat ≡ v.bytes) where
  abbrev header : List ℕ
  header = header_fields v y.blocks n

  abbrev files : List ℕ
  files = entries_bytes v.width y.files

  abbrev free : List ℕ
  free = pairs_bytes v.width y.free

  used_parts : used_bytes v y ≡ header ++ (files ++ free)
  used_parts =
      used_bytes_parts v y
      ∙ ap (λ h. h ++ (files ++ free)) (header_bytes_parts v y ∙ ap (header_fields v y.blocks) (sym count))

  used_room : Room cat 0 (header ++ (files ++ free))
  used_room = rw (← used_parts) (omega (arith, used_most_lem v (roomy known) y sound, (roomy known).room))

  pub header-room : Room cat 0 header
  header-room = room_left cat header (files ++ free) 0 used_room

  module _ (c₁ : List ℕ) (r₁ : ℕ) (w₁ : Written cat 0 header c₁ r₁) where
    lists-room : Room c₁ r₁ (files ++ free)
    lists-room = room_right header (files ++ free) w₁ used_room

    pub files-room : Room c₁ r₁ files
    files-room = room_left c₁ files free r₁ lists-room

    module _ (c₂ : List ℕ) (r₂ : ℕ) (w₂ : Written c₁ r₁ files c₂ r₂) where
      pub free-room : Room c₂ r₂ free
      free-room = room_right files free w₂ lists-room

      module _ (c₃ : List ℕ) (r₃ : ℕ) (w₃ : Written c₂ r₂ free c₃ r₃) where
        all-written : Written cat 0 (header ++ (files ++ free)) c₃ r₃
        all-written = written_more w₁ (written_more w₂ w₃)

        pub end-room : r₃ ≤ length c₃
        end-room = omega (arith, all-written.next, all-written.exact, used_room)

        -- with zero bytes to the end it is the encoding
        pub stored : (last : List ℕ) → last ≡ take r₃ c₃ ++ replicate (length c₃ - r₃) 0
            → last ≡ encode v y
        unfolding encode
        stored last e =
            let e₃ : r₃ ≡ length (used_bytes v y) =
            omega (arith, all-written.next, ap length used_parts) in
            e
            ∙ ap₂ (λ l m. l ++ replicate m 0) (all-written.front ∙ sym used_parts)
            (ap₂ (λ l m. l - m) (all-written.exact ∙ full) e₃)

-- ---- layouts of entries and pieces

-- the layout of a table
pub table_layout : (t : Table) (l : List Piece) → seen l ≡ free_of t.free
    → layout_from t.blocks (take t.count t.files) l ≡ layout_of t
unfolding files_of layout_of
table_layout t l e = ap (λ k. record { blocks = t.blocks; files = files_of t; free = k }) e

-- the heights of the free pieces have lengths
pub free-low : (k : ℕ) → k ≤ height_count → (y : Layout) → Sound k y → Each Low y.free
free-low k most y sound =
    each_imp (λ (s : Section) (h : s.height.value < k). omega arith)
    (each_right (file_pieces y.files) y.free sound.heights)

-- The bytes of a pair and of a file entry, one field after another. Assumes nothing.
use mathlib.Core.List.{List, ◌++◌}
use mathlib.Core.Path.{◌∙◌, ◌≡◌, ap₂, subst, sym}
use Prim.Native.Nat.{ℕ}
use Rattle.section.specs.Sections.{length_of}
use Rattle.section.specs.declared.Section.{Section}
use Rattle.layout.specs.Layout.{by_first, file_blocks}
use Rattle.layout.specs.Lists.{sort_by}
use Rattle.table.specs.Tables.{file_of, pieces_in}
use Rattle.table.specs.declared.Entry.{Entry}
use Rattle.catalogue.proofs.Grouping.{entry_bytes_parts, pair_bytes_parts}
use Rattle.catalogue.specs.Encoding.{big_endian, entry_bytes, pair_bytes, pairs_bytes}
use Rattle.catalogue.specs.Version.{short_field}
use Rattle.encoder.specs.Store.{Room, Written}
use Rattle.encoder.proofs.StoreWritten.{room_left, room_right, written_more}

-- ---- a pair

pub pair_written : (w : ℕ) (s : Section) (n : ℕ) {a b c : List ℕ} {at q r : ℕ} → n ≡ length_of s
    → Written a at (big_endian w s.first) b q → Written b q (big_endian w n) c r → Written a at (pair_bytes w s) c r
pair_written w s n {a = a} {b = b} {c = c} {at = at} {q = q} {r = r} e x y =
    subst (λ l. Written a at l c r) (sym (pair_bytes_parts w s))
    (written_more x (subst (λ m. Written b q (big_endian w m) c r) e y))

-- ---- an entry, from its blocks and its sorted pieces

pub entry_parts : (w : ℕ) (e : Entry) (n : ℕ) → n ≡ file_blocks (file_of e) → (l : List Section)
    → l ≡ sort_by by_first (pieces_in e)
    → entry_bytes w (file_of e) ≡ big_endian short_field e.id ++ (big_endian w n ++ pairs_bytes w l)
entry_parts w e n blocks l sorted =
    entry_bytes_parts w (file_of e)
    ∙ ap₂ (λ m k. big_endian short_field e.id ++ (big_endian w m ++ pairs_bytes w k)) (sym blocks) (sym sorted)

-- an entry's id has room
pub entry-room : (w : ℕ) (e : Entry) (cat : List ℕ) (at : ℕ) → Room cat at (entry_bytes w (file_of e))
    → Room cat at (big_endian short_field e.id)
entry-room w e cat at h =
    room_left cat (big_endian short_field e.id)
    (big_endian w (file_blocks (file_of e)) ++ pairs_bytes w (sort_by by_first (pieces_in e)))
    at (subst (Room cat at) (entry_bytes_parts w (file_of e)) h)

-- and its blocks and pairs, once that is written
pub entry-room-rest : (w : ℕ) (e : Entry) {cat after : List ℕ} {at r : ℕ} → Room cat at (entry_bytes w (file_of e))
    → Written cat at (big_endian short_field e.id) after r
    → Room after r (big_endian w (file_blocks (file_of e)) ++ pairs_bytes w (sort_by by_first (pieces_in e)))
entry-room-rest w e {cat = cat} {at = at} h x =
    room_right (big_endian short_field e.id)
    (big_endian w (file_blocks (file_of e)) ++ pairs_bytes w (sort_by by_first (pieces_in e)))
    x (subst (Room cat at) (entry_bytes_parts w (file_of e)) h)

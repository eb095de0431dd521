-- How many bytes a catalogue uses, and that its encoding fills the buffer with bytes. Assumes nothing.
use mathlib.Core.List.{List, [], ◌++◌, ◌∷◌}
use mathlib.Core.Logic.{◌⊎◌, inl, inr}
use mathlib.Core.Path.{◌≡◌, ap, refl}
use Prim.Native.Nat.{◌*◌, ◌+◌, ◌-◌, ◌<◌, ◌^◌, ◌≤◌, suc, zero, ℕ}
use native.Mathlib.Nat.{mul-le-mul_left, mul-le-mul_right, mul-suc, suc-mul}
use native.Mathlib.Omega.{arith}
use lib.Count.{ones, ones_cat, ones-le, ones_in}
use lib.ListN.{length, length-append, length-replicate, replicate}
use lib.Pow.{pow_pos}
use Rattle.catalogue.proofs.Fields.{big_endian-bytes, big_endian-length}
use Rattle.catalogue.proofs.Grouping.{entries_bytes-cons, entries_bytes_nil, entry_bytes_parts, header_bytes_parts}
use Rattle.catalogue.proofs.Grouping.{pair_bytes_parts, pairs_bytes-cons, pairs_bytes_nil, used_bytes_parts}
use Rattle.catalogue.specs.Encoding.{Bytes, big_endian, encode, entries_bytes, entry_bytes, header_bytes, pair_bytes}
use Rattle.catalogue.specs.Encoding.{pairs_bytes, used_bytes}
use Rattle.catalogue.specs.Roomy.{Roomy, used_most}
use Rattle.catalogue.specs.Version.{short_field}
use Rattle.catalogue.specs.declared.Version.{Version}
use Rattle.layout.proofs.Lists.{each_append, length_sort}
use Rattle.layout.specs.Layout.{File, Layout, by_first, file_blocks, free_blocks}
use Rattle.layout.specs.Lists.{Each, done, more, sort_by, sum_of}
use Rattle.layout.specs.Sound.{Sound}
use Rattle.section.proofs.Multiples.{below_or_not}
use Rattle.section.specs.Sections.{length_of}
use Rattle.section.specs.declared.Section.{Section}

pub ones_of_zero : ones 0 ≡ 0
unfolding ones ones_in
ones_of_zero = refl

pub ones_of_one : ones 1 ≡ 1
unfolding ones ones_in
ones_of_one = refl

-- a number up to 2 ^ k has at most k ones
ones_most : (k n : ℕ) → 1 ≤ k → n ≤ 2 ^ k → ones n ≤ k
ones_most k n pos p = go (below_or_not n (2 ^ k))
  where
    go : (n < 2 ^ k) ⊎ (2 ^ k ≤ n) → ones n ≤ k
    go (inl q) = ones-le k n q
    go (inr q) =
        let e : n ≡ 1 * 2 ^ k + 0 = omega arith in
        omega (arith, ap ones e, ones_cat k 1 0 (pow_pos k), ones_of_one, ones_of_zero)

pub pair_length : (w : ℕ) (s : Section) → length (pair_bytes w s) ≡ w + w
pair_length w s = simp (pair_bytes_parts, length-append, big_endian-length)

pub pairs-length : (w : ℕ) (l : List Section) → length (pairs_bytes w l) ≡ 2 * w * length l
pairs-length w [] = omega (arith, ap length (pairs_bytes_nil w))
pairs-length w (s ∷ l) =
    omega (
      arith,
      ap length (pairs_bytes-cons w s l),
      length-append (pair_bytes w s) (pairs_bytes w l),
      pair_length w s,
      pairs-length w l,
      mul-suc (2 * w) (length l),
    )

entry_length : (w : ℕ) (f : File) → length (entry_bytes w f) ≡ short_field + w + 2 * w * length f.pieces
entry_length w f =
    let l = sort_by by_first f.pieces in
    omega (
      arith,
      ap length (entry_bytes_parts w f),
      length-append (big_endian short_field f.id) (big_endian w (file_blocks f) ++ pairs_bytes w l),
      length-append (big_endian w (file_blocks f)) (pairs_bytes w l),
      big_endian-length short_field f.id,
      big_endian-length w (file_blocks f),
      pairs-length w l,
      ap (λ z. 2 * w * z) (length_sort by_first f.pieces),
    )

entries_most : (w p : ℕ) {fs : List File} → Each (λ (f : File). length f.pieces ≤ p) fs
    → length (entries_bytes w fs) ≤ length fs * (short_field + w + 2 * w * p)
entries_most w p done = omega (arith, ap length (entries_bytes_nil w))
entries_most w p (more {a = f} {l = fs} q e) =
    omega (
      arith,
      ap length (entries_bytes-cons w f fs),
      length-append (entry_bytes w f) (entries_bytes w fs),
      entry_length w f,
      entries_most w p e,
      mul-le-mul_left (2 * w) q,
      suc-mul (length fs) (short_field + w + 2 * w * p),
    )

module _ (v : Version) (room : Roomy v) (l : Layout) (s : Sound v.heights l) where
  file_most : (fs : List File) → sum_of file_blocks fs ≤ l.blocks
      → Each (λ (f : File). length f.pieces ≡ ones (file_blocks f)) fs
      → Each (λ (f : File). length f.pieces ≤ v.heights - 1) fs
  file_most [] c e = done
  file_most (f ∷ fs) c (more p e) =
      more {a = f} (omega (
        arith,
        ones_most (v.heights - 1) (file_blocks f) (omega (arith, room.some_heights))
            (omega (arith, s.most_blocks)),
      ))
      (file_most fs (omega arith) e)

  free_most : length l.free ≤ v.heights - 1
  free_most = omega (
    arith,
    s.free_count,
    ones_most (v.heights - 1) (free_blocks l) (omega (arith, room.some_heights)) (omega (arith, s.most_blocks)),
  )

  pub used_length : (r : List ℕ) → length (used_bytes v l ++ r) ≡ length (used_bytes v l) + length r
  used_length r = length-append (used_bytes v l) r

  -- at most so many bytes are used
  pub used_most_lem : length (used_bytes v l) ≤ used_most v
  used_most_lem =
      let w = v.width in
      let n = big_endian short_field v.number in
      let c = big_endian w l.blocks in
      let k = big_endian short_field (length l.files) in
      let e = entries_bytes w l.files in
      let p = pairs_bytes w l.free in
      omega (
        arith,
        ap length (used_bytes_parts v l),
        ap length (header_bytes_parts v l),
        length-append (header_bytes v l) (e ++ p),
        length-append n (c ++ k),
        length-append c k,
        length-append e p,
        big_endian-length short_field v.number,
        big_endian-length w l.blocks,
        big_endian-length short_field (length l.files),
        entries_most w (v.heights - 1) (file_most l.files s.pages_fit s.file_count),
        pairs-length w l.free,
        mul-le-mul_left (2 * w) free_most,
        mul-le-mul_right (short_field + w + 2 * w * (v.heights - 1)) s.most_files,
      )

  pub encode-length : length (encode v l) ≡ v.bytes
  unfolding encode
  encode-length =
      omega (
        arith,
        used_length (replicate (v.bytes - length (used_bytes v l)) 0),
        length-replicate {A = ℕ} (v.bytes - length (used_bytes v l)) 0,
        used_most_lem,
        room.room,
      )

-- ---- every byte of an encoding is a byte, whatever the layout

pairs-bytes : (w : ℕ) (l : List Section) → Bytes (pairs_bytes w l)
pairs-bytes w [] = rw (pairs_bytes_nil w) done
pairs-bytes w (s ∷ l) =
    rw (pairs_bytes-cons w s l, pair_bytes_parts w s)
    (each_append (each_append (big_endian-bytes w s.first) (big_endian-bytes w (length_of s))) (pairs-bytes w l))

entries-bytes : (w : ℕ) (fs : List File) → Bytes (entries_bytes w fs)
entries-bytes w [] = rw (entries_bytes_nil w) done
entries-bytes w (f ∷ fs) =
    rw (entries_bytes-cons w f fs, entry_bytes_parts w f)
    (each_append
    (each_append (big_endian-bytes short_field f.id)
    (each_append (big_endian-bytes w (file_blocks f)) (pairs-bytes w (sort_by by_first f.pieces))))
    (entries-bytes w fs))

header-bytes : (v : Version) (l : Layout) → Bytes (header_bytes v l)
header-bytes v l =
    rw (header_bytes_parts v l)
    (each_append (big_endian-bytes short_field v.number)
    (each_append (big_endian-bytes v.width l.blocks) (big_endian-bytes short_field (length l.files))))

used_bytes_lem : (v : Version) (l : Layout) → Bytes (used_bytes v l)
used_bytes_lem v l =
    rw (used_bytes_parts v l)
    (each_append (header-bytes v l)
    (each_append (entries-bytes v.width l.files) (pairs-bytes v.width l.free)))

zeros-bytes : (n : ℕ) → Bytes (replicate n 0)
zeros-bytes zero = done
zeros-bytes (suc n) = more {a = 0} (omega arith) (zeros-bytes n)

pub encode-bytes : (v : Version) (l : Layout) → Bytes (encode v l)
unfolding encode
encode-bytes v l = each_append (used_bytes_lem v l) (zeros-bytes (v.bytes - length (used_bytes v l)))

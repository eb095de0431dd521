-- A sound layout is read back from its encoding. Assumes nothing.
use mathlib.Core.Bool.{false, true}
use mathlib.Core.List.{List, [], ◌++◌, ◌∷◌}
use mathlib.Core.Path.{◌∙◌, ◌≡◌, ap, refl, sym}
use Prim.Native.Nat.{◌-◌, ◌<◌, ◌^◌, ◌≤◌, suc, zero, ℕ}
use native.Mathlib.Omega.{arith}
use lib.Count.{ones}
use lib.Dec.{eqb}
use lib.ListN.{length, replicate}
use lib.Pow.{pow_pos}
use borrow.Author.Tests.{eq-eqb, le-leb}
use Rattle.catalogue.proofs.Fields.{field_back}
use Rattle.catalogue.proofs.Grouping.{used_fields}
use Rattle.catalogue.proofs.ReadBack.{FileFits, Fits, entries_back, pairs_back}
use Rattle.catalogue.proofs.Roomy.{served_blocks}
use Rattle.catalogue.proofs.Tests.{and_intro, sound_test}
use Rattle.catalogue.specs.Encoding.{big_endian, byte_values, encode, entries_bytes, pairs_bytes}
use Rattle.catalogue.specs.Version.{short_field}
use Rattle.catalogue.specs.Encoding.{used_bytes}
use Rattle.catalogue.specs.Reading.{Header, Read, Reading, bad, every, got, judged, read_catalogue, read_header}
use Rattle.catalogue.specs.Reading.{read_layout, sound, unsound}
use Rattle.catalogue.specs.Roomy.{Roomy}
use Rattle.catalogue.specs.declared.Version.{Version}
use Rattle.layout.proofs.Cover.{disjoint_le}
use Rattle.layout.proofs.Lists.{each_and, each_imp, each_left, each_right, pairwise_imp, sum-append}
use Rattle.layout.specs.Layout.{File, Layout, OnDisk, all_pieces, file_blocks, file_pieces, holds_block}
use Rattle.layout.specs.Lists.{Each, Pairwise, done, more, sum_of}
use Rattle.layout.specs.Sound.{Sound, greatest_id}
use Rattle.section.proofs.Lengths.{pow_lt_inv}
use Rattle.section.specs.Limits.{greatest_disk, most_files}
use Rattle.section.specs.Sections.{length_of}
use Rattle.section.specs.declared.Section.{Section}

module _ (v : Version) (room : Roomy v) (l : Layout) (s : Sound v.heights l) where
  blocks-fit : l.blocks < byte_values ^ v.width
  blocks-fit = omega (arith, s.most_blocks, room.wide)

  blocks-few : l.blocks ≤ greatest_disk
  blocks-few = omega (arith, s.most_blocks, served_blocks room.served)

  fits : (p : Section) → OnDisk l.blocks p → p.height.value < v.heights → Fits v.width p
  fits p d h = (
    omega (arith, h, room.served.most_heights),
    (
      omega (arith, d.within, blocks-fit, pow_pos p.height.value),
      omega (arith, d.within, blocks-fit, pow_pos p.height.value),
    ),
    omega (arith, d.within, blocks-few, pow_pos p.height.value),
  )

  pub pieces_fit : Each (Fits v.width) (all_pieces l)
  pieces_fit = each_imp (λ p q. fits p q.0 q.1) (each_and s.on_disk s.heights)

  once : (x : ℕ) → sum_of (holds_block x) (all_pieces l) ≤ 1
  once x = disjoint_le x s.apart

  files_fitting : (fs : List File) → Each (Fits v.width) (file_pieces fs)
      → ((x : ℕ) → sum_of (holds_block x) (file_pieces fs) ≤ 1) → sum_of file_blocks fs ≤ l.blocks
      → Each (λ (f : File). f.id ≤ greatest_id) fs
      → Each (λ (f : File). Pairwise (λ (s t : Section). length_of t < length_of s) f.pieces) fs
      → Each (λ (f : File). length f.pieces ≡ ones (file_blocks f)) fs
      → Each (FileFits v.width) fs
  unfolding file_pieces
  files_fitting [] a b c d e g = done
  files_fitting (f ∷ fs) a b c (more d ds) (more e es) (more g gs) =
      more {a = f}
      (record {
        id = d;
        order = pairwise_imp (λ x y q. pow_lt_inv y.height.value x.height.value q) e;
        pieces = each_left f.pieces (file_pieces fs) a;
        once = λ x. omega (arith, b x, sum-append (holds_block x) f.pieces (file_pieces fs));
        size = omega (arith, blocks-fit);
        count = g;
      })
      (files_fitting fs (each_right f.pieces (file_pieces fs) a)
      (λ x. omega (arith, b x, sum-append (holds_block x) f.pieces (file_pieces fs))) (omega arith) ds es gs)

  pub files-fit : Each (FileFits v.width) l.files
  files-fit =
      files_fitting l.files (each_left (file_pieces l.files) l.free pieces_fit)
      (λ x. omega (arith, once x, sum-append (holds_block x) (file_pieces l.files) l.free))
      s.pages_fit s.most_id s.page_order s.file_count

  header_back : (r : List ℕ)
      → read_header v
      (big_endian short_field v.number
      ++ (big_endian v.width l.blocks ++ (big_endian short_field (length l.files) ++ r)))
      ≡ got (record { blocks = l.blocks; count = length l.files }) r
  unfolding read_header
  header_back r =
      rw (
        field_back short_field v.number
            (big_endian v.width l.blocks ++ (big_endian short_field (length l.files) ++ r)) room.number,
        field_back v.width l.blocks (big_endian short_field (length l.files) ++ r) blocks-fit,
        field_back short_field (length l.files) r (omega (arith, s.most_files)),
      )
      (ap (λ t. elim t as (λ _. Read Header) [
        | true ↦ got (record { blocks = l.blocks; count = length l.files }) r
        | false ↦ bad
      ])
      (and_intro (eq-eqb v.number v.number refl) (le-leb (length l.files) most_files s.most_files)))

  pub layout_back : (r : List ℕ) → read_layout v (used_bytes v l ++ r) ≡ got l r
  unfolding read_layout
  layout_back r =
      ap (read_layout v) (used_fields v l r)
      ∙ rw (
        header_back (entries_bytes v.width l.files ++ (pairs_bytes v.width l.free ++ r)),
        entries_back v.width (pairs_bytes v.width l.free ++ r) files-fit,
        sym s.free_count,
        pairs_back v.width r (each_right (file_pieces l.files) l.free pieces_fit),
      )

  zeros : (n : ℕ) → every (λ b. eqb b 0) (replicate n 0) ≡ true
  unfolding every
  zeros zero = refl
  zeros (suc n) = zeros n

  -- the encoding of a sound layout is read as that layout
  pub catalogue_back : read_catalogue v (encode v l) ≡ sound l
  unfolding read_catalogue judged encode
  catalogue_back =
      ap (judged v) (layout_back (replicate (v.bytes - length (used_bytes v l)) 0))
      ∙ ap (λ t. elim t as (λ _. Reading) [ true ↦ sound l | false ↦ unsound ])
      (and_intro (zeros (v.bytes - length (used_bytes v l))) (sound_test v.heights l s))

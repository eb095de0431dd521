-- What is encoded is read back: pairs and entries from their bytes. Assumes nothing.
use mathlib.Core.Bool.{cond, false, true}
use mathlib.Core.List.{List, ◌++◌, ◌∷◌}
use mathlib.Core.Path.{◌∙◌, ◌≡◌, ap, sym}
use Prim.Native.Nat.{◌-◌, ◌<◌, ◌^◌, ◌≤◌, suc, ℕ}
use native.Mathlib.Omega.{arith}
use lib.Count.{ones}
use lib.Dec.{ltb}
use lib.ListN.{length}
use borrow.Author.Tests.{eq-eqb, lt-ltb}
use Rattle.catalogue.proofs.Fields.{field_back}
use Rattle.catalogue.proofs.Grouping.{entries-cons, entries_bytes_nil, entry_fields, pairs-cons, pairs_bytes_nil}
use Rattle.catalogue.proofs.Sorting.{sort_back}
use Rattle.catalogue.proofs.Tests.{and_intro, pairs-pairwise}
use Rattle.catalogue.specs.Encoding.{big_endian, byte_values, entries_bytes, entry_bytes, pairs_bytes}
use Rattle.catalogue.specs.Version.{short_field}
use Rattle.catalogue.specs.Reading.{Read, bad, file_read, got, pairwise, read_entries, read_entry, read_field}
use Rattle.catalogue.specs.Reading.{read_pair, read_pairs, section_read, then}
use Rattle.layout.proofs.Lists.{each_sort, length_sort, pairwise_imp, sum_sort}
use Rattle.layout.proofs.Soundness.{rising_strict}
use Rattle.layout.proofs.Taking.{sort_rising}
use Rattle.layout.specs.Layout.{File, block_count, by_first, by_length, file_blocks, holds_block}
use Rattle.layout.specs.Lists.{Each, Pairwise, done, more, sort_by, sum_of}
use Rattle.layout.specs.Sound.{greatest_id}
use Rattle.section.proofs.Lengths.{height-of-length}
use Rattle.section.specs.Heights.{height_of}
use Rattle.section.specs.Limits.{greatest_disk, greatest_height}
use Rattle.section.specs.Sections.{length_of}
use Rattle.section.specs.declared.Section.{Section}

-- a section whose height has a length, that fits fields of w bytes, and whose first block can be one of a disk
abbrev pub Fits : ℕ → Section → Type 0
Fits w s =
    (s.height.value ≤ greatest_height) × ((s.first < byte_values ^ w) × (length_of s < byte_values ^ w))
    × (s.first < greatest_disk)

module _ (w : ℕ) where
  pair_back : (s : Section) (r : List ℕ) → Fits w s
      → read_pair w (big_endian w s.first ++ (big_endian w (length_of s) ++ r)) ≡ got s r
  unfolding read_pair
  pair_back s r p =
      ap (λ z. then z λ x r. then (read_field w r) λ n r'. section_read x (height_of n) r')
      (field_back w s.first (big_endian w (length_of s) ++ r) p.1.0)
      ∙ (ap (λ z. then z λ n r'. section_read s.first (height_of n) r')
      (field_back w (length_of s) r p.1.1)
      ∙ (ap (λ z. section_read s.first z r) (height-of-length s.height.value p.0)
      ∙ ap (λ t. cond t (got s r) bad) (lt-ltb s.first greatest_disk p.2)))

  pub pairs_back : {l : List Section} (r : List ℕ) → Each (Fits w) l
      → read_pairs (length l) w (pairs_bytes w l ++ r) ≡ got l r
  unfolding read_pairs
  pairs_back r done = ap (λ z. read_pairs 0 w (z ++ r)) (pairs_bytes_nil w)
  pairs_back r (more {a = s} {l = l} p e) =
      ap (read_pairs (suc (length l)) w) (pairs-cons w s l r)
      ∙ (ap (λ z. then z λ s r. then (read_pairs (length l) w r) λ l r'. got (s ∷ l) r')
      (pair_back s (pairs_bytes w l ++ r) p)
      ∙ ap (λ z. then z λ l r'. got (s ∷ l) r') (pairs_back r e))

  -- what a sound file shows of its fields
  pub record FileFits (f : File) : Type 0 where
    pub id : f.id ≤ greatest_id
    pub order : Pairwise (λ (s t : Section). t.height.value < s.height.value) f.pieces
    pub pieces : Each (Fits w) f.pieces
    pub once : (x : ℕ) → sum_of (holds_block x) f.pieces ≤ 1
    pub size : file_blocks f < byte_values ^ w
    pub count : length f.pieces ≡ ones (file_blocks f)

  entry_back : (f : File) (r : List ℕ) → FileFits f → read_entry w (entry_bytes w f ++ r) ≡ got f r
  unfolding read_entry file_read
  entry_back f r g =
      ap (read_entry w) (entry_fields w f r)
      ∙ (ap
      (λ z. then z λ i r. then (read_field w r) λ n r'. then (read_pairs (ones n) w r') λ l r''. file_read i n l r'')
      (field_back short_field f.id (big_endian w (file_blocks f) ++ (pairs_bytes w l ++ r)) id_fits)
      ∙ (ap (λ z. then z λ n r'. then (read_pairs (ones n) w r') λ l r''. file_read f.id n l r'')
      (field_back w (file_blocks f) (pairs_bytes w l ++ r) g.size)
      ∙ (ap (λ z. then (read_pairs z w (pairs_bytes w l ++ r)) λ l r''. file_read f.id (file_blocks f) l r'') count
      ∙ (ap (λ z. then z λ l r''. file_read f.id (file_blocks f) l r'')
      (pairs_back r (each_sort by_first g.pieces))
      ∙ from))))
    where
      l : List Section
      l = sort_by by_first f.pieces

      id_fits : f.id < byte_values ^ short_field
      id_fits = omega (arith, g.id)

      count : ones (file_blocks f) ≡ length l
      count = sym (length_sort by_first f.pieces ∙ g.count)

      rising : pairwise (λ (s t : Section). ltb s.first t.first) l ≡ true
      rising =
          pairs-pairwise _
          (pairwise_imp (λ s t p. lt-ltb s.first t.first p)
          (rising_strict l (sort_rising f.pieces)
          (λ x. omega (arith, sum_sort (holds_block x) by_first f.pieces, g.once x))))

      from : file_read f.id (file_blocks f) l r ≡ got f r
      from =
          ap (λ t. elim t as (λ _. Read File) [
            | true ↦ got (record { id = f.id; pieces = sort_by by_length l }) r
            | false ↦ bad
          ])
          (and_intro (eq-eqb (block_count l) (file_blocks f) (sum_sort length_of by_first f.pieces)) rising)
          ∙ ap (λ z. got (record { id = f.id; pieces = z }) r) (sort_back g.order)

  pub entries_back : {fs : List File} (r : List ℕ) → Each FileFits fs
      → read_entries (length fs) w (entries_bytes w fs ++ r) ≡ got fs r
  unfolding read_entries
  entries_back r done = ap (λ z. read_entries 0 w (z ++ r)) (entries_bytes_nil w)
  entries_back r (more {a = f} {l = fs} p e) =
      ap (read_entries (suc (length fs)) w) (entries-cons w f fs r)
      ∙ (ap (λ z. then z λ f r. then (read_entries (length fs) w r) λ l r'. got (f ∷ l) r')
      (entry_back f (entries_bytes w fs ++ r) p)
      ∙ ap (λ z. then z λ l r'. got (f ∷ l) r') (entries_back r e))

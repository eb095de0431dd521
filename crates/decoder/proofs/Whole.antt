-- The whole catalogue: the header, the entries and the free pairs. Assumes nothing.
use mathlib.Core.Bool.{Bool, ◌&&◌, false, true}
use mathlib.Core.List.{List}
use mathlib.Core.Path.{◌∙◌, ◌≡◌, ap, refl}
use Prim.Native.Nat.{◌+◌, ◌-◌, ◌<◌, ◌≤◌, ℕ}
use lib.Count.{ones}
use lib.Dec.{eqb, leb}
use lib.ListN.{drop}
use borrow.Author.Tests.{eq-eqb, le-leb, lt-leb, ne_eqb}
use Rattle.catalogue.proofs.Tests.{and_intro}
use Rattle.catalogue.specs.Reading.{Header, Read, bad, every, got, judged, read_catalogue, read_field, read_header}
use Rattle.catalogue.specs.Reading.{read_layout, read_pairs, sound_file, then, unsound}
use Rattle.catalogue.specs.Version.{Served, greatest_blocks, short_field, header_size}
use Rattle.catalogue.specs.declared.Version.{Version}
use Rattle.decoder.proofs.Early.{acceptable_sound, all_read, all_accepted, large-disk, many_free, rest_of, stopped}
use Rattle.decoder.proofs.EntryRuns.{EntriesLeft}
use Rattle.decoder.specs.Fields.{FieldAt}
use Rattle.decoder.specs.Loading.{HeaderAt}
use Rattle.section.specs.Limits.{greatest_disk, most_files}
use Rattle.piece_lists.specs.Few.{piece_places}
use Rattle.layout.specs.Layout.{File, Layout, file_blocks}
use Rattle.layout.specs.Lists.{sum_of}
use Rattle.section.proofs.Booleans.{false_and}
use Rattle.section.specs.declared.Section.{Section}

abbrev headed : Bool → ℕ → ℕ → List ℕ → Read Header
headed t b k r =
    elim t as (λ _. Read Header) [ true ↦ got (record { blocks = b; count = k }) r | false ↦ bad ]

module _ (v : Version) where
  abbrev after_header : Read Header → Read Layout
  after_header x = then x λ h r. then (EntriesLeft v.width h.count r) λ fs r'. rest_of v h.blocks fs r'

  module _ (s : List ℕ) (n b k : ℕ) (p : FieldAt short_field s 0 n) (q : FieldAt v.width s short_field b)
      (w : FieldAt short_field s (short_field + v.width) k) where
    header_at : read_header v s ≡ headed (eqb n v.number && leb k most_files) b k (drop (header_size v.width) s)
    unfolding read_header
    header_at =
        ap (λ z. then z
        λ n r. then (read_field v.width r)
        λ b r'. then (read_field short_field r') λ k r''. headed (eqb n v.number && leb k most_files) b k r'')
        p.equal
        ∙ (ap (λ z. then z
        λ b r'. then (read_field short_field r') λ k r''. headed (eqb n v.number && leb k most_files) b k r'')
        q.equal
        ∙ ap (λ z. then z λ k r''. headed (eqb n v.number && leb k most_files) b k r'') w.equal)

    layout-at : (t : Bool) → eqb n v.number && leb k most_files ≡ t
        → read_layout v s ≡ after_header (headed t b k (drop (header_size v.width) s))
    unfolding read_layout
    layout-at t e = ap after_header (header_at ∙ ap (λ t. headed t b k (drop (header_size v.width) s)) e)

    pub many_files : most_files < k → read_catalogue v s ≡ unsound
    unfolding read_catalogue judged
    many_files h = ap (judged v) (layout-at false (false_and (eqb n v.number) (lt-leb k most_files h)))

    module _ (one : n ≡ v.number) (few : k ≤ most_files) where
      passes : eqb n v.number && leb k most_files ≡ true
      passes = and_intro (eq-eqb n v.number one) (le-leb k most_files few)

      pub large-header : greatest_blocks v < b → read_catalogue v s ≡ unsound
      unfolding read_catalogue
      large-header h =
          ap (judged v) (layout-at true passes)
          ∙ large-disk v b (EntriesLeft v.width k (drop (header_size v.width) s)) h

      pub header_of : b ≤ greatest_blocks v → b ≤ greatest_disk → HeaderAt v s b k
      header_of fits most =
          record {
            equal = header_at ∙ ap (λ t. headed t b k (drop (header_size v.width) s)) passes;
            fits = fits;
            most = most;
            few = few;
          }

  module _ (z : Served v) (s : List ℕ) (b k : ℕ) (h : HeaderAt v s b k) where
    abbrev entries : Read (List File)
    entries = EntriesLeft v.width k (drop (header_size v.width) s)

    layout_of : read_layout v s ≡ then entries (rest_of v b)
    unfolding read_layout
    layout_of = ap after_header h.equal

    pub bad_files : all_accepted (EntriesLeft v.width k (drop (header_size v.width) s)) ≡ bad → read_catalogue v s
        ≡ unsound
    unfolding read_catalogue
    bad_files e = ap (judged v) layout_of ∙ stopped v z b entries e

    module _ (fs : List File) (r : List ℕ)
        (e : all_accepted (EntriesLeft v.width k (drop (header_size v.width) s)) ≡ got fs r) where
      files_got : read_layout v s ≡ rest_of v b fs r
      files_got = layout_of ∙ ap (λ y. then y (rest_of v b)) (all_read entries fs r e).0

      pub got_sound : every sound_file fs ≡ true
      got_sound = acceptable_sound fs (all_read entries fs r e).1

      pub many_free_pairs : piece_places < ones (b - sum_of file_blocks fs) → read_catalogue v s ≡ unsound
      unfolding read_catalogue
      many_free_pairs h = ap (judged v) files_got ∙ many_free v z b fs r h

      pub bad_free : read_pairs (ones (b - sum_of file_blocks fs)) v.width r ≡ bad → read_catalogue v s ≡ unsound
      unfolding read_catalogue judged
      bad_free x =
          ap (judged v)
          (files_got ∙ ap (λ x. then x λ free r'. got (record { blocks = b; files = fs; free = free }) r') x)

      pub got_layout : (free : List Section) (r' : List ℕ)
          → read_pairs (ones (b - sum_of file_blocks fs)) v.width r ≡ got free r'
          → read_layout v s ≡ got (record { blocks = b; files = fs; free = free }) r'
      got_layout free r' x =
          files_got ∙ ap (λ x. then x λ free r'. got (record { blocks = b; files = fs; free = free }) r') x

  other_version : (l : List ℕ) (n : ℕ) (r : List ℕ) → read_field short_field l ≡ got n r → (n ≡ v.number → ⊥)
      → read_header v l ≡ bad
  unfolding read_header
  other_version l n r e other =
      ap (λ z. then z
      λ n r. then (read_field v.width r)
      λ b r'. then (read_field short_field r') λ k r''. headed (eqb n v.number && leb k most_files) b k r'') e
      ∙ go (read_field v.width r)
    where
      last : (b : ℕ) (y : Read ℕ) → (then y λ k r''. headed (eqb n v.number && leb k most_files) b k r'') ≡ bad
      last b (got k r'') = ap (λ t. headed (t && leb k most_files) b k r'') (ne_eqb n v.number other)
      last b bad = refl

      go : (x : Read ℕ)
          → (then x λ b r'. then (read_field short_field r') λ k r''. headed
          (eqb n v.number && leb k most_files) b k r'') ≡ bad
      go (got b r') = last b (read_field short_field r')
      go bad = refl

  pub wrong_version : (s : List ℕ) (n : ℕ) → FieldAt short_field s 0 n → (n ≡ v.number → ⊥) → read_catalogue v s
      ≡ unsound
  unfolding read_catalogue read_layout judged
  wrong_version s n p other = ap (λ z. judged v (after_header z)) (other_version s n (drop 2 s) p.equal other)

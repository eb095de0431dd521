-- An entry at the front of the bytes: two fields and the pairs of a file. Assumes nothing.
use mathlib.Core.Bool.{false, true}
use mathlib.Core.List.{List}
use mathlib.Core.Path.{◌∙◌, ◌≡◌, ap, ap₂, refl, sym}
use Prim.Native.Nat.{◌+◌, ◌<◌, ◌≤◌, ℕ}
use native.Mathlib.Omega.{arith}
use lib.Count.{ones}
use lib.ListN.{drop, length, length-drop, take}
use Rattle.catalogue.specs.Version.{short_field}
use Rattle.decoder.proofs.Places.{field_long, field_short, number}
use Rattle.catalogue.specs.Reading.{Read, bad, file_read, got, read_entry, read_field, read_pairs, then}
use Rattle.section.proofs.Multiples.{below_or_not}
use mathlib.Core.Logic.{◌⊎◌, inl, inr}
use Rattle.decoder.proofs.Files.{file_many, file_parts, file-read, file_refused}
use Rattle.decoder.proofs.Runs.{pairs_count}
use Rattle.decoder.specs.Entries.{SomeEntryAt, accepted, is_file}
use Rattle.decoder.specs.Fields.{FieldAt, SomePairsAt}
use Rattle.decoder.specs.Pieces.{Sorts}
use Rattle.decoder.specs.declared.PairsRead.{PairsRead}
use Rattle.layout.proofs.Lists.{sum_sort}
use Rattle.layout.specs.Layout.{block_count, by_length}
use Rattle.section.specs.Sections.{length_of}
use Rattle.section.specs.declared.Section.{Section}
use Rattle.piece_lists.specs.Few.{list_of, piece_places}
use Rattle.table.specs.declared.Entry.{Entry}

entry-of-few : (w : ℕ) (l : List ℕ) → length l < short_field + w → read_entry w l ≡ bad
unfolding read_entry
entry-of-few w l h = go (below_or_not (length l) 2)
  where
    go : (length l < 2) ⊎ (2 ≤ length l) → read_entry w l ≡ bad
    go (inl p) =
        ap (λ z. then z
        λ i r. then (read_field w r) λ n r'. then (read_pairs (ones n) w r') λ l r''. file_read i n l r'')
        (field_short 2 0 l p)
    go (inr p) =
        ap (λ z. then z
        λ i r. then (read_field w r) λ n r'. then (read_pairs (ones n) w r') λ l r''. file_read i n l r'')
        (field_long 2 0 l p)
        ∙ ap (λ z. then z λ n r'. then (read_pairs (ones n) w r') λ k r''. file_read (number 0 (take 2 l)) n k r'')
        (field_short w 0 (drop 2 l) (omega (arith, length-drop 2 l)))

entry_at : (w : ℕ) (s : List ℕ) (i n : ℕ) (x : Read (List Section)) → FieldAt short_field s 0 i
    → FieldAt w s short_field n
    → read_pairs (ones n) w (drop (short_field + w) s) ≡ x
    → read_entry w s ≡ then x λ l r. file_read i n l r
unfolding read_entry
entry_at w s i n x p q e =
    ap (λ z. then z
    λ i r. then (read_field w r)
    λ n r'. then (read_pairs (ones n) w r') λ l r''. file_read i n l r'')
    p.equal
    ∙ (ap (λ z. then z λ n r'. then (read_pairs (ones n) w r') λ l r''. file_read i n l r'')
    q.equal
    ∙ ap (λ z. then z λ l r''. file_read i n l r'') e)

pub short_entry : (w : ℕ) (s : List ℕ) → length s < short_field + w → accepted (read_entry w s) ≡ bad
unfolding accepted
short_entry w s h = ap accepted (entry-of-few w s h)

-- a file of more pieces than an entry has places
pub many_pieces : (w : ℕ) (s : List ℕ) (i n : ℕ) → FieldAt short_field s 0 i → FieldAt w s short_field n
    → piece_places < ones n → accepted (read_entry w s) ≡ bad
unfolding accepted
many_pieces w s i n p q h =
    let x = read_pairs (ones n) w (drop (short_field + w) s) in
    ap accepted (entry_at w s i n x p q refl) ∙ go x refl
  where
    go : (x : Read (List Section)) → read_pairs (ones n) w (drop (short_field + w) s) ≡ x
        → accepted (then x λ l r. file_read i n l r) ≡ bad
    go (got l r) z = file_many i n l r (omega (arith, pairs_count w (ones n) (drop (short_field + w) s) l r z))
    go bad z = refl

module _ (w : ℕ) (s : List ℕ) (i n : ℕ) (p : FieldAt short_field s 0 i) (q : FieldAt w s short_field n) where
  pub unread-entry : read_pairs (ones n) w (drop (short_field + w) s) ≡ bad → accepted (read_entry w s) ≡ bad
  unfolding accepted
  unread-entry e = ap accepted (entry_at w s i n bad p q e)

  module _ (x : PairsRead) (y : SomePairsAt w s (short_field + w) (ones n) x) where
    pairs-read : accepted (read_entry w s) ≡ accepted (file_read i n (list_of x.list) (drop x.end s))
    pairs-read = ap accepted (entry_at w s i n (got (list_of x.list) (drop x.end s)) p q y.meaning)

    counted : length (list_of x.list) ≡ ones n
    counted = y.exact ∙ y.count

    few : length (list_of x.list) ≤ piece_places
    few = omega (arith, y.exact, y.places)

    pub refused_entry : is_file i n (list_of x.list) ≡ false → accepted (read_entry w s) ≡ bad
    refused_entry f = pairs-read ∙ file_refused i n (list_of x.list) (drop x.end s) f

    pub some_entry : (e : Entry) → is_file i n (list_of x.list) ≡ true → Sorts i x.list e
        → SomeEntryAt w s (record { n = n; size = x.end; entry = e })
    some_entry e f z =
        let d = file_parts i n (list_of x.list) f in
        record {
          meaning =
              pairs-read
              ∙ (file-read i n (list_of x.list) (drop x.end s) counted p.most few f
              ∙ ap₂ (λ j l. got (record { id = j; pieces = l }) (drop x.end s)) (sym z.id)
              (sym z.list));
          pages =
              sym d.0
              ∙ (sym (sum_sort length_of by_length (list_of x.list)) ∙ sym (ap block_count z.list));
          most = omega (arith, d.0, y.equal, y.most);
          places = omega (arith, z.count, y.places);
          inside = y.inside;
        }

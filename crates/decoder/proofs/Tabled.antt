-- What the record of the whole table holds, read or refused. Assumes nothing.
use mathlib.Core.List.{List, ◌++◌, map}
use mathlib.Core.Path.{◌∙◌, ◌≡◌, ap, sym}
use Prim.Native.Nat.{◌-◌, ◌<◌, ℕ}
use native.Mathlib.Omega.{arith}
use lib.Count.{ones}
use lib.ListN.{drop, length, length-map, take}
use lib.Seq.{length-take-le}
use Rattle.catalogue.specs.Reading.{bad, every, got, read_catalogue, read_pairs, sound_file, unsound}
use Rattle.catalogue.specs.Version.{Served}
use Rattle.catalogue.specs.declared.Version.{Version}
use Rattle.decoder.proofs.Filled.{FilesRead}
use Rattle.soundness.proofs.Joined.{files_to}
use Rattle.decoder.proofs.Whole.{bad_free, got_layout, got_sound, many_free_pairs}
use Rattle.decoder.specs.Fields.{SomePairsAt}
use Rattle.soundness.specs.Counts.{Exact}
use Rattle.decoder.specs.Loading.{HeaderAt, SomeTableAt}
use Rattle.decoder.specs.declared.PairsRead.{PairsRead}
use Rattle.layout.specs.Layout.{block_count, file_blocks}
use Rattle.std.proofs.lemmas.List.{take-append-le}
use Rattle.section.specs.Limits.{most_files}
use Rattle.layout.specs.Lists.{Each, sum_of}
use Rattle.piece_lists.specs.Few.{list_of, piece_places}
use Rattle.free_pieces.specs.Free.{Lists, free_of}
use Rattle.free_pieces.specs.declared.Free.{Free}
use Rattle.table.specs.Tables.{InPlaces, file_of, files_of, layout_of}
use Rattle.table.specs.declared.Entry.{Entry}
use Rattle.table.specs.declared.Table.{Table}

module _ (v : Version) (ser : Served v) (s : List ℕ) (b k : ℕ) (h : HeaderAt v s b k) (files : List Entry)
    (at sum : ℕ) (f : FilesRead v.width s k files at sum) (n : ℕ) (rest : n ≡ b - sum) where
  free-blocks : n ≡ b - sum_of file_blocks (files_to k files)
  free-blocks = rest ∙ ap (λ m. b - m) f.pages

  pub unread_many : piece_places < ones n → read_catalogue v s ≡ unsound
  unread_many l =
      many_free_pairs v ser s b k h (files_to k files) (drop at s) f.meaning (omega (arith, ap ones free-blocks))

  free-pairs : read_pairs (ones (b - sum_of file_blocks (files_to k files))) v.width (drop at s)
      ≡ read_pairs (ones n) v.width (drop at s)
  free-pairs = ap (λ m. read_pairs (ones m) v.width (drop at s)) (sym free-blocks)

  pub unread-free : read_pairs (ones n) v.width (drop at s) ≡ bad → read_catalogue v s ≡ unsound
  unread-free u = bad_free v ser s b k h (files_to k files) (drop at s) f.meaning (free-pairs ∙ u)

  module _ (x : PairsRead) (z : SomePairsAt v.width s at (ones n) x) where
    module _ (free : Free) (w : Lists x.list.count (list_of x.list) free) where
      -- whatever entries stand behind the files
      module _ (behind : List Entry) (e : length files ≡ k) (l : length (files ++ behind) ≡ most_files)
          (p : Each InPlaces (files ++ behind)) where
        abbrev table : Table
        table = record { blocks = b; count = k; files = files ++ behind; free = free }

        own : files_to k files ≡ files_to k (files ++ behind)
        own = sym (ap (map file_of) (take-append-le k files behind (omega (arith, e))))

        exact_table : Exact table
        unfolding files_of
        exact_table =
            record {
              sized = record { files = h.few; free = omega (arith, w.count, z.places); each = p };
              array = l;
              files =
                  length-map (take k (files ++ behind)) file_of
                  ∙ length-take-le k (files ++ behind) (omega (arith, l, h.few));
              free = ap length w.list ∙ (w.exact ∙ sym w.count);
            }

        pub table_at : SomeTableAt v s (record { sum = sum; free = x.sum; at = x.end; table = table })
        unfolding layout_of files_of
        table_at =
            record {
              read =
                  got_layout v ser s b k h (files_to k files) (drop at s) f.meaning (free_of free)
                  (drop x.end s)
                  (free-pairs ∙ (z.meaning ∙ ap (λ l. got l (drop x.end s)) (sym w.list)))
                  ∙ ap (λ m. got (record { blocks = b; files = m; free = free_of free }) (drop x.end s)) own;
              fits = h.fits;
              counted = record {
                pages_sum = f.pages ∙ ap (sum_of file_blocks) own;
                free_sum = z.equal ∙ sym (ap block_count w.list);
                sound_files =
                    ap (every sound_file) (sym own)
                    ∙ got_sound v ser s b k h (files_to k files) (drop at s) f.meaning;
                free_count =
                    ap length w.list
                    ∙ (z.exact ∙ (z.count ∙ ap ones (free-blocks ∙ ap (λ m. b - sum_of file_blocks m) own)));
              };
              exact = exact_table;
              inside = z.inside;
            }

-- The array of files, filled entry by entry. Assumes nothing.
use mathlib.Core.List.{List}
use mathlib.Core.Path.{◌∙◌, ◌≡◌, ap, ap₂, refl, sym}
use Prim.Native.Nat.{◌*◌, ◌+◌, ◌-◌, ◌<◌, ◌≤◌, suc, zero, ℕ}
use native.Mathlib.Omega.{arith}
use lib.ListN.{drop, length, length-set, set, take}
use Rattle.catalogue.specs.Reading.{bad, got, read_entry}
use Rattle.decoder.proofs.Early.{all_accepted}
use Rattle.decoder.proofs.EntryRuns.{EntriesLeft, FilesLeft, entry_inside, files_bad, files-end, files_more}
use Rattle.decoder.proofs.EntryRuns.{files_start, files-sum}
use Rattle.soundness.proofs.Joined.{files_to}
use Rattle.decoder.specs.Entries.{SomeEntryAt, accepted}
use Rattle.catalogue.specs.Version.{header_size}
use Rattle.piece_lists.specs.Few.{piece_places}
use Rattle.decoder.specs.declared.EntryRead.{EntryRead}
use Rattle.piece_lists.proofs.EachItem.{each_set}
use Rattle.layout.specs.Layout.{file_blocks}
use Rattle.layout.specs.Lists.{Each, done, more, sum_of}
use Rattle.section.specs.Limits.{greatest_disk}
use Rattle.table.specs.Tables.{InPlaces}
use Rattle.table.specs.declared.Entry.{Entry}

-- i of the n files after the header stand in the array, and the others' bytes start at a place
pub record FilesAt (w : ℕ) (s : List ℕ) (n : ℕ) (files : List Entry) (at sum i : ℕ) : Type 0 where
  pub few : i ≤ n
  pub meaning : FilesLeft w s n at i files ≡ all_accepted (EntriesLeft w n (drop (header_size w) s))
  pub pages : sum ≡ sum_of file_blocks (files_to i files)
  pub most : sum ≤ greatest_disk * piece_places * i
  pub each : Each InPlaces files
  pub exact : length files ≡ n
  pub inside : at ≤ length s

-- the n entries are the files after the header, and what follows them starts at a place
pub record FilesRead (w : ℕ) (s : List ℕ) (n : ℕ) (files : List Entry) (at sum : ℕ) : Type 0 where
  pub meaning : all_accepted (EntriesLeft w n (drop (header_size w) s)) ≡ got (files_to n files) (drop at s)
  pub pages : sum ≡ sum_of file_blocks (files_to n files)

-- the entries of an array from a place on
pub each_drop : (n : ℕ) {l : List Entry} → Each InPlaces l → Each InPlaces (drop n l)
each_drop zero e = e
each_drop (suc n) done = done
each_drop (suc n) (more p e) = each_drop n e

pub filled_start : (w : ℕ) (s : List ℕ) (n : ℕ) (files : List Entry) → header_size w ≤ length s → length files ≡ n
    → Each InPlaces files
    → FilesAt w s n files (header_size w) 0 0
filled_start w s n files l x p =
    record {
      few = omega arith;
      meaning = files_start w s (header_size w) n files;
      pages = refl;
      most = omega arith;
      each = p;
      exact = x;
      inside = l;
    }

module _ (w : ℕ) (s : List ℕ) (n : ℕ) (files : List Entry) (at sum i : ℕ) (f : FilesAt w s n files at sum i) where
  pub filled_bad : i < n → accepted (read_entry w (take (length s - at) (drop at s))) ≡ bad
      → all_accepted (EntriesLeft w n (drop (header_size w) s)) ≡ bad
  filled_bad h e = sym f.meaning ∙ files_bad w s n at i files h e

  module _ (h : i < n) (e : EntryRead)
      (q : SomeEntryAt w (take (length s - at) (drop at s)) e) where
    pub filled_inside : at + e.size ≤ length s
    filled_inside = entry_inside w s n at i files h e q f.inside

    pub filled_more : FilesAt w s n (set files i e.entry) (at + e.size) (sum + e.n) (i + 1)
    filled_more =
        let l : i < length files = omega (arith, f.exact) in
        record {
          few = omega arith;
          meaning = files_more w s n at i files h e q l ∙ f.meaning;
          pages =
              ap₂ (λ m n. m + n) f.pages q.pages
              ∙ sym (files-sum files i e.entry l);
          most = omega (arith, f.most, q.most);
          each = each_set i e.entry f.each q.places;
          exact = simp length-set f.exact;
          inside = filled_inside;
        }

  module _ (h : n ≤ i) where
    all : i ≡ n
    all = omega (arith, f.few)

    pub filled_all : FilesRead w s n files at sum
    filled_all =
        let e : files_to i files ≡ files_to n files = ap (λ k. files_to k files) all in
        record {
          meaning = sym f.meaning ∙ (ap (λ k. FilesLeft w s n at k files) all ∙ files-end w s n at files);
          pages = f.pages ∙ ap (sum_of file_blocks) e;
        }

-- Entries read one after another, up to the first that no sound layout has. Assumes nothing.
use mathlib.Core.Bool.{Bool, ◌&&◌, false, true}
use mathlib.Core.List.{List, [], ◌++◌, ◌∷◌, append-nil, map}
use mathlib.Core.Path.{◌∙◌, ◌≡◌, ap, refl, sym}
use Prim.Native.Nat.{◌+◌, ◌-◌, ◌<◌, ◌≤◌, suc, ℕ}
use native.Mathlib.Omega.{arith}
use lib.ListN.{drop, length, length-drop, set, take}
use lib.Seq.{drop-drop}
use Rattle.std.proofs.lemmas.List.{take_rest}
use Rattle.catalogue.specs.Reading.{Read, bad, every, got, read_entries, read_entry, then}
use Rattle.decoder.proofs.Early.{all_accepted}
use Rattle.decoder.proofs.Runs.{after_more, after_none, read_after}
use Rattle.soundness.proofs.Joined.{files_to, pushed}
use Rattle.decoder.specs.Entries.{SomeEntryAt, acceptable, accepted}
use Rattle.decoder.specs.declared.EntryRead.{EntryRead}
use Rattle.layout.proofs.Lists.{map-append, sum-append}
use Rattle.layout.specs.Layout.{File, file_blocks}
use Rattle.layout.specs.Lists.{sum_of}
use Rattle.table.specs.Tables.{file_of}
use Rattle.table.specs.declared.Entry.{Entry}

abbrev pub EntriesLeft : ℕ → ℕ → List ℕ → Read (List File)
EntriesLeft w c bs = read_entries c w bs

abbrev with_file : File → Read (List File) → Read (List File)
with_file f y = then y λ l r. got (f ∷ l) r

both_accepted : (a b : Bool) (f : File) (l : List File) (r : List ℕ)
    → ◌≡◌ {A = Read (List File)}
    (elim (a && b) as (λ _. Read (List File)) [ true ↦ got (f ∷ l) r | false ↦ bad ])
    (elim a as (λ _. Read (List File)) [
      | true ↦ with_file f (elim b as (λ _. Read (List File)) [ true ↦ got l r | false ↦ bad ])
      | false ↦ bad
    ])
both_accepted true true f l r = refl
both_accepted true false f l r = refl
both_accepted false b f l r = refl

never_accepted : (a : Bool)
    → ◌≡◌ {A = Read (List File)} bad (elim a as (λ _. Read (List File)) [ true ↦ bad | false ↦ bad ])
never_accepted true = refl
never_accepted false = refl

with-accepted : (f : File) (y : Read (List File))
    → all_accepted (with_file f y)
    ≡ elim (acceptable f) as (λ _. Read (List File)) [ true ↦ with_file f (all_accepted y) | false ↦ bad ]
unfolding all_accepted every
with-accepted f (got l r) = both_accepted (acceptable f) (every acceptable l) f l r
with-accepted f bad = never_accepted (acceptable f)

then-accepted : (a : Bool) (f : File) (r : List ℕ) (k : File → List ℕ → Read (List File))
    → ◌≡◌ {A = Read (List File)} (elim a as (λ _. Read (List File)) [ true ↦ k f r | false ↦ bad ])
    (then (elim a as (λ _. Read File) [ true ↦ got f r | false ↦ bad ]) k)
then-accepted true f r k = refl
then-accepted false f r k = refl

all_step : (w c : ℕ) (x : Read File)
    → all_accepted (then x λ f r. with_file f (EntriesLeft w c r))
    ≡ then (accepted x) λ f r. with_file f (all_accepted (EntriesLeft w c r))
unfolding accepted all_accepted
all_step w c (got f r) =
    with-accepted f (EntriesLeft w c r)
    ∙ then-accepted (acceptable f) f r (λ f r. with_file f (all_accepted (EntriesLeft w c r)))
all_step w c bad = refl

entries_step : (w c : ℕ) (bs : List ℕ) (acc : List File) (f : File) (r : List ℕ)
    → accepted (read_entry w bs) ≡ got f r
    → read_after acc (all_accepted (EntriesLeft w (suc c) bs))
    ≡ read_after (acc ++ (f ∷ [])) (all_accepted (EntriesLeft w c r))
unfolding read_entries
entries_step w c bs acc f r e =
    ap (read_after acc) (all_step w c (read_entry w bs))
    ∙ (ap (λ z. read_after acc (then z λ f r. with_file f (all_accepted (EntriesLeft w c r)))) e
    ∙ after_more acc f (all_accepted (EntriesLeft w c r)))

entries_stop : (w c : ℕ) (bs : List ℕ) (acc : List File) → accepted (read_entry w bs) ≡ bad
    → read_after acc (all_accepted (EntriesLeft w (suc c) bs)) ≡ bad
unfolding read_entries
entries_stop w c bs acc e =
    ap (read_after acc) (all_step w c (read_entry w bs))
    ∙ ap (λ z. read_after acc (then z λ f r. with_file f (all_accepted (EntriesLeft w c r)))) e

entries-end : (w : ℕ) (bs : List ℕ) (acc : List File) → read_after acc (all_accepted (EntriesLeft w 0 bs)) ≡ got acc bs
unfolding read_entries all_accepted every
entries-end w bs acc = ap (λ z. got z bs) (append-nil acc)

-- ---- with the entries that were read in an array

abbrev pub FilesLeft : ℕ → List ℕ → ℕ → ℕ → ℕ → List Entry → Read (List File)
FilesLeft w s count at i files = read_after (files_to i files) (all_accepted (EntriesLeft w (count - i) (drop at s)))

files_pushed : (files : List Entry) (i : ℕ) (e : Entry) → i < length files
    → files_to (i + 1) (set files i e) ≡ files_to i files ++ (file_of e ∷ [])
files_pushed files i e h = ap (map file_of) (pushed files i e h) ∙ map-append file_of (take i files) (e ∷ [])

pub files-sum : (files : List Entry) (i : ℕ) (e : Entry) → i < length files
    → sum_of file_blocks (files_to (i + 1) (set files i e))
    ≡ sum_of file_blocks (files_to i files) + file_blocks (file_of e)
files-sum files i e h =
    ap (sum_of file_blocks) (files_pushed files i e h)
    ∙ (sum-append file_blocks (files_to i files) (file_of e ∷ []) ∙ (omega arith))

pub files_start : (w : ℕ) (s : List ℕ) (at count : ℕ) (files : List Entry)
    → FilesLeft w s count at 0 files ≡ all_accepted (EntriesLeft w count (drop at s))
files_start w s at count files =
    after_none (all_accepted (EntriesLeft w (count - 0) (drop at s)))
    ∙ ap (λ n. all_accepted (EntriesLeft w n (drop at s))) zero_less
  where
    zero_less : count - 0 ≡ count
    zero_less = omega arith

module _ (w : ℕ) (s : List ℕ) (count at i : ℕ) (files : List Entry) (h : i < count) where
  one_less : count - i ≡ suc (count - (i + 1))
  one_less = omega arith

  whole : take (length s - at) (drop at s) ≡ drop at s
  whole = take_rest s at

  pub files_bad : accepted (read_entry w (take (length s - at) (drop at s))) ≡ bad
      → FilesLeft w s count at i files ≡ bad
  files_bad e =
      ap (λ n. read_after (files_to i files) (all_accepted (EntriesLeft w n (drop at s)))) one_less
      ∙ entries_stop w (count - (i + 1)) (drop at s) (files_to i files)
      (sym (ap (λ z. accepted (read_entry w z)) whole) ∙ e)

  module _ (e : EntryRead) (q : SomeEntryAt w (take (length s - at) (drop at s)) e) where
    at_place : accepted (read_entry w (drop at s)) ≡ got (file_of e.entry) (drop (at + e.size) s)
    at_place =
        sym (ap (λ z. accepted (read_entry w z)) whole)
        ∙ (q.meaning
        ∙ (ap (λ z. got (file_of e.entry) (drop e.size z)) whole
        ∙ ap (got (file_of e.entry)) (drop-drop e.size at s)))

    pub entry_inside : at ≤ length s → at + e.size ≤ length s
    entry_inside l = omega (arith, q.inside, ap length whole, length-drop at s)

    pub files_more : i < length files
        → FilesLeft w s count (at + e.size) (i + 1) (set files i e.entry) ≡ FilesLeft w s count at i files
    files_more l =
        ap (λ z. read_after z (all_accepted (EntriesLeft w (count - (i + 1)) (drop (at + e.size) s))))
        (files_pushed files i e.entry l)
        ∙ (sym
        (entries_step w (count - (i + 1)) (drop at s) (files_to i files) (file_of e.entry) (drop (at + e.size) s)
        at_place)
        ∙ ap (λ n. read_after (files_to i files) (all_accepted (EntriesLeft w n (drop at s)))) (sym one_less))

pub files-end : (w : ℕ) (s : List ℕ) (count at : ℕ) (files : List Entry)
    → FilesLeft w s count at count files ≡ got (files_to count files) (drop at s)
files-end w s count at files =
    ap (λ n. read_after (files_to count files) (all_accepted (EntriesLeft w n (drop at s)))) none_left
    ∙ entries-end w (drop at s) (files_to count files)
  where
    none_left : count - count ≡ 0
    none_left = omega arith

-- The claim about every list of exported calls, in the words of include/evdisk.h: the number that a call gives back
-- and the bytes that it leaves in the caller's buffers. Definitions only. `ExportedList` is the one statement;
-- `exported_list` of `proofs/ExportedList.antt` proves it. What it asks of each call is the clause `listed` of that
-- call's contract.
use Rattle.std.specs.Prelude.{List, [], ◌∷◌, ◌≡◌, ◌-◌, ◌≤◌, ℕ, ℤ, neg_ℤ, pos, drop, length, replicate, take}
use Rattle.std.specs.Int.Count.{ones}
use Rattle.catalogue.specs.declared.Version.{Version}
use Rattle.layout.specs.Carries.{carries}
use Rattle.layout.specs.Divisions.{FewestPieces}
use Rattle.layout.specs.Helping.{InCopyOrder}
use Rattle.layout.specs.Layout.{File, Layout, breaks_of, file_blocks, find_file, found, free_blocks}
use Rattle.layout.specs.Removing.{copies_of, removal}
use Rattle.manager.specs.Book.{Book, BookReply, Line, answers, any_number, book_free, fits, fresh_book, in_any_order}
use Rattle.manager.specs.Book.{in_book, line, line_with, most_lines, refuses}
use Rattle.manager.specs.Call.{Call, ListedCall, add, breaks, check, free, output_of, read, remove, replace, which}
use Rattle.manager.specs.Conditions.{Outcome}
use Rattle.manager.specs.Outcomes.{format_outcome, perform}
use Rattle.manager.specs.Table.{CatalogueOf}
use Rattle.manager.specs.WholeList.{Afterwards, OutputsAgree, RightLengths, Strikes}
use Rattle.section.specs.Limits.{height_count, most_files}
use Rattle.evdisk.specs.Codes.{code_of, fits_number}

-- ---- what a call gives back

-- the number, and what is in the buffers then; a call without an output has []
pub record Returned : Type 0 where
  pub code : ℤ
  pub catalogue : List ℕ
  pub disk : List ℕ
  pub output : List ℕ

abbrev pub returned : ℤ → List ℕ → List ℕ → List ℕ → Returned
returned r cat d o = record { code = r; catalogue = cat; disk = d; output = o }

-- number and buffers are as the contract's clauses say, o being the call's outcome
pub record AsPromised (o : Outcome) (r : Returned) : Type 0 where
  pub answer : r.code ≡ code_of o.reply
  pub catalogue : r.catalogue ≡ o.catalogue
  pub disk : r.disk ≡ o.disk
  pub output : r.output ≡ o.output

-- the same of a call that gets no disk: whatever disk the caller has stays beside it
abbrev pub AsPromisedBeside : (List ℕ → Outcome) → ℤ → List ℕ → List ℕ → Type 0
AsPromisedBeside o r cat out = (d : List ℕ) → AsPromised (o d) (returned r cat d out)

-- a call of a list, and what it gave back
pub record ExportedCall : Type 0 where
  pub listed : ListedCall
  pub gave : Returned

-- each call got the bytes that the one before it left, and gave back what its contract says
abbrev pub Promised : List ExportedCall → List ℕ → List ℕ → Type 0
Promised [] cat d = Unit {0}
Promised (c ∷ cs) cat d =
    AsPromised (perform c.listed.call cat d) c.gave × Promised cs c.gave.catalogue c.gave.disk

-- ---- at each call

-- the number if the book refuses with n: minus n, and below 0; if it answers n: n; if it answers some number: 0 or
-- more; if it answers n with numbers in any order: n, at most 64; if it says "fits already": 256
abbrev pub CodeOfBook : BookReply → ℤ → Type 0
CodeOfBook (refuses n) r = (1 ≤ n) × (r ≡ neg_ℤ (pos n))
CodeOfBook (answers n) r = r ≡ pos n
CodeOfBook any_number r = (n : ℕ) × (r ≡ pos n)
CodeOfBook (in_any_order n) r = (n ≤ most_lines) × (r ≡ pos n)
CodeOfBook fits r = r ≡ pos fits_number

-- only an add, a removal or a replacement that gives back 0 or more alters anything
abbrev pub AltersBy : Call → ℤ → Type 0
AltersBy (add i bs) r = (n : ℕ) × (r ≡ pos n)
AltersBy (remove i) r = (n : ℕ) × (r ≡ pos n)
AltersBy (replace i bs) r = (n : ℕ) × (r ≡ pos n)
AltersBy (read i p o) r = ⊥
AltersBy (breaks i) r = ⊥
AltersBy (which n o) r = ⊥
AltersBy free r = ⊥
AltersBy check r = ⊥

-- what is claimed of one call that was given a catalogue and a disk, beside the book
pub record CodeAgrees (c : Call) (cat d : List ℕ) (b : Book) (r : Returned) : Type 0 where
  pub code : CodeOfBook (in_book c b).reply r.code
  -- the whole output of a read, and the numbers that `which` writes
  pub output : OutputsAgree (in_book c b).reply r.output (in_book c b).output
  pub catalogue_kept : (AltersBy c r.code → ⊥) → r.catalogue ≡ cat
  pub disk_kept : (AltersBy c r.code → ⊥) → r.disk ≡ d
  pub book_kept : (AltersBy c r.code → ⊥) → (in_book c b).book ≡ b
  -- a removal, and a replacement, gives back the number of block copies made at the removal's steps, within the carries
  -- of f + n, n being that of the file that goes
  pub copies : (i n : ℕ) (l : Layout) (f : File) → Strikes i c → r.code ≡ pos n → CatalogueOf cat l
      → find_file i l.files ≡ found f → n ≡ length (copies_of (removal height_count f l))
  pub limit : (i n : ℕ) (x : Line) → Strikes i c → r.code ≡ pos n → line_with i b.lines ≡ line x
      → n ≤ carries height_count (book_free b) (length x.pages)
  -- breaks gives back the breaks of the file's pieces in the catalogue
  pub breaks_answer : (i n : ℕ) (l : Layout) (f : File) → c ≡ breaks i → r.code ≡ pos n → CatalogueOf cat l
      → find_file i l.files ≡ found f → n ≡ breaks_of f.pieces
  -- and these are at most the ones of n less one
  pub breaks_limit : (i n : ℕ) (x : Line) → c ≡ breaks i → r.code ≡ pos n → line_with i b.lines ≡ line x
      → n ≤ ones (length x.pages) - 1
  -- if `which` gives back k, at most 64, the k ids that it writes stand by the copies of the removals of their files,
  -- equal counts by lower id, and zeros behind them
  pub which_order : (n k : ℕ) (o : List ℕ) (l : Layout) → c ≡ which n o → r.code ≡ pos k → k ≤ most_files
      → CatalogueOf cat l → InCopyOrder height_count l (take k r.output)
  pub which_zeros : (n k : ℕ) (o : List ℕ) → c ≡ which n o → r.code ≡ pos k → k ≤ most_files
      → drop k r.output ≡ replicate (most_files - k) 0

-- every call of the list agrees, each on what the one before it left, and afterwards all is as claimed
abbrev pub CodesFollow : Version → List ExportedCall → List ℕ → List ℕ → Book → Type 0
CodesFollow v [] cat d b = Afterwards v cat d b
CodesFollow v (c ∷ cs) cat d b =
    CodeAgrees c.listed.call cat d b c.gave
    × CodesFollow v cs c.gave.catalogue c.gave.disk (in_book c.listed.call b).book

-- ---- the claim

pub record ExportedList : Type 0 where
  -- evdisk_format gives back C if the buffers have the right lengths, and 0 or more only then; the disk stays
  pub format_answers : (v : Version) (c : ℕ) (cat d : List ℕ) (r : Returned) → AsPromised (format_outcome cat d) r
      → RightLengths v c cat d → r.code ≡ pos c
  pub format_lengths : (c : ℕ) (cat d : List ℕ) (r : Returned) → AsPromised (format_outcome cat d) r
      → r.code ≡ pos c → (v : Version) × RightLengths v c cat d
  pub format_disk : (cat d : List ℕ) (r : Returned) → AsPromised (format_outcome cat d) r → r.disk ≡ d
  pub format_refused : (cat d : List ℕ) (r : Returned) → AsPromised (format_outcome cat d) r
      → ((n : ℕ) → r.code ≡ pos n → ⊥) → r.catalogue ≡ cat
  -- from a format that gave back C every list of calls follows a fresh book of C blocks
  pub list : (c : ℕ) (cat d : List ℕ) (r : Returned) → AsPromised (format_outcome cat d) r → r.code ≡ pos c
      → (cs : List ExportedCall) → Promised cs r.catalogue r.disk
      → (v : Version) × RightLengths v c cat d × CodesFollow v cs r.catalogue r.disk (fresh_book c)
  -- whatever the bytes, a call that gives back a number below 0 leaves every buffer as it was
  pub refused_keeps : (c : Call) (cat d : List ℕ) (r : Returned) → AsPromised (perform c cat d) r
      → ((n : ℕ) → r.code ≡ pos n → ⊥) → (r.catalogue ≡ cat) × (r.disk ≡ d) × (r.output ≡ output_of c)
  -- the limit on copies stands for a removal and a replacement on every sound catalogue
  pub limit : (c : Call) (cat d : List ℕ) (r : Returned) (l : Layout) (i n : ℕ) (f : File) → Strikes i c
      → AsPromised (perform c cat d) r → CatalogueOf cat l → find_file i l.files ≡ found f
      → r.code ≡ pos n → n ≤ carries height_count (free_blocks l) (file_blocks f)
  -- and so does the limit on breaks
  pub breaks_limit : (cat d : List ℕ) (r : Returned) (l : Layout) (i n : ℕ) (f : File)
      → AsPromised (perform (breaks i) cat d) r → CatalogueOf cat l → find_file i l.files ≡ found f
      → r.code ≡ pos n → n ≤ ones (file_blocks f) - 1
  -- on every sound catalogue no division into powers of two has fewer pieces than a file, or than are free
  pub fewest : (cat : List ℕ) (l : Layout) → CatalogueOf cat l → FewestPieces 2 l

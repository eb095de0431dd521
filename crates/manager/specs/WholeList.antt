-- The claim about the whole list of calls: document 01, "The plain book"; document 02, W1, W4, W5 and W6.
-- `WholeList` is the one statement; `whole_list` of `proofs/WholeList.antt` proves it, of every version.
-- Definitions only.
use Rattle.std.specs.Prelude.{List, [], ◌∷◌, map, ◌≡◌, ◌*◌, ◌-◌, ◌<◌, ◌≤◌, ℕ, drop, length, replicate, take}
use Rattle.std.specs.Int.Count.{ones}
use Rattle.catalogue.specs.Encoding.{byte_values}
use Rattle.catalogue.specs.Version.{OneOf, greatest_blocks, versions}
use Rattle.catalogue.specs.declared.Version.{Version}
use Rattle.layout.specs.Carries.{carries}
use Rattle.layout.specs.Divisions.{Fewest, FewestPieces, lengths_of}
use Rattle.layout.specs.Layout.{File, Layout, OnePiecePerOne, all_pieces, breaks_of, file_blocks, find_file, found}
use Rattle.layout.specs.Layout.{free_blocks, holds_block}
use Rattle.layout.specs.Lists.{Each, sum_of, times_in}
use Rattle.layout.specs.Helping.{InCopyOrder}
use Rattle.layout.specs.Removing.{copies_of, removal}
use Rattle.manager.specs.Book.{Book, BookReply, Line, answers, any_number, book_free, fits, fresh_book, in_any_order}
use Rattle.manager.specs.Book.{in_book, line, line_with, refuses}
use Rattle.manager.specs.Call.{Call, ListedCall, add, breaks, check, free, read, remove, replace, which}
use Rattle.manager.specs.Conditions.{Reply, answered, fits_already, refused}
use Rattle.manager.specs.Disk.{pages_on}
use Rattle.manager.specs.Outcomes.{format_outcome, perform}
use Rattle.manager.specs.Table.{CatalogueOf}
use Rattle.section.specs.Limits.{block_size, height_count, most_files}

-- ---- at each call

-- the manager refuses exactly when the book does, with the same number, says "fits already" exactly when the book
-- does, and its answer is the book's where the book has one
abbrev pub RepliesAgree : Reply → BookReply → Type 0
RepliesAgree (refused n) (refuses m) = n ≡ m
RepliesAgree (answered n) (answers m) = n ≡ m
RepliesAgree (answered n) any_number = Unit {0}
RepliesAgree (refused n) (answers m) = ⊥
RepliesAgree (refused n) any_number = ⊥
RepliesAgree (answered n) (refuses m) = ⊥
RepliesAgree (answered n) (in_any_order m) = n ≡ m
RepliesAgree (refused n) (in_any_order m) = ⊥
RepliesAgree fits_already fits = Unit {0}
RepliesAgree fits_already (refuses m) = ⊥
RepliesAgree fits_already (answers m) = ⊥
RepliesAgree fits_already any_number = ⊥
RepliesAgree fits_already (in_any_order m) = ⊥
RepliesAgree (answered n) fits = ⊥
RepliesAgree (refused n) fits = ⊥

-- each number stands in both lists as often
abbrev pub SameNumbers : List ℕ → List ℕ → Type 0
SameNumbers a b = (x : ℕ) → times_in x a ≡ times_in x b

-- the output is the book's, and where its order is not the book's the numbers in it are
abbrev pub OutputsAgree : BookReply → List ℕ → List ℕ → Type 0
OutputsAgree (refuses m) a b = a ≡ b
OutputsAgree (answers m) a b = a ≡ b
OutputsAgree any_number a b = a ≡ b
OutputsAgree (in_any_order m) a b = SameNumbers a b
OutputsAgree fits a b = a ≡ b

abbrev pub Answered : Reply → Type 0
Answered (answered n) = Unit {0}
Answered (refused n) = ⊥
Answered fits_already = Unit {0}

-- only an add, a removal or a replacement that is not refused alters anything
abbrev pub Alters : Call → Reply → Type 0
Alters (add i bs) r = Answered r
Alters (remove i) r = Answered r
Alters (replace i bs) r = Answered r
Alters (read i p o) r = ⊥
Alters (breaks i) r = ⊥
Alters (which n o) r = ⊥
Alters free r = ⊥
Alters check r = ⊥

-- the call strikes the line i: as a removal, or as a replacement before it writes the new one
abbrev pub Strikes : ℕ → Call → Type 0
Strikes i (add j bs) = ⊥
Strikes i (remove j) = i ≡ j
Strikes i (replace j bs) = i ≡ j
Strikes i (read j p o) = ⊥
Strikes i (breaks j) = ⊥
Strikes i (which n o) = ⊥
Strikes i free = ⊥
Strikes i check = ⊥

-- what is claimed of one call on a catalogue and a disk, beside the book
pub record CallAgrees (c : Call) (cat d : List ℕ) (b : Book) : Type 0 where
  pub reply : RepliesAgree (perform c cat d).reply (in_book c b).reply
  -- the whole output of a read, and the numbers that `which` writes
  pub output : OutputsAgree (in_book c b).reply (perform c cat d).output (in_book c b).output
  pub catalogue_kept : (Alters c (perform c cat d).reply → ⊥) → (perform c cat d).catalogue ≡ cat
  pub disk_kept : (Alters c (perform c cat d).reply → ⊥) → (perform c cat d).disk ≡ d
  pub book_kept : (Alters c (perform c cat d).reply → ⊥) → (in_book c b).book ≡ b
  -- a removal, and a replacement, answers the number of block copies made at the removal's steps, within the carries
  -- of f + n, n being that of the file that goes
  pub copies : (i k : ℕ) (l : Layout) (f : File) → Strikes i c → (perform c cat d).reply ≡ answered k
      → CatalogueOf cat l
      → find_file i l.files ≡ found f → k ≡ length (copies_of (removal height_count f l))
  pub limit : (i k : ℕ) (x : Line) → Strikes i c → (perform c cat d).reply ≡ answered k
      → line_with i b.lines ≡ line x
      → k ≤ carries height_count (book_free b) (length x.pages)
  -- breaks answers the breaks of the file's pieces in the catalogue
  pub breaks_answer : (i k : ℕ) (l : Layout) (f : File) → c ≡ breaks i → (perform c cat d).reply ≡ answered k
      → CatalogueOf cat l
      → find_file i l.files ≡ found f → k ≡ breaks_of f.pieces
  -- and these are at most the ones of n less one
  pub breaks_limit : (i k : ℕ) (x : Line) → c ≡ breaks i → (perform c cat d).reply ≡ answered k
      → line_with i b.lines ≡ line x → k ≤ ones (length x.pages) - 1
  -- the k ids that `which` writes stand by the copies of the removals of their files, equal counts by lower id, and
  -- zeros behind them
  pub which_order : (n k : ℕ) (o : List ℕ) (l : Layout) → c ≡ which n o → (perform c cat d).reply ≡ answered k
      → CatalogueOf cat l → InCopyOrder height_count l (take k (perform c cat d).output)
  pub which_zeros : (n k : ℕ) (o : List ℕ) → c ≡ which n o → (perform c cat d).reply ≡ answered k
      → drop k (perform c cat d).output ≡ replicate (most_files - k) 0

-- ---- after the list

-- the line of a file: its id, and the contents of its pieces' blocks in page order
abbrev pub line_on : List ℕ → File → Line
line_on d f = record { id = f.id; pages = pages_on d f.pieces }

pub record Afterwards (v : Version) (cat d : List ℕ) (b : Book) : Type 0 where
  pub layout : Layout
  -- the catalogue is as many bytes as the version has, and sound
  pub catalogue_length : length cat ≡ v.bytes
  pub catalogue_bytes : Each (λ x. x < byte_values) cat
  pub catalogue : CatalogueOf cat layout
  pub version : catalogue.version ≡ v
  pub blocks : layout.blocks ≡ b.blocks
  pub disk_length : length d ≡ block_size * b.blocks
  -- its ids are those of the lines, and the blocks of a file's pieces hold the line's pages in page order
  pub lines : map (line_on d) layout.files ≡ b.lines
  -- each n is the count of the line's pages
  pub blocks_of_files : map file_blocks layout.files ≡ map (λ (x : Line). length x.pages) b.lines
  -- the pieces of a file are the ones of n, those that are free the ones of f
  pub file_pieces : Each (λ (f : File). OnePiecePerOne (file_blocks f) f.pieces) layout.files
  pub free_pieces : OnePiecePerOne (book_free b) layout.free
  -- no division of a file's n blocks into pieces whose lengths are powers of two has fewer pieces than the file, and no
  -- division of the f free blocks has fewer than are free
  pub file_fewest : Each (λ (f : File). Fewest 2 (file_blocks f) (lengths_of f.pieces)) layout.files
  pub free_fewest : Fewest 2 (book_free b) (lengths_of layout.free)
  -- every block of the disk is in exactly one piece
  pub cover : (x : ℕ) → x < b.blocks → sum_of (holds_block x) (all_pieces layout) ≡ 1

-- every call of the list agrees, each on what the one before it left, and afterwards all is as claimed
abbrev pub Follows : Version → List ListedCall → List ℕ → List ℕ → Book → Type 0
Follows v [] cat d b = Afterwards v cat d b
Follows v (c ∷ cs) cat d b =
    CallAgrees c.call cat d b
    × Follows v cs (perform c.call cat d).catalogue (perform c.call cat d).disk
    (in_book c.call b).book

-- ---- the claim

-- buffers of the right lengths: a catalogue of version v, and a disk of c blocks, as many as the version allows
pub record RightLengths (v : Version) (c : ℕ) (cat d : List ℕ) : Type 0 where
  pub known : OneOf v versions
  pub some : 1 ≤ c
  pub most : c ≤ greatest_blocks v
  pub catalogue : length cat ≡ v.bytes
  pub disk : length d ≡ block_size * c

pub record WholeList : Type 0 where
  -- in every version, from buffers of the right lengths, whatever bytes they have, format answers C and leaves the disk
  pub format_answers : (v : Version) (c : ℕ) (cat d : List ℕ) → RightLengths v c cat d
      → (format_outcome cat d).reply ≡ answered c
  pub format_disk : (v : Version) (c : ℕ) (cat d : List ℕ) → RightLengths v c cat d → (format_outcome cat d).disk ≡ d
  -- and every list of calls from there follows a fresh book
  pub list : (v : Version) (c : ℕ) (cat d : List ℕ) → RightLengths v c cat d → (calls : List ListedCall)
      → Follows v calls (format_outcome cat d).catalogue (format_outcome cat d).disk (fresh_book c)
  -- the limit on copies stands for a removal and a replacement on every sound catalogue
  pub limit : (c : Call) (cat d : List ℕ) (l : Layout) (i k : ℕ) (f : File) → Strikes i c → CatalogueOf cat l
      → find_file i l.files ≡ found f
      → (perform c cat d).reply ≡ answered k → k ≤ carries height_count (free_blocks l) (file_blocks f)
  -- and so does the limit on breaks
  pub breaks_limit : (cat d : List ℕ) (l : Layout) (i k : ℕ) (f : File) → CatalogueOf cat l
      → find_file i l.files ≡ found f → (perform (breaks i) cat d).reply ≡ answered k
      → k ≤ ones (file_blocks f) - 1
  -- on every sound catalogue no division into powers of two has fewer pieces than a file, or than are free
  pub fewest : (cat : List ℕ) (l : Layout) → CatalogueOf cat l → FewestPieces 2 l

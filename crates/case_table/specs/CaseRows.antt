-- What a row of the table of cases is, and how it is written. A pair is first block and length, as in document 01; a
-- block or a page is written as the byte that it is filled with. A block has 512 bytes here by that number, and not by
-- the name that the calls have for it. Definitions only.
use Rattle.std.specs.Prelude.{cond, List, [], ◌++◌, ◌∷◌, ◌*◌, suc, zero, ℕ, eqb, replicate}
use Rattle.layout.specs.Layout.{File, Layout}
use Rattle.layout.specs.Removing.{Copy}
use Rattle.manager.specs.Call.{Call}
use Rattle.manager.specs.Conditions.{Reply, answered, refused}
use Rattle.section.specs.Sections.{section}
use Rattle.section.specs.declared.Section.{Section}

-- ---- buffers

-- n blocks: the first is filled with the byte x, the next with x + 1, and so on
abbrev pub filled_blocks : ℕ → ℕ → List ℕ
filled_blocks x zero = []
filled_blocks x (suc n) = replicate 512 x ++ filled_blocks (suc x) n

-- a block for each byte, filled with it
abbrev pub blocks_of_bytes : List ℕ → List ℕ
blocks_of_bytes [] = []
blocks_of_bytes (x ∷ l) = replicate 512 x ++ blocks_of_bytes l

-- the content of n pages for an id: page j is filled with the byte 16 id + j, so every page of a row differs from
-- every other
abbrev pub content_of : ℕ → ℕ → List ℕ
content_of i n = filled_blocks (i * 16) n

-- a new content of n + 1 pages: the first is filled with the byte x, its quality letter, the others with 161 and so on
abbrev pub reviewed : ℕ → ℕ → List ℕ
reviewed x n = replicate 512 x ++ filled_blocks 161 n

-- n bytes that nobody wrote to yet
abbrev pub unwritten : ℕ → List ℕ
unwritten n = replicate n 255

-- n blocks that nobody wrote to yet: a disk before format, or an output before a read
abbrev pub untouched : ℕ → List ℕ
untouched n = unwritten (512 * n)

-- a list of n two-byte numbers that nobody wrote to yet
abbrev pub other_numbers : ℕ → List ℕ
other_numbers n = replicate n 65535

-- ---- rows

-- a call's reply, and its whole output
pub record Seen : Type 0 where
  pub reply : Reply
  pub output : List ℕ

-- a file: what breaks replies, the blocks of its pieces in page order, and its pages, one byte for each
pub record FileSeen : Type 0 where
  pub id : ℕ
  pub breaks_replied : Reply
  pub blocks : List ℕ
  pub pages : List ℕ

-- C blocks to be formatted, or the catalogue of a given layout
pub data Start : Type 0 where
  fresh_disk : ℕ → Start
  given_layout : Layout → Start

-- where a row starts, its calls, and what is expected: each call's reply, format's first, and the rest as in
-- `Shown`
pub record Row : Type 0 where
  pub start : Start
  pub calls : List Call
  pub replies : List Seen
  pub copies : List Copy
  pub layout : Layout
  pub files : List FileSeen
  pub disk : List ℕ

-- ---- how rows are written

-- the height of a length: those that the cases have
abbrev pub height_of_length : ℕ → ℕ
height_of_length n =
    cond (eqb n 1) 0
    (cond (eqb n 2) 1 (cond (eqb n 4) 2 (cond (eqb n 8) 3 (cond (eqb n 16) 4 (cond (eqb n 256) 8 99)))))

-- a pair, as in the document: first block and length
abbrev pub pair_at : ℕ → ℕ → Section
pair_at x n = section x (height_of_length n)

-- a file: its id and its pairs in page order
abbrev pub file_with : ℕ → List Section → File
file_with i l = record { id = i; pieces = l }

-- C, the files and the free pairs
abbrev pub laid_out : ℕ → List File → List Section → Layout
laid_out c fs ps = record { blocks = c; files = fs; free = ps }

-- a call that answers and has no output
abbrev pub answer : ℕ → Seen
answer n = record { reply = answered n; output = [] }

-- a read that answers the count of pages, with the byte of each
abbrev pub pages_read : ℕ → List ℕ → Seen
pages_read n ps = record { reply = answered n; output = blocks_of_bytes ps }

-- a call that is refused and has no output
abbrev pub refuse : ℕ → Seen
refuse n = record { reply = refused n; output = [] }

-- a read that is refused, and its output of so many bytes as it was
abbrev pub read_refused : ℕ → ℕ → Seen
read_refused n bytes = record { reply = refused n; output = unwritten bytes }

-- a block copied to another
abbrev pub copied : ℕ → ℕ → Copy
copied x y = record { source = x; target = y }

-- a file's id, its breaks, its blocks in page order and the bytes of its pages
abbrev pub file_seen : ℕ → ℕ → List ℕ → List ℕ → FileSeen
file_seen i n bs ps = record { id = i; breaks_replied = answered n; blocks = bs; pages = ps }

-- n blocks with the bytes that they had before format
abbrev pub as_before : ℕ → List ℕ
as_before n = replicate n 255

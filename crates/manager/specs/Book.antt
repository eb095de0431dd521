-- The plain book of document 01, with W1's replacement and W4's `which`. It sees C and the arguments of the calls, and
-- never a catalogue, a block or an answer: what it shares with the manager is lists, numbers and the calls' arguments.
-- Definitions only.
use Rattle.std.specs.Prelude.{Bool, ◌&&◌, cond, false, not, true, List, [], ◌++◌, ◌∷◌, map, ◌*◌, ◌+◌, ◌-◌, ◌/◌, suc}
use Rattle.std.specs.Prelude.{zero, ℕ, eqb, leb, ltb, drop, length, replicate, take}
use Rattle.manager.specs.BookLetters.{book_rank}
use Rattle.manager.specs.Call.{Call, add, breaks, check, free, read, remove, replace, which}

-- a line: an id and its pages in order
pub record Line : Type 0 where
  pub id : ℕ
  pub pages : List (List ℕ)

-- C, and the lines by rising id
pub record Book : Type 0 where
  pub blocks : ℕ
  pub lines : List Line

abbrev pub fresh_book : ℕ → Book
fresh_book c = record { blocks = c; lines = [] }

-- ---- its own limits and its own division of a content into pages

abbrev pub page_bytes : ℕ
page_bytes = 512

abbrev pub most_lines : ℕ
most_lines = 64

-- x, x + 1, .. n numbers
unfoldable pub count_from : ℕ → ℕ → List ℕ
count_from x zero = []
count_from x (suc n) = x ∷ count_from (suc x) n

abbrev pub book_pages : List ℕ → ℕ
book_pages bs = length bs / page_bytes

-- page i is the 512 bytes from 512 i on
unfoldable pub content_pages : List ℕ → List (List ℕ)
content_pages bs = map (λ i. take page_bytes (drop (page_bytes * i) bs)) (count_from 0 (book_pages bs))

-- whole pages, at least one
abbrev pub is_whole : List ℕ → Bool
is_whole bs = leb 1 (book_pages bs) && eqb (page_bytes * book_pages bs) (length bs)

-- the bytes of pages, one after another
unfoldable pub bytes_of : List (List ℕ) → List ℕ
bytes_of [] = []
bytes_of (p ∷ l) = p ++ bytes_of l

-- ---- its lines

-- f: C less the pages in all lines
unfoldable pub pages_in_lines : List Line → ℕ
pages_in_lines [] = 0
pages_in_lines (x ∷ l) = length x.pages + pages_in_lines l

abbrev pub book_free : Book → ℕ
book_free b = b.blocks - pages_in_lines b.lines

pub data LineFound : Type 0 where
  line : Line → LineFound
  no_line : LineFound

unfoldable pub line_with : ℕ → List Line → LineFound
line_with i [] = no_line
line_with i (x ∷ l) = elim (eqb x.id i) as (λ _. LineFound) [ true ↦ line x | false ↦ line_with i l ]

-- a line written among those of lower and higher ids
unfoldable pub write_line : Line → List Line → List Line
write_line x [] = x ∷ []
write_line x (y ∷ l) =
    elim (leb x.id y.id) as (λ _. List Line) [ true ↦ x ∷ y ∷ l | false ↦ y ∷ write_line x l ]

unfoldable pub strike_line : ℕ → List Line → List Line
strike_line i [] = []
strike_line i (x ∷ l) = elim (eqb x.id i) as (λ _. List Line) [ true ↦ l | false ↦ x ∷ strike_line i l ]

-- ---- its replies

-- a refusal, an answer, an answer whose number is not the book's, an answer with an output whose order is not the
-- book's, or "fits already"
pub data BookReply : Type 0 where
  refuses : ℕ → BookReply
  answers : ℕ → BookReply
  any_number : BookReply
  in_any_order : ℕ → BookReply
  fits : BookReply

pub record BookStep : Type 0 where
  pub reply : BookReply
  pub book : Book
  pub output : List ℕ

-- a refusal leaves the book and the output as they are
abbrev pub book_refuses : ℕ → Book → List ℕ → BookStep
book_refuses n b o = record { reply = refuses n; book = b; output = o }

abbrev pub book_answers : ℕ → Book → List ℕ → BookStep
book_answers n b o = record { reply = answers n; book = b; output = o }

abbrev pub noted : LineFound → Bool
noted (line x) = true
noted no_line = false

abbrev pub book_add : ℕ → List ℕ → Book → BookStep
book_add i bs b =
    cond (eqb i 0) (book_refuses 5 b [])
    (cond (noted (line_with i b.lines)) (book_refuses 7 b [])
    (cond (not (is_whole bs)) (book_refuses 8 b [])
    (cond (leb most_lines (length b.lines)) (book_refuses 10 b [])
    (cond (ltb (book_free b) (book_pages bs)) (book_refuses 11 b [])
    (book_answers (book_pages bs) (record {
      blocks = b.blocks;
      lines = write_line (record { id = i; pages = content_pages bs }) b.lines;
    }) [])))))

abbrev pub book_remove : ℕ → Book → BookStep
book_remove i b =
    cond (eqb i 0) (book_refuses 5 b [])
    (cond (not (noted (line_with i b.lines))) (book_refuses 6 b [])
    (record {
      reply = any_number;
      book = record { blocks = b.blocks; lines = strike_line i b.lines };
      output = [];
    }))

-- the replacement of a line that is there: it is struck, and the new one is written
abbrev pub book_replace_line : ℕ → List ℕ → Book → LineFound → BookStep
book_replace_line i bs b no_line = book_refuses 6 b []
book_replace_line i bs b (line x) =
    cond (not (is_whole bs)) (book_refuses 8 b [])
    (cond (eqb (book_rank (content_pages bs)) 0) (book_refuses 12 b [])
    (cond (leb (book_rank (content_pages bs)) (book_rank x.pages)) (book_refuses 13 b [])
    (cond (ltb (book_free b + length x.pages) (book_pages bs)) (book_refuses 11 b [])
    (record {
      reply = any_number;
      book = record {
        blocks = b.blocks;
        lines = write_line (record { id = i; pages = content_pages bs }) (strike_line i b.lines);
      };
      output = [];
    }))))

abbrev pub book_replace : ℕ → List ℕ → Book → BookStep
book_replace i bs b = cond (eqb i 0) (book_refuses 5 b []) (book_replace_line i bs b (line_with i b.lines))

-- the read of a line that is there
abbrev pub book_read_line : ℕ → List ℕ → Book → LineFound → BookStep
book_read_line p o b no_line = book_refuses 6 b o
book_read_line p o b (line x) =
    cond (not (is_whole o)) (book_refuses 8 b o)
    (cond (ltb (length x.pages) (p + book_pages o)) (book_refuses 9 b o)
    (book_answers (book_pages o) b (bytes_of (take (book_pages o) (drop p x.pages)))))

abbrev pub book_read : ℕ → ℕ → List ℕ → Book → BookStep
book_read i p o b = cond (eqb i 0) (book_refuses 5 b o) (book_read_line p o b (line_with i b.lines))

abbrev pub book_breaks : ℕ → Book → BookStep
book_breaks i b =
    cond (eqb i 0) (book_refuses 5 b [])
    (cond (not (noted (line_with i b.lines))) (book_refuses 6 b [])
    (record { reply = any_number; book = b; output = [] }))

-- the ids of the lines whose pages and f are at least n
unfoldable pub ids_with_room : ℕ → ℕ → List Line → List ℕ
ids_with_room n f [] = []
ids_with_room n f (x ∷ l) =
    elim (leb n (f + length x.pages)) as (λ _. List ℕ)
    [ true ↦ x.id ∷ ids_with_room n f l | false ↦ ids_with_room n f l ]

-- numbers, and zeros behind them: 64 in all
abbrev pub filled_up : List ℕ → List ℕ
filled_up l = l ++ replicate (most_lines - length l) 0

abbrev pub book_which : ℕ → List ℕ → Book → BookStep
book_which n o b =
    cond (eqb n 0) (book_refuses 8 b o)
    (cond (not (eqb (length o) most_lines)) (book_refuses 14 b o)
    (cond (leb n (book_free b)) (record { reply = fits; book = b; output = filled_up [] })
    (record {
      reply = in_any_order (length (ids_with_room n (book_free b) b.lines));
      book = b;
      output = filled_up (ids_with_room n (book_free b) b.lines);
    })))

-- the book at a call
abbrev pub in_book : Call → Book → BookStep
in_book (add i bs) b = book_add i bs b
in_book (remove i) b = book_remove i b
in_book (replace i bs) b = book_replace i bs b
in_book (read i p o) b = book_read i p o b
in_book (breaks i) b = book_breaks i b
in_book (which n o) b = book_which n o b
in_book free b = book_answers (book_free b) b []
in_book check b = book_answers b.blocks b []

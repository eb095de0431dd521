-- Lists of calls made by the manager and by the plain book side by side, from a format and a fresh book: the replies
-- of both, and the whole output of both; and a book of 64 lines. Definitions only.
use Rattle.std.specs.Prelude.{List, [], ◌∷◌, suc, zero, ℕ, replicate}
use Rattle.case_table.specs.CaseRows.{content_of, reviewed, untouched}
use Rattle.case_table.specs.CaseRun.{performed}
use Rattle.manager.specs.Book.{Book, BookReply, BookStep, Line, fresh_book, in_book}
use Rattle.manager.specs.Call.{Call, add, breaks, check, free, read, remove, replace}
use Rattle.manager.specs.Conditions.{Outcome, Reply}
use Rattle.manager.specs.Outcomes.{format_outcome}

-- what manager and book do at a call
pub record Both : Type 0 where
  pub manager : Reply
  pub book : BookReply
  pub managers_output : List ℕ
  pub books_output : List ℕ

-- a call by the manager beside the same call in the book
abbrev pub both_of : Outcome → BookStep → Both
both_of x y = record { manager = x.reply; book = y.reply; managers_output = x.output; books_output = y.output }

-- the calls one by one, each on what the one before it left
abbrev pub beside_book : List Call → List ℕ → List ℕ → Book → List Both
beside_book [] cat d b = []
beside_book (c ∷ l) cat d b =
    let x : Outcome = performed c cat d in
    let y : BookStep = in_book c b in
    both_of x y ∷ beside_book l x.catalogue x.disk y.book

-- from the catalogue of so many bytes and the disk of c blocks that format leaves, and a fresh book
abbrev pub from_format_in : ℕ → ℕ → List Call → List Both
from_format_in bytes c calls =
    let x : Outcome = format_outcome (replicate bytes 255) (untouched c) in
    beside_book calls x.catalogue x.disk (fresh_book c)

-- with the small catalogue
abbrev pub from_format : ℕ → List Call → List Both
from_format c calls = from_format_in 4096 c calls

-- the calls
abbrev pub ten_calls : List Call
ten_calls =
    add 5 (content_of 5 1)
    ∷ add 9 (content_of 9 3)
    ∷ add 2 (content_of 2 1)
    ∷ breaks 9
    ∷ remove 5
    ∷ read 9 1 (untouched 2)
    ∷ read 2 1 (untouched 1)
    ∷ add 7 (content_of 7 13)
    ∷ free
    ∷ check
    ∷ []

-- those with replacements of id 5: the first page gets D, and then Q; f is 10 and its n 2 before that
abbrev pub replacement_calls : List Call
replacement_calls =
    add 5 (content_of 5 1)
    ∷ add 9 (content_of 9 3)
    ∷ add 2 (content_of 2 1)
    ∷ replace 0 []
    ∷ replace 3 []
    ∷ replace 5 []
    ∷ replace 5 (reviewed 68 1)
    ∷ read 5 0 (untouched 2)
    ∷ replace 5 (reviewed 90 12)
    ∷ replace 5 (reviewed 82 12)
    ∷ replace 5 (reviewed 68 0)
    ∷ replace 5 (reviewed 81 12)
    ∷ free
    ∷ replace 5 (reviewed 81 11)
    ∷ free
    ∷ read 5 7 (untouched 2)
    ∷ read 9 0 (untouched 3)
    ∷ remove 5
    ∷ check
    ∷ []

-- replies of the manager and of the book, and the output of both
abbrev pub both_reply : Reply → BookReply → List ℕ → Both
both_reply r s o = record { manager = r; book = s; managers_output = o; books_output = o }

-- ---- a book of 64 lines

-- n lines of one page each, from id i + 1 on; the page of id i + 1 is filled with the byte i
abbrev pub lines_from : ℕ → ℕ → List Line
lines_from i zero = []
lines_from i (suc n) = (record { id = suc i; pages = replicate 512 i ∷ [] }) ∷ lines_from (suc i) n

-- 66 blocks and these lines
abbrev pub book_with_lines : List Line → Book
book_with_lines l = record { blocks = 66; lines = l }

-- Replacements of a file of one block on a disk of one block, by the letters of the stored and the new first page:
-- document 02, W1. R, D, Q and M are the bytes 82, 68, 81 and 77; 90 is another. Written out by hand; how a row is
-- computed by the manager and by the book. Definitions only.
use Rattle.std.specs.Prelude.{List, [], ◌++◌, ◌∷◌, ℕ, replicate}
use Rattle.case_table.specs.CaseRun.{performed}
use Rattle.case_table.specs.RefusalTable.{filled_up}
use Rattle.manager.specs.Book.{Book, BookReply, BookStep, any_number, fits, in_book, refuses}
use Rattle.manager.specs.Call.{replace}
use Rattle.manager.specs.Conditions.{Outcome, Reply, answered, fits_already, outcome, refused}

-- the stored block, the new one, and the reply
pub record RankRow : Type 0 where
  pub stored : List ℕ
  pub new : List ℕ
  pub reply : Reply

-- ---- each letter over each

-- a block filled with y in place of one filled with x
abbrev over : ℕ → ℕ → Reply → RankRow
over x y r = record { stored = replicate 512 x; new = replicate 512 y; reply = r }

abbrev rank_rows : List RankRow
rank_rows =
    -- R, the lowest of the four, over R, D, Q, M and another
    over 82 82 (refused 13)
    ∷ over 68 82 (refused 13)
    ∷ over 81 82 (refused 13)
    ∷ over 77 82 (refused 13)
    ∷ over 90 82 (answered 0)
    -- D
    ∷ over 82 68 (answered 0)
    ∷ over 68 68 (refused 13)
    ∷ over 81 68 (refused 13)
    ∷ over 77 68 (refused 13)
    ∷ over 90 68 (answered 0)
    -- Q
    ∷ over 82 81 (answered 0)
    ∷ over 68 81 (answered 0)
    ∷ over 81 81 (refused 13)
    ∷ over 77 81 (refused 13)
    ∷ over 90 81 (answered 0)
    -- M, the highest
    ∷ over 82 77 (answered 0)
    ∷ over 68 77 (answered 0)
    ∷ over 81 77 (answered 0)
    ∷ over 77 77 (refused 13)
    ∷ over 90 77 (answered 0)
    -- another
    ∷ over 82 90 (refused 12)
    ∷ over 68 90 (refused 12)
    ∷ over 81 90 (refused 12)
    ∷ over 77 90 (refused 12)
    ∷ over 90 90 (refused 12)
    ∷ []

-- ---- the letter is byte 6

-- a block whose byte 6 is y, and all others x
abbrev among : ℕ → ℕ → List ℕ
among x y = replicate 6 x ++ (y ∷ replicate 505 x)

abbrev pub place_rows : List RankRow
place_rows =
    -- Q among R takes the place of D among M
    record { stored = among 77 68; new = among 82 81; reply = answered 0 }
    -- Q among M does not take the place of Q among others
    ∷ record { stored = among 90 81; new = among 77 81; reply = refused 13 }
    -- another among M is none of the four
    ∷ record { stored = among 90 82; new = among 77 90; reply = refused 12 }
    ∷ []

-- both
abbrev pub all_ranks : List RankRow
all_ranks = rank_rows ++ place_rows

-- ---- a row by the manager

-- the small and the large catalogue of one block, which id 1 has
abbrev pub small_one : List ℕ
small_one = filled_up 4096 (0 ∷ 1 ∷ 0 ∷ 1 ∷ 0 ∷ 1 ∷ 0 ∷ 1 ∷ 0 ∷ 1 ∷ 0 ∷ 0 ∷ 0 ∷ 1 ∷ [])

abbrev pub large_one : List ℕ
large_one =
    filled_up 16384
    (0 ∷ 2 ∷ 0 ∷ 0 ∷ 0 ∷ 1 ∷ 0 ∷ 1 ∷ 0 ∷ 1 ∷ 0 ∷ 0 ∷ 0 ∷ 1 ∷ 0 ∷ 0 ∷ 0 ∷ 0 ∷ 0 ∷ 0 ∷ 0 ∷ 1 ∷ [])

abbrev pub replaced : List ℕ → RankRow → Outcome
replaced cat r = performed (replace 1 r.new) cat r.stored

-- the block after the reply
abbrev block_after : RankRow → Reply → List ℕ
block_after r (answered n) = r.new
block_after r (refused n) = r.stored
block_after r fits_already = r.stored

-- what is expected: the same catalogue, and the new block if the replacement is answered
abbrev pub replaced_with : List ℕ → RankRow → Outcome
replaced_with cat r = outcome r.reply cat (block_after r r.reply) []

-- ---- a row by the book

-- one block, and a line of id 1 with this page
abbrev book_of_one : List ℕ → Book
book_of_one p = record { blocks = 1; lines = (record { id = 1; pages = p ∷ [] }) ∷ [] }

abbrev pub replaced_in_book : RankRow → BookStep
replaced_in_book r = in_book (replace 1 r.new) (book_of_one r.stored)

-- the book has the refusals, and no number for an answer
abbrev reply_in_book : Reply → BookReply
reply_in_book (answered n) = any_number
reply_in_book (refused n) = refuses n
reply_in_book fits_already = fits

abbrev pub book_with : RankRow → BookStep
book_with r = record { reply = reply_in_book r.reply; book = book_of_one (block_after r r.reply); output = [] }

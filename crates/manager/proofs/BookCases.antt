-- Replacements and `which` in the plain book, computed from literal bytes and numbers: each refusal in its order, the
-- lines afterwards, and the lists of ids. The bytes 82, 68, 81 and 77 are R, D, Q and M; 90 is another letter. Assumes
-- nothing.
use mathlib.Core.List.{List, [], ◌++◌, ◌∷◌, map}
use mathlib.Core.Path.{◌≡◌, refl}
use Prim.Native.Nat.{ℕ}
use lib.ListN.{replicate}
use Rattle.manager.specs.Book.{Book, BookReply, BookStep, Line, any_number, book_replace, book_which, content_pages}
use Rattle.manager.specs.Book.{count_from, fits, ids_with_room, in_any_order, line_with, pages_in_lines, refuses}
use Rattle.manager.specs.Book.{strike_line, write_line}
use Rattle.manager.specs.BookLetters.{book_rank, counted_from, letter_on}

-- a page whose byte 6 is y, and all others x
abbrev page : ℕ → ℕ → List ℕ
page x y = replicate 6 x ++ (y ∷ replicate 505 x)

abbrev line_of : ℕ → List (List ℕ) → Line
line_of i ps = record { id = i; pages = ps }

-- five blocks, of which two are free: id 1 with a page, id 2 with two, whose first has the letter D
abbrev five_blocks : List Line → Book
five_blocks ls = record { blocks = 5; lines = ls }

abbrev noted : Book
noted = five_blocks (line_of 1 (page 77 77 ∷ []) ∷ line_of 2 (page 77 68 ∷ page 77 77 ∷ []) ∷ [])

-- id 0; an id without a line; no whole pages; a letter outside the four, also if it is too long; R and D, also if they
-- are too long; and Q that is too long, and just fits
pub book_replacements_judged :
    map (λ (s : BookStep). s.reply)
    (book_replace 0 [] noted ∷ book_replace 3 [] noted ∷ book_replace 2 (replicate 513 81) noted
    ∷ book_replace 2 (page 81 90) noted
    ∷ book_replace 2 (replicate 2560 90) noted ∷ book_replace 2 (page 77 82) noted ∷ book_replace 2 (page 77 68) noted
    ∷ book_replace 2 (replicate 2560 82) noted ∷ book_replace 2 (replicate 2560 81) noted
    ∷ book_replace 2 (replicate 2048 81) noted ∷ [])
    ≡ refuses 5 ∷ refuses 6 ∷ refuses 8 ∷ refuses 12 ∷ refuses 12 ∷ refuses 13 ∷ refuses 13 ∷ refuses 13 ∷ refuses 11
    ∷ any_number ∷ []
unfolding content_pages count_from pages_in_lines line_with write_line strike_line counted_from letter_on book_rank
book_replacements_judged = refl

-- the old line is struck and the new one stands in its place; the other is as it was
pub book_line_replaced :
    (book_replace 2 (page 82 81 ++ (page 1 2 ++ page 3 4)) noted).book
    ≡ five_blocks (line_of 1 (page 77 77 ∷ []) ∷ line_of 2 (page 82 81 ∷ page 1 2 ∷ page 3 4 ∷ []) ∷ [])
unfolding content_pages count_from pages_in_lines line_with write_line strike_line counted_from letter_on book_rank
book_line_replaced = refl

-- ---- which removal lets n blocks in

-- case 6 of document 01: 16 blocks, of which ten are free; ids 2, 5 and 9 with 2, 3 and 1 pages
abbrev case_six : Book
case_six = record {
  blocks = 16;
  lines =
      line_of 2 (replicate 2 (page 1 1)) ∷ line_of 5 (replicate 3 (page 2 2)) ∷ line_of 9 (page 3 3 ∷ []) ∷ [];
}

-- a list of 64 places, with 7 in each
abbrev places : List ℕ
places = replicate 64 7

abbrev gives : BookReply → List ℕ → Book → BookStep
gives r o b = record { reply = r; book = b; output = o }

-- no blocks, also with a list of another length; lists of 63 and 65 places and of none; these keep their numbers
pub book_which_refused :
    book_which 0 places case_six ∷ book_which 0 (replicate 63 7) case_six ∷ book_which 11 (replicate 63 7) case_six
    ∷ book_which 10 (replicate 65 7) case_six ∷ book_which 14 [] case_six ∷ []
    ≡ gives (refuses 8) places case_six ∷ gives (refuses 8) (replicate 63 7) case_six
    ∷ gives (refuses 14) (replicate 63 7) case_six ∷ gives (refuses 14) (replicate 65 7) case_six
    ∷ gives (refuses 14) [] case_six ∷ []
unfolding pages_in_lines ids_with_room
book_which_refused = refl

-- one block and ten fit already; eleven fit after any of the three removals, twelve after two, thirteen after one and
-- fourteen after none, which is no "fits already"
pub book_which_listed :
    book_which 1 places case_six ∷ book_which 10 places case_six ∷ book_which 11 places case_six
    ∷ book_which 12 places case_six ∷ book_which 13 places case_six ∷ book_which 14 places case_six ∷ []
    ≡ gives fits (replicate 64 0) case_six ∷ gives fits (replicate 64 0) case_six
    ∷ gives (in_any_order 3) (2 ∷ 5 ∷ 9 ∷ replicate 61 0) case_six
    ∷ gives (in_any_order 2) (2 ∷ 5 ∷ replicate 62 0) case_six ∷ gives (in_any_order 1) (5 ∷ replicate 63 0) case_six
    ∷ gives (in_any_order 0) (replicate 64 0) case_six ∷ []
unfolding pages_in_lines ids_with_room
book_which_listed = refl

-- 64 lines of a page, and one block that is free
abbrev full_book : Book
full_book = record { blocks = 65; lines = map (λ i. line_of i (page 1 1 ∷ [])) (count_from 1 64) }

-- one block fits already; two fit after any of the 64 removals, and no zero is left
pub book_which-full :
    book_which 1 places full_book ∷ book_which 2 places full_book ∷ book_which 3 places full_book ∷ []
    ≡ gives fits (replicate 64 0) full_book ∷ gives (in_any_order 64) (count_from 1 64) full_book
    ∷ gives (in_any_order 0) (replicate 64 0) full_book ∷ []
unfolding pages_in_lines ids_with_room count_from
book_which-full = refl

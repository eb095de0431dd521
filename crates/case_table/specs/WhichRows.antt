-- Which removal would let n blocks in: document 02, W4, written out by hand. Calls on two disks of 16 blocks beside
-- the book; the removals by whose copies the ids are sorted; and calls on the bytes of given catalogues, with the
-- whole outcome of each. Definitions only.
use Rattle.std.specs.Prelude.{List, [], ◌++◌, ◌∷◌, map, ◌-◌, suc, zero, ℕ, drop, length, replicate}
use Rattle.case_table.specs.BesideBook.{Both, both_reply, from_format_in}
use Rattle.case_table.specs.CaseParts.{up_to_six}
use Rattle.case_table.specs.CaseRows.{content_of, other_numbers, untouched}
use Rattle.case_table.specs.CaseRun.{performed}
use Rattle.manager.specs.Book.{Book, BookReply, BookStep, answers, any_number, fits, in_any_order, in_book, refuses}
use Rattle.manager.specs.Call.{Call, add, remove, which}
use Rattle.manager.specs.Conditions.{Outcome, Reply, answered, fits_already, outcome, refused}

-- numbers, then zeros: 64 in all
abbrev with_zeros : List ℕ → List ℕ
with_zeros l = l ++ replicate (64 - length l) 0

-- ---- beside the book

-- n blocks, and a list of 64 other numbers
abbrev asked : ℕ → Call
asked n = which n (other_numbers 64)

-- so many ids, by the copies of their removals, and by rising id
abbrev helped : ℕ → List ℕ → List ℕ → Both
helped n ids rising =
    record {
      manager = answered n;
      book = in_any_order n;
      managers_output = with_zeros ids;
      books_output = with_zeros rising;
    }

abbrev fit : Both
fit = both_reply fits_already fits (with_zeros [])

abbrev added : ℕ → Both
added n = both_reply (answered n) (answers n) []

-- case 6: id 2 has 2 blocks, id 5 has 3, id 9 has 1, and 10 are free
abbrev pub six_asked : List Call
six_asked = up_to_six ++ map asked (10 ∷ 11 ∷ 12 ∷ 13 ∷ 14 ∷ [])

abbrev pub six_shown : List Both
six_shown =
    added 3
    ∷ added 1
    ∷ added 2
    ∷ fit
    ∷ helped 3 (2 ∷ 9 ∷ 5 ∷ []) (2 ∷ 5 ∷ 9 ∷ [])
    ∷ helped 2 (2 ∷ 5 ∷ []) (2 ∷ 5 ∷ [])
    ∷ helped 1 (5 ∷ []) (5 ∷ [])
    ∷ helped 0 [] []
    ∷ []

-- ids 1 to 4 of 3 blocks each, and then id 6 of 2: 2 are free
abbrev five_adds : List Call
five_adds = map (λ i. add i (content_of i 3)) (1 ∷ 2 ∷ 3 ∷ 4 ∷ []) ++ add 6 (content_of 6 2) ∷ []

abbrev pub five_asked : List Call
five_asked = five_adds ++ map asked (2 ∷ 3 ∷ 5 ∷ 6 ∷ 17 ∷ 18446744073709551615 ∷ [])

abbrev pub five_shown : List Both
five_shown =
    map added (3 ∷ 3 ∷ 3 ∷ 3 ∷ 2 ∷ [])
    ++ fit
    ∷ helped 5 (6 ∷ 1 ∷ 4 ∷ 2 ∷ 3 ∷ []) (1 ∷ 2 ∷ 3 ∷ 4 ∷ 6 ∷ [])
    ∷ helped 4 (1 ∷ 4 ∷ 2 ∷ 3 ∷ []) (1 ∷ 2 ∷ 3 ∷ 4 ∷ [])
    ∷ helped 0 [] []
    ∷ helped 0 [] []
    ∷ helped 0 [] []
    ∷ []

-- ---- the removals that were named

-- with a catalogue of so many bytes: each of the five files removed by itself, in the order that 3 blocks give, and
-- then as many blocks added as that lets in, and one more
abbrev removed_alone : ℕ → ℕ → ℕ → List Both
removed_alone bytes i n =
    drop 5 (from_format_in bytes 16 (five_adds ++ remove i ∷ add 9 (content_of 9 (suc n)) ∷ add 9 (content_of 9 n) ∷ []))

abbrev pub five_removed : ℕ → List (List Both)
five_removed bytes = removed_alone bytes 6 4 ∷ map (λ i. removed_alone bytes i 5) (1 ∷ 4 ∷ 2 ∷ 3 ∷ [])

-- so many copies, and then so many blocks let in
abbrev removed : ℕ → ℕ → List Both
removed copies n = both_reply (answered copies) any_number [] ∷ both_reply (refused 11) (refuses 11) [] ∷ added n ∷ []

abbrev pub five_copies : List (List Both)
five_copies = removed 0 4 ∷ removed 1 5 ∷ removed 1 5 ∷ removed 2 5 ∷ removed 2 5 ∷ []

-- ---- on the bytes of a catalogue

-- n and the list that is lent, and what is expected: the reply, and the ids before the zeros
pub record WhichRow : Type 0 where
  pub blocks : ℕ
  pub lent : List ℕ
  pub reply : Reply
  pub ids : List ℕ

-- a row with any disk, computed
abbrev pub outcome_on : List ℕ → List ℕ → WhichRow → Outcome
outcome_on cat d r = performed (which r.blocks r.lent) cat d

-- catalogue and disk are expected as they were
abbrev pub expected_on : List ℕ → List ℕ → WhichRow → Outcome
expected_on cat d r = outcome r.reply cat d (with_zeros r.ids)

-- the book, which has the same lines; its ids rise, as those of the rows do that are shown beside it
abbrev pub step_in : Book → WhichRow → BookStep
step_in b r = in_book (which r.blocks r.lent) b

abbrev reply_in_book : Reply → BookReply
reply_in_book (answered n) = in_any_order n
reply_in_book (refused n) = refuses n
reply_in_book fits_already = fits

abbrev pub expected_in : Book → WhichRow → BookStep
expected_in b r = record { reply = reply_in_book r.reply; book = b; output = with_zeros r.ids }

abbrev row : ℕ → List ℕ → Reply → List ℕ → WhichRow
row n o r ids = record { blocks = n; lent = o; reply = r; ids = ids }

-- n numbers from i + 1 on
abbrev counted : ℕ → ℕ → List ℕ
counted i zero = []
counted i (suc n) = suc i ∷ counted (suc i) n

-- a call gets no disk: whatever it is, of no block or of 16
abbrev pub disks : List (List ℕ)
disks = [] ∷ untouched 16 ∷ []

-- case 6; the list has zeros, ids of files, or other numbers
abbrev pub six_rows : List WhichRow
six_rows =
    row 1 (counted 0 64) fits_already []
    ∷ row 10 (replicate 64 5) fits_already []
    ∷ row 11 (counted 0 64) (answered 3) (2 ∷ 9 ∷ 5 ∷ [])
    ∷ row 13 (replicate 64 9) (answered 1) (5 ∷ [])
    ∷ row 14 (counted 65471 64) (answered 0) []
    ∷ row 4097 (replicate 64 0) (answered 0) []
    ∷ row 18446744073709551615 (counted 0 64) (answered 0) []
    ∷ []

-- 64 files of one block, and 2 free blocks: no removal copies, and no place is left for a zero
abbrev pub full_rows : List WhichRow
full_rows =
    row 2 (counted 0 64) fits_already []
    ∷ row 3 (replicate 64 0) (answered 64) (counted 0 64)
    ∷ row 4 (counted 0 64) (answered 0) []
    ∷ []

-- The number of a refusal is one of 1 to 14, whatever the bytes, for every call and for the book. Assumes nothing.
use mathlib.Core.Bool.{Bool, ◌&&◌, cond, false, not, true}
use mathlib.Core.List.{List, [], ◌∷◌}
use mathlib.Core.Path.{◌≡◌, refl, subst, sym}
use Prim.Native.Nat.{◌+◌, ◌≤◌, ℕ}
use lib.Dec.{eqb, leb, ltb}
use lib.ListN.{length}
use borrow.Author.Tests.{leb-true}
use Rattle.catalogue.specs.Reading.{Reading, read_catalogue, sound, unsound}
use Rattle.catalogue.specs.Version.{version_of}
use Rattle.layout.specs.Adding.{Allocated, allocate, allocated, too_few}
use Rattle.layout.specs.Layout.{Found, Layout, find_file, found, free_blocks, missing}
use Rattle.manager.proofs.CallsJudged.{conditions_of}
use Rattle.manager.proofs.FirstRefusal.{reply_is, reply_of}
use Rattle.manager.proofs.Judging.{either_side}
use Rattle.manager.specs.Book.{Book, BookReply, BookStep, LineFound, answers, any_number, book_free, book_pages}
use Rattle.manager.specs.Book.{book_read_line, book_replace_line, content_pages, fits, in_any_order, in_book, is_whole}
use Rattle.manager.specs.Book.{line, line_with, most_lines, no_line, noted, refuses}
use Rattle.manager.specs.BookLetters.{book_rank}
use Rattle.manager.specs.Call.{Call, add, breaks, check, free, read, remove, replace, which}
use Rattle.manager.specs.Conditions.{Condition, Outcome, Reply, answered, condition, first_refusal, fits_already}
use Rattle.manager.specs.Conditions.{on_layout, refused, reply_unless}
use Rattle.manager.specs.Disk.{page_count}
use Rattle.manager.specs.Outcomes.{add_pieces, breaks_found, do_remove, perform, read_found, remove_found}
use Rattle.section.proofs.Booleans.{and_true}
use Rattle.section.specs.Limits.{height_count}

abbrev is_number : ℕ → Bool
is_number n = leb 1 n && leb n 14

one_to_fourteen : (n : ℕ) → is_number n ≡ true → (1 ≤ n) × (n ≤ 14)
one_to_fourteen n e =
    let both = and_true (leb 1 n) (leb n 14) e in (leb-true 1 n both.0, leb-true n 14 both.1)

-- a reply whose refusals have such numbers
abbrev Numbered : Reply → Type 0
Numbered (answered n) = Unit {0}
Numbered (refused n) = is_number n ≡ true
Numbered fits_already = Unit {0}

-- ---- a call

abbrev all_numbered : List Condition → Bool
all_numbered [] = true
all_numbered (c ∷ cs) = is_number c.number && all_numbered cs

first_numbered : (cs : List Condition) → all_numbered cs ≡ true → (r : Reply) → Numbered r
    → Numbered (reply_unless (first_refusal cs) r)
unfolding first_refusal
first_numbered [] e r h = h
first_numbered (c ∷ cs) e r h =
    let both = and_true (is_number c.number) (all_numbered cs) e in
    go c.applies both.0 (first_numbered cs both.1 r h)
  where
    go : (b : Bool) → is_number c.number ≡ true → Numbered (reply_unless (first_refusal cs) r)
        → Numbered (reply_unless (first_refusal (condition c.number b ∷ cs)) r)
    go true p q = p
    go false p q = q

-- conditions that come after those of the catalogue
on_layout_lem : (x : Reading) (k : Layout → List Condition) → ((l : Layout) → all_numbered (k l) ≡ true)
    → all_numbered (on_layout x k) ≡ true
on_layout_lem unsound k e = refl
on_layout_lem (sound l) k e = e l

conditions_numbered : (c : Call) (cat d : List ℕ) → all_numbered (conditions_of c cat d) ≡ true
conditions_numbered (add i bs) cat d = on_layout_lem (read_catalogue (version_of cat) cat) _ λ l. refl
conditions_numbered (remove i) cat d = on_layout_lem (read_catalogue (version_of cat) cat) _ λ l. refl
conditions_numbered (replace i bs) cat d = on_layout_lem (read_catalogue (version_of cat) cat) _ λ l. refl
conditions_numbered (read i p o) cat d = on_layout_lem (read_catalogue (version_of cat) cat) _ λ l. refl
conditions_numbered (breaks i) cat d = on_layout_lem (read_catalogue (version_of cat) cat) _ λ l. refl
conditions_numbered (which n o) cat d = on_layout_lem (read_catalogue (version_of cat) cat) _ λ l. refl
conditions_numbered free cat d = on_layout_lem (read_catalogue (version_of cat) cat) _ λ l. refl
conditions_numbered check cat d = on_layout_lem (read_catalogue (version_of cat) cat) _ λ l. refl

-- a call has such numbers if what it replies past its conditions has
past_conditions : (c : Call) (cat d : List ℕ)
    → Numbered (reply_of c cat d (read_catalogue (version_of cat) cat)) → Numbered (perform c cat d).reply
past_conditions c cat d h =
    subst Numbered (sym (reply_is c cat d))
    (first_numbered (conditions_of c cat d) (conditions_numbered c cat d) _ h)

removes_numbered : (i : ℕ) (cat d : List ℕ) (x : Reading) → Numbered (do_remove (version_of cat) i cat d x).reply
removes_numbered i cat d (sound l) = go (find_file i l.files)
  where
    go : (x : Found) → Numbered (remove_found (version_of cat) cat d l x).reply
    go (found f) = tt
    go missing = refl
removes_numbered i cat d unsound = refl

replies_numbered : (c : Call) (cat d : List ℕ) (x : Reading) → Numbered (reply_of c cat d x)
replies_numbered (add i bs) cat d (sound l) = go (allocate 0 height_count (page_count bs) l.free)
  where
    go : (a : Allocated) → Numbered (add_pieces (version_of cat) i bs cat d l a).reply
    go (allocated s r) = tt
    go too_few = refl
replies_numbered (remove i) cat d x = removes_numbered i cat d x
replies_numbered (replace i bs) cat d x =
    past_conditions (remove i) cat d (removes_numbered i cat d (read_catalogue (version_of cat) cat))
replies_numbered (read i p o) cat d (sound l) = go (find_file i l.files)
  where
    go : (x : Found) → Numbered (read_found p o cat d x).reply
    go (found f) = tt
    go missing = refl
replies_numbered (breaks i) cat d (sound l) = go (find_file i l.files)
  where
    go : (x : Found) → Numbered (breaks_found x)
    go (found f) = tt
    go missing = refl
replies_numbered (which n o) cat d (sound l) =
    either_side (λ (x : Outcome). Numbered x.reply) (leb n (free_blocks l)) _ _ tt tt
replies_numbered free cat d (sound l) = tt
replies_numbered check cat d (sound l) = tt
replies_numbered (add i bs) cat d unsound = refl
replies_numbered (read i p o) cat d unsound = refl
replies_numbered (breaks i) cat d unsound = refl
replies_numbered (which n o) cat d unsound = refl
replies_numbered free cat d unsound = refl
replies_numbered check cat d unsound = refl

-- a call is refused with 1 to 14, or answered
pub refusal_numbers : (c : Call) (cat d : List ℕ) (n : ℕ) → (perform c cat d).reply ≡ refused n
    → (1 ≤ n) × (n ≤ 14)
refusal_numbers c cat d n e =
    one_to_fourteen n
    (subst Numbered e (past_conditions c cat d (replies_numbered c cat d (read_catalogue (version_of cat) cat))))

-- ---- the book

abbrev BookNumbered : BookReply → Type 0
BookNumbered (refuses n) = is_number n ≡ true
BookNumbered (answers n) = Unit {0}
BookNumbered any_number = Unit {0}
BookNumbered (in_any_order n) = Unit {0}
BookNumbered fits = Unit {0}

either : (b : Bool) (x y : BookStep) → BookNumbered x.reply → BookNumbered y.reply
    → BookNumbered (cond b x y).reply
either = either_side (λ (x : BookStep). BookNumbered x.reply)

book_numbered : (c : Call) (b : Book) → BookNumbered (in_book c b).reply
book_numbered (add i bs) b =
    either (eqb i 0) _ _ refl
    (either (noted (line_with i b.lines)) _ _ refl
    (either (not (is_whole bs)) _ _ refl
    (either (leb most_lines (length b.lines)) _ _ refl
    (either (ltb (book_free b) (book_pages bs)) _ _ refl tt))))
book_numbered (remove i) b =
    either (eqb i 0) _ _ refl (either (not (noted (line_with i b.lines))) _ _ refl tt)
book_numbered (replace i bs) b = either (eqb i 0) _ _ refl (go (line_with i b.lines))
  where
    go : (x : LineFound) → BookNumbered (book_replace_line i bs b x).reply
    go no_line = refl
    go (line x) =
        either (not (is_whole bs)) _ _ refl
        (either (eqb (book_rank (content_pages bs)) 0) _ _ refl
        (either (leb (book_rank (content_pages bs)) (book_rank x.pages)) _ _ refl
        (either (ltb (book_free b + length x.pages) (book_pages bs)) _ _ refl tt)))
book_numbered (read i p o) b = either (eqb i 0) _ _ refl (go (line_with i b.lines))
  where
    go : (x : LineFound) → BookNumbered (book_read_line p o b x).reply
    go no_line = refl
    go (line x) =
        either (not (is_whole o)) _ _ refl (either (ltb (length x.pages) (p + book_pages o)) _ _ refl tt)
book_numbered (breaks i) b =
    either (eqb i 0) _ _ refl (either (not (noted (line_with i b.lines))) _ _ refl tt)
book_numbered (which n o) b =
    either (eqb n 0) _ _ refl
    (either (not (eqb (length o) most_lines)) _ _ refl (either (leb n (book_free b)) _ _ tt tt))
book_numbered free b = tt
book_numbered check b = tt

-- the book refuses with 1 to 14, or answers
pub book_refusal_numbers : (c : Call) (b : Book) (n : ℕ) → (in_book c b).reply ≡ refuses n → (1 ≤ n) × (n ≤ 14)
book_refusal_numbers c b n e = one_to_fourteen n (subst BookNumbered e (book_numbered c b))

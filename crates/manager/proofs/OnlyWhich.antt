-- Only `which` says "fits already", whatever the bytes, and only it has an output whose order is not the book's.
-- Assumes nothing.
use mathlib.Core.Bool.{Bool, cond, not}
use mathlib.Core.List.{List, []}
use mathlib.Core.Logic.{◌⊎◌, inl, inr}
use mathlib.Core.Path.{◌≡◌, refl, subst, sym}
use Prim.Native.Nat.{◌+◌, ℕ}
use native.Mathlib.Omega.{arith}
use lib.Dec.{eqb, leb, ltb}
use lib.ListN.{length}
use Rattle.catalogue.specs.Encoding.{encode}
use Rattle.catalogue.specs.Reading.{Reading, read_catalogue, sound, unsound}
use Rattle.catalogue.specs.Version.{version_for, version_of}
use Rattle.catalogue.specs.declared.Version.{Version}
use Rattle.layout.specs.Adding.{Allocated, allocate, allocated, too_few}
use Rattle.layout.specs.Layout.{Found, find_file, found, fresh_layout, missing}
use Rattle.manager.proofs.CallEquations.{format_in_is}
use Rattle.manager.proofs.CallsJudged.{conditions_of}
use Rattle.manager.proofs.FirstRefusal.{reply_is, reply_of}
use Rattle.manager.proofs.Judging.{either_side}
use Rattle.manager.specs.Book.{Book, BookReply, BookStep, LineFound, answers, any_number, book_free, book_pages}
use Rattle.manager.specs.Book.{book_read_line, book_replace_line, content_pages, fits, in_any_order, in_book, is_whole}
use Rattle.manager.specs.Book.{line, line_with, most_lines, no_line, noted, refuses}
use Rattle.manager.specs.BookLetters.{book_rank}
use Rattle.manager.specs.Call.{Call, add, breaks, check, free, read, remove, replace, which}
use Rattle.manager.specs.Claimed.{Asking}
use Rattle.manager.specs.Conditions.{Judgement, Outcome, Reply, allowed, answered, first_refusal, fits_already}
use Rattle.manager.specs.Conditions.{format_conditions, outcome, refusal, refused, reply_unless, unless_refused}
use Rattle.manager.specs.Disk.{page_count}
use Rattle.manager.specs.Outcomes.{add_pieces, breaks_found, do_remove, format_outcome, perform, read_found}
use Rattle.manager.specs.Outcomes.{remove_found}
use Rattle.section.specs.Limits.{height_count}

-- ---- a call

-- a number
abbrev Numeric : Reply → Type 0
Numeric (answered n) = Unit {0}
Numeric (refused n) = Unit {0}
Numeric fits_already = ⊥

past_conditions : (c : Call) (cat d : List ℕ) → Numeric (reply_of c cat d (read_catalogue (version_of cat) cat))
    → Numeric (perform c cat d).reply
past_conditions c cat d h =
    subst Numeric (sym (reply_is c cat d)) (unless (first_refusal (conditions_of c cat d)) _ h)
  where
    unless : (j : Judgement) (r : Reply) → Numeric r → Numeric (reply_unless j r)
    unless allowed r q = q
    unless (refusal n) r q = tt

removes_numeric : (i : ℕ) (cat d : List ℕ) (x : Reading) → Numeric (do_remove (version_of cat) i cat d x).reply
removes_numeric i cat d unsound = tt
removes_numeric i cat d (sound l) = go (find_file i l.files)
  where
    go : (x : Found) → Numeric (remove_found (version_of cat) cat d l x).reply
    go (found f) = tt
    go missing = tt

-- what a call other than `which` replies past its conditions
numeric_or_which : (c : Call) (cat d : List ℕ) (x : Reading) → Numeric (reply_of c cat d x) ⊎ Asking c
numeric_or_which (add i bs) cat d unsound = inl tt
numeric_or_which (add i bs) cat d (sound l) = inl (go (allocate 0 height_count (page_count bs) l.free))
  where
    go : (a : Allocated) → Numeric (add_pieces (version_of cat) i bs cat d l a).reply
    go (allocated s r) = tt
    go too_few = tt
numeric_or_which (remove i) cat d x = inl (removes_numeric i cat d x)
numeric_or_which (replace i bs) cat d x =
    inl (past_conditions (remove i) cat d (removes_numeric i cat d (read_catalogue (version_of cat) cat)))
numeric_or_which (read i p o) cat d unsound = inl tt
numeric_or_which (read i p o) cat d (sound l) = inl (go (find_file i l.files))
  where
    go : (x : Found) → Numeric (read_found p o cat d x).reply
    go (found f) = tt
    go missing = tt
numeric_or_which (breaks i) cat d unsound = inl tt
numeric_or_which (breaks i) cat d (sound l) = inl (go (find_file i l.files))
  where
    go : (x : Found) → Numeric (breaks_found x)
    go (found f) = tt
    go missing = tt
numeric_or_which (which n o) cat d x = inr (n, o, refl)
numeric_or_which free cat d unsound = inl tt
numeric_or_which free cat d (sound l) = inl tt
numeric_or_which check cat d unsound = inl tt
numeric_or_which check cat d (sound l) = inl tt

pub only_which_fits : (c : Call) (cat d : List ℕ) → (perform c cat d).reply ≡ fits_already
    → (n : ℕ) × (o : List ℕ) × (c ≡ which n o)
only_which_fits c cat d e = go (numeric_or_which c cat d (read_catalogue (version_of cat) cat))
  where
    go : Numeric (reply_of c cat d (read_catalogue (version_of cat) cat)) ⊎ Asking c → Asking c
    go (inl h) = absurd (subst Numeric e (past_conditions c cat d h))
    go (inr w) = w

-- nor does format
pub format_never_fits : (cat d : List ℕ) → (format_outcome cat d).reply ≡ fits_already → ⊥
format_never_fits cat d e =
    go (first_refusal (format_conditions v cat d))
    (subst (λ (x : Outcome). x.reply ≡ fits_already) (format_in_is v cat d) e)
  where
    v : Version
    v = version_for (length cat)

    go : (j : Judgement)
        → (unless_refused j cat d []
        (outcome (answered (page_count d)) (encode v (fresh_layout height_count (page_count d))) d [])).reply
        ≡ fits_already → ⊥
    go allowed q = let z : ◌≡◌ {A = ℕ} 0 1 = cc in omega arith
    go (refusal n) q = let z : ◌≡◌ {A = ℕ} 0 1 = cc in omega arith

-- ---- the book

-- a reply whose output is the book's in its order too, and not "fits already"
abbrev pub Ordered : BookReply → Type 0
Ordered (refuses n) = Unit {0}
Ordered (answers n) = Unit {0}
Ordered any_number = Unit {0}
Ordered (in_any_order n) = ⊥
Ordered fits = ⊥

either : (b : Bool) (x y : BookStep) → Ordered x.reply → Ordered y.reply → Ordered (cond b x y).reply
either = either_side (λ (x : BookStep). Ordered x.reply)

-- the book at a call other than `which`
pub ordered_or_which : (c : Call) (b : Book) → Ordered (in_book c b).reply ⊎ Asking c
ordered_or_which (add i bs) b =
    inl (either (eqb i 0) _ _ tt
    (either (noted (line_with i b.lines)) _ _ tt
    (either (not (is_whole bs)) _ _ tt
    (either (leb most_lines (length b.lines)) _ _ tt
    (either (ltb (book_free b) (book_pages bs)) _ _ tt tt)))))
ordered_or_which (remove i) b =
    inl (either (eqb i 0) _ _ tt (either (not (noted (line_with i b.lines))) _ _ tt tt))
ordered_or_which (replace i bs) b = inl (either (eqb i 0) _ _ tt (go (line_with i b.lines)))
  where
    go : (x : LineFound) → Ordered (book_replace_line i bs b x).reply
    go no_line = tt
    go (line x) =
        either (not (is_whole bs)) _ _ tt
        (either (eqb (book_rank (content_pages bs)) 0) _ _ tt
        (either (leb (book_rank (content_pages bs)) (book_rank x.pages)) _ _ tt
        (either (ltb (book_free b + length x.pages) (book_pages bs)) _ _ tt tt)))
ordered_or_which (read i p o) b = inl (either (eqb i 0) _ _ tt (go (line_with i b.lines)))
  where
    go : (x : LineFound) → Ordered (book_read_line p o b x).reply
    go no_line = tt
    go (line x) =
        either (not (is_whole o)) _ _ tt (either (ltb (length x.pages) (p + book_pages o)) _ _ tt tt)
ordered_or_which (breaks i) b =
    inl (either (eqb i 0) _ _ tt (either (not (noted (line_with i b.lines))) _ _ tt tt))
ordered_or_which (which n o) b = inr (n, o, refl)
ordered_or_which free b = inl tt
ordered_or_which check b = inl tt

-- `which` in the plain book: which lines have room, as sums over all lines, and its step by the request's conditions.
-- Assumes nothing.
use mathlib.Core.Bool.{Bool, ◌&&◌, cond, false, not, true}
use mathlib.Core.List.{List, [], ◌∷◌}
use mathlib.Core.Path.{◌∙◌, ◌≡◌, ap, ap₂, refl}
use Prim.Native.Nat.{◌+◌, ◌-◌, ◌<◌, ◌≤◌, suc, zero, ℕ}
use native.Mathlib.Omega.{arith}
use lib.Dec.{eqb, leb}
use lib.ListN.{length, replicate}
use borrow.Author.Tests.{eq-eqb, le-leb, lt-leb, ne_eqb}
use Rattle.layout.proofs.Lists.{length-sum, sum-append}
use Rattle.layout.specs.Lists.{indicator, sum_of, times_in}
use Rattle.manager.specs.Book.{Book, BookStep, Line, book_free, book_refuses, book_which, filled_up, fits}
use Rattle.manager.specs.Book.{ids_with_room, in_any_order, most_lines}
use Rattle.manager.specs.WholeList.{SameNumbers}

-- ---- the book's lines with room

module _ (n f : ℕ) where
  -- a sum over the ids of the lines with room is one over all lines, of 0 for those without
  room-sum : (w : ℕ → ℕ) (g : Line → ℕ)
      → ((x : Line) → g x ≡ cond (leb n (length x.pages + f)) (w x.id) 0)
      → (l : List Line) → sum_of w (ids_with_room n f l) ≡ sum_of g l
  unfolding ids_with_room
  room-sum w g e [] = refl
  room-sum w g e (x ∷ l) =
      go (leb n (f + length x.pages)) (e x ∙ ap (λ m. cond (leb n m) (w x.id) 0) (omega arith))
      (room-sum w g e l)
    where
      go : (t : Bool) → g x ≡ cond t (w x.id) 0 → sum_of w (ids_with_room n f l) ≡ sum_of g l
          → sum_of w (elim t as (λ _. List ℕ) [ true ↦ x.id ∷ ids_with_room n f l | false ↦ ids_with_room n f l ])
          ≡ g x + sum_of g l
      go true q r = omega (arith, q, r)
      go false q r = omega (arith, q, r)

  -- there are as many as lines with room
  pub room_count : (l : List Line)
      → length (ids_with_room n f l) ≡ sum_of (λ (x : Line). indicator (leb n (length x.pages + f))) l
  room_count l =
      length-sum (ids_with_room n f l)
      ∙ room-sum (λ _. 1) (λ (x : Line). indicator (leb n (length x.pages + f)))
      (λ x. one (leb n (length x.pages + f))) l
    where
      one : (t : Bool) → indicator t ≡ cond t 1 0
      one true = refl
      one false = refl

  -- and each is there as often as lines of it with room
  pub room_times : (i : ℕ) (l : List Line)
      → times_in i (ids_with_room n f l)
      ≡ sum_of (λ (x : Line). indicator (eqb x.id i && leb n (length x.pages + f))) l
  room_times i l =
      room-sum (λ y. indicator (eqb y i)) (λ (x : Line). indicator (eqb x.id i && leb n (length x.pages + f)))
      (λ x. both (eqb x.id i) (leb n (length x.pages + f))) l
    where
      both : (s t : Bool) → indicator (s && t) ≡ cond t (indicator s) 0
      both true true = refl
      both true false = refl
      both false true = refl
      both false false = refl

-- zeros are no id
no_zero : (i m : ℕ) → 1 ≤ i → times_in i (replicate m 0) ≡ 0
no_zero i zero some = refl
no_zero i (suc m) some = rw (ne_eqb 0 i (λ e. omega arith)) (omega (arith, no_zero i m some))

-- a list with the numbers of the ids with room, then zeros, has each such id once for each line
pub listed_times : (n : ℕ) (b : Book) (out : List ℕ)
    → SameNumbers out (filled_up (ids_with_room n (book_free b) b.lines)) → (i : ℕ) → 1 ≤ i
    → times_in i out
    ≡ sum_of (λ (x : Line). indicator (eqb x.id i && leb n (length x.pages + book_free b))) b.lines
listed_times n b out same i some =
    let ids = ids_with_room n (book_free b) b.lines in
    same i
    ∙ (sum-append (λ y. indicator (eqb y i)) ids (replicate (most_lines - length ids) 0)
    ∙ (ap₂ (λ x y. x + y) (room_times n (book_free b) i b.lines) (no_zero i (most_lines - length ids) some)
    ∙ omega arith))

-- ---- the book's step, by the request's conditions

module _ (n : ℕ) (o : List ℕ) (b : Book) where
  abbrev pub zeros : BookStep
  zeros = record { reply = fits; book = b; output = filled_up [] }

  abbrev pub lists : BookStep
  lists = record {
    reply = in_any_order (length (ids_with_room n (book_free b) b.lines));
    book = b;
    output = filled_up (ids_with_room n (book_free b) b.lines);
  }

  -- by what its tests say
  abbrev by_tests : Bool → Bool → Bool → BookStep
  by_tests t8 right t = cond t8 (book_refuses 8 b o) (cond (not right) (book_refuses 14 b o) (cond t zeros lists))

  pub book_none : n ≡ 0 → book_which n o b ≡ book_refuses 8 b o
  book_none e = ap (λ t. by_tests t (eqb (length o) 64) (leb n (book_free b))) (eq-eqb n 0 e)

  module _ (some : 1 ≤ n) where
    nonzero : eqb n 0 ≡ false
    nonzero = ne_eqb n 0 (λ e. omega arith)

    pub book_places : (length o ≡ 64 → ⊥) → book_which n o b ≡ book_refuses 14 b o
    book_places e = ap₂ (λ t u. by_tests t u (leb n (book_free b))) nonzero (ne_eqb (length o) 64 e)

    module _ (places : length o ≡ 64) where
      past : book_which n o b ≡ cond (leb n (book_free b)) zeros lists
      past = ap₂ (λ t u. by_tests t u (leb n (book_free b))) nonzero (eq-eqb (length o) 64 places)

      pub book_fits : n ≤ book_free b → book_which n o b ≡ zeros
      book_fits h = past ∙ ap (λ t. cond t zeros lists) (le-leb n (book_free b) h)

      pub book_lists : book_free b < n → book_which n o b ≡ lists
      book_lists h = past ∙ ap (λ t. cond t zeros lists) (lt-leb n (book_free b) h)

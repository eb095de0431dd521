-- Text behind text: one after the other, in a loop, and the room for both. Assumes nothing.
use mathlib.Core.List.{List, [], ◌++◌, append_assoc, append-nil}
use mathlib.Core.Path.{◌∙◌, ◌≡◌, ap, refl, sym}
use Prim.Native.Nat.{◌+◌, ℕ}
use native.Mathlib.Omega.{arith}
use lib.ListN.{length, length-append, take}
use Rattle.manager.specs.Printing.{decimal}
use Rattle.texts.specs.Lines.{Appends, Prints, Room, line_of}

-- ---- one text, and another behind it

pub room-first : {at : ℕ} {o : List ℕ} (x y : List ℕ) → Room at (x ++ y) o → Room at x o
room-first x y h = record { fits = omega (arith, length-append x y) }

pub room_after : {at r : ℕ} {x o o' : List ℕ} (y : List ℕ) → Room at (x ++ y) o → Appends at x o o' r → Room r y o'
room_after {x} y h a = record { fits = omega (arith, length-append x y) }

pub joined : {at r r' : ℕ} {x y o o' o'' : List ℕ} → Appends at x o o' r → Appends r y o' o'' r'
    → Appends at (x ++ y) o o'' r'
joined {at} {x} {y} {o} p q = record {
  bytes = q.bytes ∙ (ap (λ z. z ++ y) p.bytes ∙ append_assoc (take at o) x y);
  next = omega (arith, length-append x y);
  same = q.same ∙ p.same;
}

pub room_same : {at : ℕ} {x y o : List ℕ} → x ≡ y → Room at y o → Room at x o
room_same e h = record { fits = omega (arith, ap length e) }

pub appends_same : {at r : ℕ} {x y o o' : List ℕ} → x ≡ y → Appends at x o o' r → Appends at y o o' r
appends_same {at} {r} {x} {y} {o} e a = record {
  bytes = a.bytes ∙ ap (λ z. take at o ++ z) e;
  next = omega (arith, ap length e);
  same = a.same;
}

-- the whole text from the start
pub prints : {r : ℕ} {x o o' : List ℕ} → Appends 0 x o o' r → Room 0 x o → Prints x o' r
prints a h = record { bytes = a.bytes; within = omega arith }

-- ---- in a loop: what is left to write

pub record Left (at : ℕ) (all o o' : List ℕ) (n : ℕ) (rest : List ℕ) : Type 0 where
  pub bytes : take n o' ++ rest ≡ take at o ++ all
  pub next : n + length rest ≡ at + length all
  pub same : length o' ≡ length o

pub left_start : (at : ℕ) (all o : List ℕ) → Left at all o o at all
left_start at all o = record { bytes = refl; next = refl; same = refl }

module _ {at n : ℕ} {all o o' rest : List ℕ} (x tail : List ℕ) (e : rest ≡ x ++ tail)
    (l : Left at all o o' n rest) where
  rest-length : length rest ≡ length x + length tail
  rest-length = ap length e ∙ length-append x tail

  pub left_room : Room at all o → Room n x o'
  left_room h = record { fits = omega (arith, rest-length) }

  pub left_step : {n' : ℕ} {o'' : List ℕ} → Appends n x o' o'' n' → Left at all o o'' n' tail
  left_step a = record {
    bytes =
        ap (λ z. z ++ tail) a.bytes
        ∙ (append_assoc (take n o') x tail ∙ (ap (λ z. take n o' ++ z) (sym e) ∙ l.bytes));
    next = omega (arith, rest-length);
    same = a.same ∙ l.same;
  }

pub left_end : {at n : ℕ} {all o o' rest : List ℕ} → rest ≡ [] → Left at all o o' n rest → Appends at all o o' n
left_end {at} {n} {all} {o} {o'} e l = record {
  bytes = sym (append-nil (take n o')) ∙ (ap (λ z. take n o' ++ z) (sym e) ∙ l.bytes);
  next = omega (arith, ap length e);
  same = l.same;
}

-- ---- a line

pub line_size : (x : List ℕ) (m : ℕ) (y : List ℕ) (n : ℕ)
    → length (line_of x m y n) ≡ length x + length (decimal m) + length y + length (decimal n) + 1
line_size x m y n = simp length-append (omega arith)

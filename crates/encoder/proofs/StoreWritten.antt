-- Bytes written one list after another: what stands, and what room is left. Assumes nothing.
use mathlib.Core.List.{List, [], ◌++◌, ◌∷◌, append-nil, append_assoc}
use mathlib.Core.Path.{◌∙◌, ◌≡◌, ap, ap₂, refl, subst, sym}
use Prim.Native.Nat.{◌%◌, ◌+◌, ◌-◌, ◌^◌, ◌≤◌, suc, zero, ℕ}
use native.Mathlib.Omega.{arith}
use lib.ListN.{drop, length-append, take}
use lib.Seq.{take_all}
use Rattle.std.specs.Int.{byte_at, bytes_high_first}
use Rattle.catalogue.proofs.Fields.{big_endian-length}
use Rattle.catalogue.specs.Encoding.{big_endian, byte_values}
use Rattle.catalogue.specs.Version.{short_field, widest_field}
use Rattle.encoder.specs.Store.{Room, Written}

-- nothing is written
pub written_none : (cat : List ℕ) (at : ℕ) → Written cat at [] cat at
written_none cat at = record { next = omega arith; front = sym (append-nil (take at cat)); exact = refl }

-- one list after another
pub written_more : {a b c bs cs : List ℕ} {at r q : ℕ} → Written a at bs b r → Written b r cs c q
    → Written a at (bs ++ cs) c q
written_more {a} {b} {c} {bs} {cs} {at} x y = record {
  next = omega (arith, x.next, y.next, length-append bs cs);
  front = y.front ∙ ap (λ l. l ++ cs) x.front ∙ append_assoc (take at a) bs cs;
  exact = y.exact ∙ x.exact;
}

-- the first of two lists has room
pub room_left : (cat bs cs : List ℕ) (at : ℕ) → Room cat at (bs ++ cs) → Room cat at bs
room_left cat bs cs at h = omega (arith, length-append bs cs)

-- and the second, once the first is written
pub room_right : {cat after : List ℕ} {at r : ℕ} (bs cs : List ℕ) → Written cat at bs after r
    → Room cat at (bs ++ cs)
    → Room after r cs
room_right bs cs w h = omega (arith, length-append bs cs, w.next, w.exact)

-- the same bytes by another name
pub room_same : (cat : List ℕ) (at : ℕ) {bs cs : List ℕ} → bs ≡ cs → Room cat at cs → Room cat at bs
room_same cat at e h = subst (Room cat at) (sym e) h

pub written_same : {a b bs cs : List ℕ} {at r : ℕ} → bs ≡ cs → Written a at bs b r → Written a at cs b r
written_same {a} {b} {at = at} {r = r} e w = subst (λ l. Written a at l b r) e w

-- ---- a field

-- the bytes that the library makes of a number are those of the definitions
library-bytes : (k x : ℕ) → bytes_high_first k x ≡ big_endian k x
unfolding big_endian
library-bytes zero x = refl
library-bytes (suc zero) x = ap (λ b. b ∷ []) (omega arith)
library-bytes (suc (suc k)) x = ap (λ l. byte_at (suc k) x ∷ l) (library-bytes (suc k) x)

-- the last w of them are those of a field of w bytes
last-bytes : (k w n x : ℕ) → k + w ≡ n → drop k (big_endian n x) ≡ big_endian w x
unfolding big_endian
last-bytes zero w n x e = ap (λ m. big_endian m x) (omega arith)
last-bytes (suc k) w zero x e = absurd (omega arith)
last-bytes (suc k) w (suc n) x e = last-bytes k w n x (omega arith)

pub field-bytes : (w x : ℕ) → w ≤ widest_field
    → take (widest_field - (widest_field - w)) (drop (widest_field - w) (bytes_high_first widest_field x))
    ≡ big_endian w x
field-bytes w x h =
    ap (λ l. take (widest_field - (widest_field - w)) (drop (widest_field - w) l)) (library-bytes widest_field x)
    ∙ ap (take (widest_field - (widest_field - w))) (last-bytes (widest_field - w) w widest_field x (omega arith))
    ∙ take_all (widest_field - (widest_field - w)) (big_endian w x) (omega (arith, big_endian-length w x))

-- a field of 2 bytes has the lowest two of a number
pub short-bytes : (x : ℕ) → bytes_high_first short_field (x % byte_values ^ short_field) ≡ big_endian short_field x
unfolding big_endian
short-bytes x = ap₂ (λ a b. a ∷ b ∷ []) (omega arith) (omega arith)

-- Fields of w bytes, the highest first: what is written is read, and what is read was written. Assumes nothing.
use mathlib.Core.List.{List, [], ◌++◌, ◌∷◌}
use mathlib.Core.Path.{◌∙◌, ◌≡◌, ap, ap₂, refl, subst, sym}
use Prim.Native.Nat.{◌%◌, ◌*◌, ◌+◌, ◌/◌, ◌<◌, ◌^◌, suc, zero, ℕ}
use native.Mathlib.Nat.{add-mul, div-div-eq-div-mul, div-one, mod-eq_of_lt, mod-lt, mul_assoc, mul_comm, one-le-pow}
use native.Mathlib.Nat.{pow-suc, pow-zero}
use native.Mathlib.Omega.{arith}
use lib.Arith.{mod-mul}
use lib.ListN.{length}
use Rattle.catalogue.specs.Encoding.{Bytes, big_endian, byte_values}
use Rattle.catalogue.specs.Reading.{got, read_field, read_from}
use Rattle.layout.specs.Lists.{done, more}

power_pos : (w : ℕ) → 0 < byte_values ^ w
power_pos w = one-le-pow w byte_values (omega arith)

read_from-big_endian : (w acc x : ℕ) (r : List ℕ)
    → read_from w acc (big_endian w x ++ r) ≡ got (acc * byte_values ^ w + x % byte_values ^ w) r
unfolding read_from big_endian
read_from-big_endian zero acc x r = ap (λ z. got z r) e
  where
    e : acc ≡ acc * byte_values ^ 0 + x % byte_values ^ 0
    e = omega arith
read_from-big_endian (suc w) acc x r =
    read_from-big_endian w (acc * byte_values + x / byte_values ^ w % byte_values) x r ∙ ap (λ z. got z r) e
  where
    e : (acc * byte_values + x / byte_values ^ w % byte_values) * byte_values ^ w + x % byte_values ^ w
        ≡ acc * byte_values ^ suc w + x % byte_values ^ suc w
    e =
        omega (
          arith,
          add-mul (acc * byte_values) (x / byte_values ^ w % byte_values) (byte_values ^ w),
          ap (λ z. x % z) (pow-suc byte_values w ∙ mul_comm (byte_values ^ w) byte_values),
          ap (λ z. acc * z) (pow-suc byte_values w ∙ mul_comm (byte_values ^ w) byte_values),
          mul_assoc acc byte_values (byte_values ^ w),
          mod-mul x {m = byte_values} {c = byte_values ^ w} (omega arith) (power_pos w),
        )

-- a number that fits is read back
pub field_back : (w x : ℕ) (r : List ℕ) → x < byte_values ^ w → read_field w (big_endian w x ++ r) ≡ got x r
field_back w x r p = read_from-big_endian w 0 x r ∙ ap (λ z. got z r) e
  where
    e : 0 * byte_values ^ w + x % byte_values ^ w ≡ x
    e = omega (arith, mod-eq_of_lt p)

-- bytes that are read are the number's
read_from_inv : (w acc : ℕ) (bs : List ℕ) (x : ℕ) (r : List ℕ) → Bytes bs → read_from w acc bs ≡ got x r
    → (x / byte_values ^ w ≡ acc) × (bs ≡ big_endian w x ++ r) × Bytes r
unfolding read_from big_endian
read_from_inv zero acc bs x r b e =
    let p : acc ≡ x = cc in
    let q : bs ≡ r = cc in
    (ap (λ z. x / z) (pow-zero byte_values) ∙ (div-one x ∙ sym p), q, subst Bytes q b)
read_from_inv (suc w) acc [] x r b e = absurd (let z : ◌≡◌ {A = ℕ} 0 1 = cc in omega arith)
read_from_inv (suc w) acc (d ∷ bs) x r (more p b) e =
    let ih = read_from_inv w (acc * byte_values + d) bs x r b e in
    let q : x / byte_values ^ w ≡ acc * byte_values + d = ih.0 in
    let up : x / byte_values ^ suc w ≡ x / byte_values ^ w / byte_values =
    ap (λ z. x / z) (pow-suc byte_values w) ∙ sym (div-div-eq-div-mul x (byte_values ^ w) byte_values) in
    let dd : d ≡ x / byte_values ^ w % byte_values = omega arith in
    (up ∙ omega arith, ap₂ (λ y z. y ∷ z) dd ih.1, ih.2)

pub field_inv : (w : ℕ) (bs : List ℕ) (x : ℕ) (r : List ℕ) → Bytes bs → read_field w bs ≡ got x r
    → (bs ≡ big_endian w x ++ r) × Bytes r
field_inv w bs x r b e = let z = read_from_inv w 0 bs x r b e in (z.1, z.2)

pub big_endian-bytes : (w x : ℕ) → Bytes (big_endian w x)
unfolding big_endian
big_endian-bytes zero x = done
big_endian-bytes (suc w) x =
    more {a = x / byte_values ^ w % byte_values} (mod-lt (x / byte_values ^ w) (omega arith)) (big_endian-bytes w x)

pub big_endian-length : (w x : ℕ) → length (big_endian w x) ≡ w
unfolding big_endian
big_endian-length zero x = refl
big_endian-length (suc w) x = ap suc (big_endian-length w x)

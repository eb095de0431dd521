-- Fields and pairs at a place of the bytes, for any width of a field. Assumes nothing.
use mathlib.Core.Bool.{cond}
use mathlib.Core.List.{List, [], ◌∷◌}
use mathlib.Core.Path.{◌∙◌, ◌≡◌, ap, ap₂, refl, sym}
use Prim.Native.Nat.{◌*◌, ◌+◌, ◌-◌, ◌<◌, ◌^◌, ◌≤◌, suc, zero, ℕ}
use mathlib.Core.Logic.{◌⊎◌, inl, inr}
use native.Mathlib.Nat.{pow-le-pow_right, pow-suc}
use native.Mathlib.Numerals.{add-one}
use native.Mathlib.Omega.{arith}
use lib.Count.{ones, ones-le}
use lib.ListN.{drop, length, length-drop, take}
use lib.Pow.{pow_mono}
use lib.Seq.{drop-drop}
use Rattle.std.specs.List.{fold}
use Rattle.catalogue.specs.Version.{widest_field}
use borrow.Author.Tests.{le-ltb, lt-ltb}
use Rattle.piece.specs.Packed.{section_in}
use Rattle.piece.specs.declared.Piece.{Piece}
use Rattle.catalogue.specs.Reading.{bad, got, read_field, read_from, read_pair, section_read, then}
use Rattle.catalogue.specs.Encoding.{byte_values}
use Rattle.section.proofs.Multiples.{below_or_not}
use Rattle.decoder.specs.Fields.{FieldAt, SomePairAt}
use Rattle.section.proofs.Lengths.{length-greatest, length-of-height}
use Rattle.section.specs.Heights.{height_of}
use Rattle.section.specs.Limits.{greatest_disk, greatest_height}
use Rattle.section.specs.Sections.{length_of}
use Rattle.section.specs.declared.Height.{Height}
use Rattle.std.specs.Prelude.{Option, Some, None}

pub drop_same : (s : List ℕ) (a b : ℕ) → a ≡ b → drop a s ≡ drop b s
drop_same s a b e = ap (λ k. drop k s) e

-- ---- a field

-- the number that the bytes of a list make after those of acc
abbrev pub number : ℕ → List ℕ → ℕ
number acc l = fold (λ n b. n * byte_values + b) acc l

-- bytes that are too few
pub field_short : (w acc : ℕ) (l : List ℕ) → length l < w → read_from w acc l ≡ bad
unfolding read_from
field_short zero acc l p = absurd (omega arith)
field_short (suc w) acc [] p = refl
field_short (suc w) acc (b ∷ l) p = field_short w (acc * 256 + b) l (omega arith)

-- and enough
pub field_long : (w acc : ℕ) (l : List ℕ) → w ≤ length l → read_from w acc l ≡ got (number acc (take w l)) (drop w l)
unfolding read_from
field_long zero acc l p = refl
field_long (suc w) acc [] p = absurd (omega arith)
field_long (suc w) acc (b ∷ l) p = field_long w (acc * 256 + b) l (omega arith)

-- the field at a place is the number of its bytes
pub number-field : (w : ℕ) (s : List ℕ) (at r : ℕ) → at + w ≤ length s → r ≡ number 0 (take w (drop at s))
    → r < byte_values ^ w
    → FieldAt w s at r
number-field w s at r h e m =
    record {
      equal =
          field_long w 0 (drop at s) (omega (arith, length-drop at s))
          ∙ ap₂ got (sym e) (drop-drop w at s);
      most = m;
    }

-- a value of i bytes, and one byte more
pub value_more : (i value b : ℕ) → value < byte_values ^ i → b < 256 → value * 256 + b < byte_values ^ (i + 1)
value_more i value b p q = omega (arith, ap (λ k. byte_values ^ k) (add-one i) ∙ pow-suc byte_values i)

-- three bytes at most
pub three-bytes : (i : ℕ) → i < 4 → byte_values ^ i ≤ 16777216
three-bytes i p = pow-le-pow_right {n = byte_values} (omega arith) {i = i} {j = 3} (omega arith)

-- a number of four bytes at most has few ones
pub ones-fit : (w n : ℕ) → w ≤ widest_field → n < byte_values ^ w → ones n ≤ 32
ones-fit w n p q =
    ones-le 32 n (omega (arith, pow-le-pow_right {n = byte_values} (omega arith) {i = w} {j = 4} p))

-- ---- a pair

module _ (w : ℕ) where
  pair_of-few : (l : List ℕ) → length l < 2 * w → read_pair w l ≡ bad
  unfolding read_pair
  pair_of-few l h = go (below_or_not (length l) w)
    where
      go : (length l < w) ⊎ (w ≤ length l) → read_pair w l ≡ bad
      go (inl p) =
          ap (λ z. then z λ y r. then (read_field w r) λ m r'. section_read y (height_of m) r') (field_short w 0 l p)
      go (inr p) =
          ap (λ z. then z λ y r. then (read_field w r) λ m r'. section_read y (height_of m) r') (field_long w 0 l p)
          ∙ ap (λ z. then z λ m r'. section_read (number 0 (take w l)) (height_of m) r')
          (field_short w 0 (drop w l) (omega (arith, length-drop w l)))

  pub pair_short : (s : List ℕ) (at : ℕ) → length s - at < 2 * w → read_pair w (drop at s) ≡ bad
  pair_short s at h = pair_of-few (drop at s) (omega (arith, length-drop at s))

  -- a pair from its two fields
  pub pair_at_lem : (s : List ℕ) (at x n : ℕ) → FieldAt w s at x → FieldAt w s (at + w) n
      → read_pair w (drop at s) ≡ section_read x (height_of n) (drop (at + 2 * w) s)
  unfolding read_pair
  pair_at_lem s at x n p q =
      ap (λ z. then z λ y r. then (read_field w r) λ m r'. section_read y (height_of m) r') p.equal
      ∙ (ap (λ z. then z λ m r'. section_read x (height_of m) r') q.equal
      ∙ ap (λ r. section_read x (height_of n) r) (drop_same s (at + w + w) (at + 2 * w) (omega arith)))

  module _ (s : List ℕ) (at x n : ℕ) (p : FieldAt w s at x) (q : FieldAt w s (at + w) n) where
    pub pair_section : (h : Height) → x < greatest_disk → height_of n ≡ Some h
        → read_pair w (drop at s) ≡ got (record { first = x; height = h }) (drop (at + 2 * w) s)
    pair_section h lt e =
        pair_at_lem s at x n p q
        ∙ (ap (λ m. section_read x m (drop (at + 2 * w) s)) e
        ∙ ap (λ t. cond t (got (record { first = x; height = h }) (drop (at + 2 * w) s)) bad)
        (lt-ltb x greatest_disk lt))

    -- a first block past every disk
    pub pair_far : greatest_disk ≤ x → read_pair w (drop at s) ≡ bad
    pair_far le = pair_at_lem s at x n p q ∙ go (height_of n)
      where
        go : (m : Option Height) → section_read x m (drop (at + 2 * w) s) ≡ bad
        go (Some h) =
            ap (λ t. cond t (got (record { first = x; height = h }) (drop (at + 2 * w) s)) bad)
            (le-ltb x greatest_disk le)
        go None = refl

    pub pair_none : height_of n ≡ None → read_pair w (drop at s) ≡ bad
    pair_none e = pair_at_lem s at x n p q ∙ ap (λ m. section_read x m (drop (at + 2 * w) s)) e

pub some_pair_at : (w : ℕ) (s : List ℕ) (at x n : ℕ) → FieldAt w s at x → FieldAt w s (at + w) n → (h : Height)
    → x < greatest_disk → height_of n ≡ Some h → at + 2 * w ≤ length s → (z : Piece)
    → section_in z ≡ record { first = x; height = h } → SomePairAt w s at (record { length = n; piece = z })
some_pair_at w s at x n p q h lt e l z k =
    let y = length-of-height n h e in
    record {
      meaning =
          pair_section w s at x n p q h lt e ∙ ap (λ a. got a (drop (at + 2 * w) s)) (sym k);
      equal = y.1 ∙ sym (ap length_of k);
      most = omega (arith, y.1, pow_mono {i = h.value} {j = greatest_height} y.0, length-greatest);
      inside = l;
    }

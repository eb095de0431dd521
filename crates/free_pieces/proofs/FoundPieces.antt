-- What a search among pieces finds, said of the sections in them, the piece at a place of a loop, and pieces in the
-- first places of an array. Assumes nothing.
use Rattle.std.proofs.Common.{◌<◌, ◌≡◌, ◌≤◌, ◌∙◌, ap, arith, refl, sym, ℕ, Bool, true, false, cond, List, length}
use Rattle.std.proofs.Common.{None, Some, get_or, take}
use Rattle.std.specs.List.{position, position_or_len}
use Rattle.std.specs.Prelude.{nat_lt}
use Rattle.std.proofs.lemmas.Bool.{ltb-false}
use Rattle.std.proofs.lemmas.List.Quantifiers.{position-Some}
use Rattle.std.proofs.lemmas.List.Sums.{prefix_len_passes}
use borrow.Author.Tests.{not-true}
use mathlib.Core.Bool.{not}
use lib.Seq.{get_or-take}
use Rattle.std.proofs.lemmas.List.{length-take}
use Rattle.section.specs.declared.Section.{Section}
use Rattle.layout.specs.Adding.{nothing, take_first}
use Rattle.piece.proofs.Seen.{seen_get, seen-length, seen-take}
use Rattle.piece.specs.Packed.{no_piece, section_in, seen}
use Rattle.piece.specs.declared.Piece.{Piece}
use Rattle.free_pieces.proofs.FirstTaken.{FirstAt, take_none}

failed : (b : Bool) (i : ℕ) → cond b (Some i) None ≡ None → b ≡ false
failed true i e = cc
failed false i e = refl

module _ (q : Section → Bool) (l : List Piece) where
  abbrev test : Piece → Bool
  test x = q (section_in x)

  pub first-found : (i : ℕ) → position test l ≡ Some i → FirstAt q (seen l) i
  first-found i e =
      let p = position-Some test l i no_piece e in
      record {
        below = omega (arith, p.0, seen-length l);
        here = ap q (seen_get l i) ∙ p.1;
        before = λ k lt. ap q (seen_get l k) ∙ p.2 k lt;
      }

  pub nothing-found : position test l ≡ None → nothing ≡ take_first q (seen l)
  nothing-found e =
      let i : ℕ = position_or_len test l in
      let end : length l ≤ i = ltb-false i (length l) (failed (nat_lt i (length l)) i e) in
      sym (take_none q (seen l) (λ k lt. ap q (seen_get l k)
      ∙ not-true _ (prefix_len_passes (λ x. not (test x)) l k no_piece (omega (arith, lt, end, seen-length l)))))

-- the section of the piece at place j, where the first m words of an array are looked at
pub read_at : (items l : List Piece) (m j : ℕ) (s : Section) → l ≡ take m items → j < length l
    → s ≡ section_in (get_or l j no_piece) → (j < m) × (s ≡ section_in (get_or items j no_piece))
read_at items l m j s e lt q =
    let below : j < m = omega (arith, lt, ap length e, length-take m items) in
    (below, q ∙ ap section_in (ap (λ k. get_or k j no_piece) e ∙ get_or-take m items j no_piece below))

-- the pieces of a list in the first places of an array
pub first_places : (items l k : List Piece) (n : ℕ) → k ≡ take n items → n ≤ length items → take (length k) l ≡ k
    → take n (seen l) ≡ seen k
first_places items l k n e h f =
    let m : n ≡ length k = omega (arith, h, ap length e, length-take n items) in
    ap (λ i. take i (seen l)) m ∙ seen-take (length k) l ∙ ap seen f

-- Lists of words seen as lists of sections: one more at a place, one fewer, and each of them. Assumes nothing.
use mathlib.Core.List.{List, [], ◌++◌, ◌∷◌}
use mathlib.Core.Path.{◌∙◌, ◌≡◌, ap, ap₂, sym}
use Prim.Native.Nat.{suc, zero, ℕ}
use native.Mathlib.Omega.{arith}
use lib.ListN.{drop, take}
use Rattle.std.specs.Prelude.{All}
use Rattle.section.specs.declared.Section.{Section}
use Rattle.layout.specs.Lists.{Each, more}
use Rattle.piece.proofs.Seen.{seen-append, seen-cons, seen-drop, seen-take}
use Rattle.piece.specs.Packed.{section_in, seen}
use Rattle.piece.specs.declared.Piece.{Piece}
use Rattle.piece_lists.specs.Places.{with_at, without_at}

pub seen-with : (i : ℕ) (p : Piece) (l : List Piece) → seen (with_at i p l) ≡ with_at i (section_in p) (seen l)
unfolding with_at
seen-with i p l =
    seen-append (take i l) (p ∷ drop i l)
    ∙ ap₂ ◌++◌ (sym (seen-take i l)) (seen-cons p (drop i l) ∙ ap (λ x. section_in p ∷ x) (sym (seen-drop i l)))

pub seen-without : (i : ℕ) (l : List Piece) → seen (without_at i l) ≡ without_at i (seen l)
unfolding without_at
seen-without i l =
    seen-append (take i l) (drop (suc i) l) ∙ ap₂ ◌++◌ (sym (seen-take i l)) (sym (seen-drop (suc i) l))

-- each of the words, where each of the sections seen has P
pub all-seen : {P : Section → Type 0} (l : List Piece) → Each P (seen l) → All (λ p. P (section_in p)) l
unfolding seen
all-seen [] e k d h = absurd (omega arith)
all-seen (p ∷ l) (more q e) zero d h = q
all-seen {P = P} (p ∷ l) (more q e) (suc k) d h = all-seen {P = P} l e k d (omega arith)

-- Lists of words seen as lists of sections: length, an item, an item stored, parts. Assumes nothing.
use Rattle.std.proofs.Common.{◌≡◌, ◌++◌, ◌∷◌, refl, ℕ, List, drop, length, take}
use Rattle.std.proofs.Math.ListN.{get_or, get_or-map, length-map, set}
use Rattle.std.proofs.lemmas.List.{drop-map, map-append, map-set, take-map}
use Rattle.section.specs.Sections.{section}
use Rattle.piece.specs.Packed.{no_piece, section_in, seen}
use Rattle.piece.specs.declared.Piece.{Piece}

pub seen-length : (l : List Piece) → length (seen l) ≡ length l
unfolding seen
seen-length l = length-map l section_in

pub seen_get : (l : List Piece) (i : ℕ) → get_or (seen l) i (section 0 0) ≡ section_in (get_or l i no_piece)
unfolding seen section_in
seen_get l i = get_or-map section_in l i no_piece

pub seen-set : (l : List Piece) (i : ℕ) (p : Piece) → seen (set l i p) ≡ set (seen l) i (section_in p)
unfolding seen
seen-set l i p = map-set section_in l i p

pub seen-take : (n : ℕ) (l : List Piece) → take n (seen l) ≡ seen (take n l)
unfolding seen
seen-take n l = take-map section_in n l

pub seen-drop : (n : ℕ) (l : List Piece) → drop n (seen l) ≡ seen (drop n l)
unfolding seen
seen-drop n l = drop-map section_in n l

pub seen-cons : (p : Piece) (l : List Piece) → seen (p ∷ l) ≡ section_in p ∷ seen l
unfolding seen
seen-cons p l = refl

pub seen-append : (l k : List Piece) → seen (l ++ k) ≡ seen l ++ seen k
unfolding seen
seen-append l k = map-append section_in l k

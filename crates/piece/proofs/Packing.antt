-- A section is found again in its word, and the word again from the section. Assumes nothing.
use mathlib.Core.Path.{◌≡◌, ap, ap₂, refl}
use Prim.Native.Nat.{ℕ, ◌%◌, ◌*◌, ◌+◌, ◌/◌, ◌<◌}
use native.Mathlib.Omega.{arith}
use Rattle.section.specs.Sections.{section}
use Rattle.section.specs.declared.Section.{Section}
use Rattle.piece.specs.Packed.{heights_in_word, piece_of, section_in}
use Rattle.piece.specs.declared.Piece.{Piece}

pub packed : (s : Section) → s.height.value < heights_in_word → section_in (piece_of s) ≡ s
unfolding section_in piece_of
packed s h =
    let w : ℕ = s.first * heights_in_word + s.height.value in
    let a : w / heights_in_word ≡ s.first = omega arith in
    let b : w % heights_in_word ≡ s.height.value = omega arith in
    ap₂ section a b

pub repacked : (p : Piece) → piece_of (section_in p) ≡ p
unfolding section_in piece_of
repacked p =
    let e : p.word / heights_in_word * heights_in_word + p.word % heights_in_word ≡ p.word = omega arith in
    ap (λ (w : ℕ). record { word = w }) e

-- the last block of the greatest disk, and the greatest disk as one section, by their words
last_block : section_in (record { word = 33554400 }) ≡ section 1048575 0
unfolding section_in
last_block = refl

whole_disk : section_in (record { word = 20 }) ≡ section 0 20
unfolding section_in
whole_disk = refl

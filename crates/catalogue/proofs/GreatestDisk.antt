-- The greatest disk of version 2 has 1,048,576 blocks: read from its literal fields with one free pair, and not sound
-- with a block more. Ones of such numbers are had by laws, as counting them takes as many steps. Assumes nothing.
use mathlib.Core.Bool.{◌&&◌, false, true}
use mathlib.Core.List.{List, [], ◌∷◌}
use mathlib.Core.Path.{◌∙◌, ◌≡◌, ap}
use Prim.Native.Nat.{ℕ}
use native.Mathlib.Omega.{arith}
use lib.Count.{ones, ones_cat}
use lib.Dec.{eqb}
use lib.ListN.{drop}
use lib.Pow.{pow_pos}
use Rattle.catalogue.proofs.Size.{ones_of_one, ones_of_zero}
use Rattle.catalogue.specs.WrittenFields.{large, row, written}
use Rattle.catalogue.specs.Reading.{Read, Reading, every, got, is_sound, judged, pairwise, read_catalogue}
use Rattle.catalogue.specs.Reading.{read_entries, read_from, read_header, read_layout, read_pair, read_pairs, sound}
use Rattle.catalogue.specs.Reading.{then, unsound}
use Rattle.catalogue.specs.Version.{version2}
use Rattle.layout.specs.Layout.{Layout, file_pieces}
use Rattle.section.specs.Heights.{height_of}
use Rattle.section.specs.Sections.{is_aligned, is_on_disk, section, shares_block}

ones-greatest : ones 1048576 ≡ 1
ones-greatest = omega (arith, ones_cat 20 1 0 (pow_pos 20), ones_of_one, ones_of_zero)

ones_greater : ones 1048577 ≡ 2
ones_greater = omega (arith, ones_cat 20 1 1 (omega arith), ones_of_one)

-- a layout with no file and o free pairs, from the bytes after a header of 8
abbrev free_read : ℕ → List ℕ → ℕ → Read Layout
free_read c bs o = then (read_pairs o 4 (drop 8 bs)) λ free r. got (record { blocks = c; files = []; free = free }) r

abbrev greatest : List ℕ
greatest = written large (row 1048576 0 [] ((0, 1048576) ∷ []))

abbrev whole_free : Layout
whole_free = record { blocks = 1048576; files = []; free = section 0 20 ∷ [] }

greatest-layout : read_layout version2 greatest ≡ got whole_free (drop 16 greatest)
unfolding read_layout read_header read_entries read_pairs read_pair read_from height_of
greatest-layout = ap (free_read 1048576 greatest) ones-greatest

greatest_test : is_sound 21 whole_free ≡ true
unfolding is_sound every pairwise is_on_disk is_aligned shares_block file_pieces
greatest_test = ap (λ o. eqb 1 o && true) ones-greatest

pub greatest_disk_sound : read_catalogue version2 greatest ≡ sound whole_free
unfolding read_catalogue judged every
greatest_disk_sound =
    ap (judged version2) greatest-layout
    ∙ ap (λ t. elim t as (λ _. Reading) [ true ↦ sound whole_free | false ↦ unsound ]) greatest_test

-- the block more would be a free pair (1048576, 1)
pub greater_disk_unsound :
    read_catalogue version2 (written large (row 1048577 0 [] ((0, 1048576) ∷ (1048576, 1) ∷ []))) ≡ unsound
unfolding read_catalogue judged read_layout read_header read_entries read_pairs read_pair read_from height_of
greater_disk_unsound =
    ap
    (λ o. judged version2
    (free_read 1048577 (written large (row 1048577 0 [] ((0, 1048576) ∷ (1048576, 1) ∷ []))) o)) ones_greater

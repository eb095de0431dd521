-- The pieces of files when all that lies inside a section has moved: sums over heights are kept. Assumes nothing.
use mathlib.Core.List.{List, [], ◌++◌, ◌∷◌, map}
use mathlib.Core.Path.{◌∙◌, ◌≡◌, ap, refl, sym}
use Prim.Native.Nat.{ℕ}
use lib.Dec.{eqb}
use Rattle.layout.proofs.Lists.{each_all, map-append, sum_cong, sum-map}
use Rattle.layout.specs.Covering.{count_of}
use Rattle.layout.specs.Layout.{File, file_pieces, of_height}
use Rattle.layout.specs.Lists.{indicator, sum_of}
use Rattle.layout.specs.Removing.{moved_file}
use Rattle.section.proofs.Moves.{moved-height}
use Rattle.section.specs.Sections.{moved_into, section}
use Rattle.section.specs.declared.Section.{Section}

module _ (b u : Section) where
  pub pieces_moved : (fs : List File) → file_pieces (map (moved_file b u) fs) ≡ map (moved_into b u) (file_pieces fs)
  unfolding file_pieces
  pieces_moved [] = refl
  pieces_moved (f ∷ fs) =
      ap (λ z. map (moved_into b u) f.pieces ++ z) (pieces_moved fs)
      ∙ sym (map-append (moved_into b u) f.pieces (file_pieces fs))

  -- what depends on heights alone is kept
  pub sum_moved : (g : ℕ → ℕ) (l : List Section)
      → sum_of (λ (s : Section). g s.height.value) (map (moved_into b u) l)
      ≡ sum_of (λ (s : Section). g s.height.value) l
  sum_moved g l =
      sum-map (λ (s : Section). g s.height.value) (moved_into b u) l
      ∙ sum_cong (λ s. g (moved_into b u s).height.value) (λ (s : Section). g s.height.value)
      (each_all l (λ s. ap g (moved-height b u s)))

  pub count_moved : (h : ℕ) (l : List Section) → count_of h (map (moved_into b u) l) ≡ count_of h l
  unfolding of_height
  count_moved h l = sum_moved (λ i. indicator (eqb i h)) l

pub section_eta : (s : Section) (h : ℕ) → s.height.value ≡ h → s ≡ section s.first h
section_eta s h e = λ i. section s.first (e i)

-- The first page of a file on the disk, whose bytes are those of the first block of the file's longest piece, and of a
-- content; and where their quality letters stand. Assumes nothing.
use mathlib.Core.List.{List, [], ◌++◌, ◌∷◌, map}
use mathlib.Core.Path.{◌∙◌, ◌≡◌, ap}
use Prim.Native.Nat.{◌*◌, ◌+◌, ◌-◌, ◌<◌, ◌≤◌, suc, zero, ℕ}
use native.Mathlib.Omega.{arith}
use lib.ListN.{drop, get_or, take}
use lib.Pow.{pow_pos}
use lib.Seq.{get_or-drop, get_or-take}
use Rattle.section.specs.Limits.{block_size}
use Rattle.section.specs.Sections.{length_of}
use Rattle.section.specs.declared.Section.{Section}
use Rattle.layout.specs.Layout.{block_run, blocks_of}
use Rattle.manager.specs.Disk.{block, cut_pages, pages_on}
use Rattle.quality.proofs.Ranks.{first-letter}
use Rattle.quality.specs.Letters.{first_letter}

run_first : (x n : ℕ) → 1 ≤ n → block_run x n ≡ x ∷ block_run (suc x) (n - 1)
unfolding block_run
run_first x zero p = absurd (omega arith)
run_first x (suc n) p = let e : n ≡ suc n - 1 = omega arith in ap (λ m. x ∷ block_run (suc x) m) e

module _ (d : List ℕ) (s : Section) (l : List Section) where
  pages-first : pages_on d (s ∷ l)
      ≡ block d s.first ∷ map (block d) (block_run (suc s.first) (length_of s - 1) ++ blocks_of l)
  unfolding pages_on blocks_of
  pages-first = ap (λ r. map (block d) (r ++ blocks_of l)) (run_first s.first (length_of s) (pow_pos s.height.value))

  pub first_page_byte : (k : ℕ) → k < block_size
      → get_or (get_or (pages_on d (s ∷ l)) 0 []) k 0 ≡ get_or d (block_size * s.first + k) 0
  first_page_byte k h =
      ap (λ ps. get_or (get_or ps 0 []) k 0) pages-first
      ∙ (get_or-take block_size (drop (block_size * s.first) d) k 0 h ∙ get_or-drop (block_size * s.first) d k 0)

-- ---- quality letters

-- byte 6 of the content
pub content_letter : (n : ℕ) (bs : List ℕ) → 1 ≤ n → first_letter (cut_pages n bs) ≡ get_or bs 6 0
unfolding cut_pages
content_letter zero bs some = absurd (omega arith)
content_letter (suc n) bs some =
    first-letter (take 512 bs) (cut_pages n (drop 512 bs)) ∙ get_or-take 512 bs 6 0 (omega arith)

-- byte 6 of the first block of the file's first piece
pub stored-letter : (d : List ℕ) (s : Section) (ps : List Section)
    → first_letter (pages_on d (s ∷ ps)) ≡ get_or d (512 * s.first + 6) 0
unfolding first_letter
stored-letter d s ps = first_page_byte d s ps 6 (omega arith)

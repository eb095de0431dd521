-- Layouts in literal numbers that are sound: files of one and of two pieces with two free ones, the least disk and the
-- greatest, and 64 files up to the greatest id. A rule that refuses one of them is too strict. Assumes nothing.
use mathlib.Core.List.{[], ◌∷◌}
use mathlib.Core.Logic.{inl, inr}
use mathlib.Core.Path.{◌∙◌, ◌≡◌, ap, refl}
use Prim.Native.Nat.{◌%◌, ◌+◌, ◌<◌, ◌^◌, ◌≤◌, suc, zero, ℕ}
use native.Mathlib.Nat.{mod-one}
use native.Mathlib.Omega.{arith}
use lib.Count.{ones, ones_in}
use Rattle.layout.proofs.Fresh.{fresh_sound}
use Rattle.layout.proofs.Lists.{each_imp}
use Rattle.layout.proofs.Soundness.{sums_sound}
use Rattle.layout.specs.Layout.{File, file_pieces, fresh_layout, pieces_from}
use Rattle.layout.specs.Lists.{Each, Pairwise, done, more, next, none}
use Rattle.layout.specs.Sound.{Sound}
use Rattle.section.specs.Sections.{Apart, length_of, section}
use Rattle.section.specs.declared.Section.{Section}
use Rattle.layout.specs.Cases.{file, singles}

-- ---- 16 blocks

abbrev one : File
one = file 1 (section 0 2 ∷ section 6 0 ∷ [])

abbrev seven : File
seven = file 7 (section 4 1 ∷ [])

-- id 1 has 5 blocks, (0,4) and (6,1), id 7 has (4,2), and (7,1) and (8,8) are free
pub sixteen_blocks_sound :
    Sound 13 (record { blocks = 16; files = one ∷ seven ∷ []; free = section 7 0 ∷ section 8 3 ∷ [] })
unfolding file_pieces ones ones_in
sixteen_blocks_sound = record {
  some_blocks = omega arith;
  most_blocks = omega arith;
  most_files = omega arith;
  least_id = more {a = one} (omega arith) (more {a = seven} (omega arith) done);
  most_id = more {a = one} (omega arith) (more {a = seven} (omega arith) done);
  ids_rise = next {a = one} (more {a = seven} (omega arith) done) (next done none);
  some_pages = more {a = one} (omega arith) (more {a = seven} (omega arith) done);
  pages_fit = omega arith;
  on_disk =
      more {a = section 0 2} (record { aligned = refl; within = omega arith })
      (more {a = section 6 0} (record { aligned = refl; within = omega arith })
      (more {a = section 4 1} (record { aligned = refl; within = omega arith })
      (more {a = section 7 0} (record { aligned = refl; within = omega arith })
      (more {a = section 8 3} (record { aligned = refl; within = omega arith }) done))));
  heights =
      more {a = section 0 2} (omega arith)
      (more {a = section 6 0} (omega arith)
      (more {a = section 4 1} (omega arith)
      (more {a = section 7 0} (omega arith)
      (more {a = section 8 3} (omega arith) done))));
  page_order =
      more {a = one} (next {a = section 0 2} (more {a = section 6 0} (omega arith) done) (next done none))
      (more (next done none) done);
  file_count = more {a = one} refl (more {a = seven} refl done);
  free_rise = next {a = section 7 0} (more {a = section 8 3} (omega arith) done) (next done none);
  free_distinct = next {a = section 7 0} (more {a = section 8 3} (λ e. omega arith) done) (next done none);
  free_sum = refl;
  free_count = refl;
  apart =
      next {a = section 0 2}
      (more {a = section 6 0} (inl (omega arith))
      (more {a = section 4 1} (inl (omega arith))
      (more {a = section 7 0} (inl (omega arith))
      (more {a = section 8 3} (inl (omega arith)) done))))
      (next {a = section 6 0}
      (more {a = section 4 1} (inr (omega arith))
      (more {a = section 7 0} (inl (omega arith))
      (more {a = section 8 3} (inl (omega arith)) done)))
      (next {a = section 4 1}
      (more {a = section 7 0} (inl (omega arith)) (more {a = section 8 3} (inl (omega arith)) done))
      (next {a = section 7 0} (more {a = section 8 3} (inl (omega arith)) done) (next done none))));
}

-- ---- the least disk and the greatest

-- one block and 4,096 with the heights of version 1, and 1,048,576 with those of version 2, all free
pub free_disks_sound :
    Sound 13 (record { blocks = 1; files = []; free = section 0 0 ∷ [] })
    × Sound 13 (record { blocks = 4096; files = []; free = section 0 12 ∷ [] })
    × Sound 21 (record { blocks = 1048576; files = []; free = section 0 20 ∷ [] })
unfolding fresh_layout pieces_from
free_disks_sound = (
  sums_sound 13 (fresh_layout 13 1) (fresh_sound 13 1 (omega arith) (omega arith) (omega arith)),
  sums_sound 13 (fresh_layout 13 4096) (fresh_sound 13 4096 (omega arith) (omega arith) (omega arith)),
  sums_sound 21 (fresh_layout 21 1048576) (fresh_sound 21 1048576 (omega arith) (omega arith) (omega arith)),
)

-- ---- 64 files

singles-ids : (i x n : ℕ) → Each (λ (f : File). (i ≤ f.id) × (f.id < i + n)) (singles i x n)
unfolding singles
singles-ids i x zero = done
singles-ids i x (suc n) =
    more {a = file i (section x 0 ∷ [])} (omega arith, omega arith)
    (each_imp (λ f p. (omega (arith, p.0), omega (arith, p.1))) (singles-ids (suc i) (suc x) n))

singles_rise : (i x n : ℕ) → Pairwise (λ (f g : File). f.id < g.id) (singles i x n)
unfolding singles
singles_rise i x zero = none
singles_rise i x (suc n) =
    next {a = file i (section x 0 ∷ [])} (each_imp (λ f p. p.0) (singles-ids (suc i) (suc x) n))
    (singles_rise (suc i) (suc x) n)

-- what holds of every file of one block
singles_each : {P : File → Type 0} (i x n : ℕ) → ((j y : ℕ) → P (file j (section y 0 ∷ []))) → Each P (singles i x n)
unfolding singles
singles_each i x zero p = done
singles_each i x (suc n) p = more (p i x) (singles_each (suc i) (suc x) n p)

singles_pieces : (i x n : ℕ)
    → Each (λ (s : Section). (s.height.value ≡ 0) × (x ≤ s.first) × (s.first < x + n))
    (file_pieces (singles i x n))
unfolding singles file_pieces
singles_pieces i x zero = done
singles_pieces i x (suc n) =
    more {a = section x 0} (refl, omega arith, omega arith)
    (each_imp (λ s p. (p.0, omega (arith, p.1), omega (arith, p.2))) (singles_pieces (suc i) (suc x) n))

singles-apart : (i x n : ℕ)
    → Pairwise (λ (s t : Section). Apart s.first (length_of s) t.first (length_of t))
    (file_pieces (singles i x n))
unfolding singles file_pieces
singles-apart i x zero = none
singles-apart i x (suc n) =
    next {a = section x 0} (each_imp (λ s p. inl (omega (arith, p.1))) (singles_pieces (suc i) (suc x) n))
    (singles-apart (suc i) (suc x) n)

-- 64 files with the ids 65,472 to 65,535 fill 64 blocks
pub sixty_four_files_sound : Sound 13 (record { blocks = 64; files = singles 65472 0 64; free = [] })
unfolding singles file_pieces ones ones_in
sixty_four_files_sound = record {
  some_blocks = omega arith;
  most_blocks = omega arith;
  most_files = omega arith;
  least_id = each_imp (λ f p. omega (arith, p.0)) (singles-ids 65472 0 64);
  most_id = each_imp (λ f p. omega (arith, p.1)) (singles-ids 65472 0 64);
  ids_rise = singles_rise 65472 0 64;
  some_pages = singles_each 65472 0 64 (λ j y. omega arith);
  pages_fit = omega arith;
  on_disk =
      each_imp
      (λ s p. record {
        aligned = ap (λ h. s.first % 2 ^ h) p.0 ∙ mod-one s.first;
        within = omega (arith, p.2, ap (λ h. 2 ^ h) p.0);
      })
      (singles_pieces 65472 0 64);
  heights = each_imp (λ s p. omega (arith, p.0)) (singles_pieces 65472 0 64);
  page_order = singles_each 65472 0 64 (λ j y. next done none);
  file_count = singles_each 65472 0 64 (λ j y. refl);
  free_rise = none;
  free_distinct = none;
  free_sum = refl;
  free_count = refl;
  apart = singles-apart 65472 0 64;
}

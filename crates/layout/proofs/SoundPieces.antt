-- How many pieces a sound layout has, in the words of document 01: one for each 1 of n and of f, so a file has some
-- and its breaks are at most the ones of n less one, no division into powers of two has fewer, 32 free blocks are one
-- section of height 5, and with heights below k no file and no disk has more than k - 1 pieces. Assumes nothing.
use mathlib.Core.List.{List, [], ◌∷◌}
use mathlib.Core.Logic.{◌⊎◌, inl, inr}
use mathlib.Core.Path.{◌∙◌, ◌≡◌, ap, refl}
use Prim.Native.Nat.{◌-◌, ◌<◌, ◌^◌, ◌≤◌, ℕ}
use native.Mathlib.Omega.{arith}
use lib.Count.{ones, ones-le}
use lib.ListN.{length}
use Rattle.layout.proofs.Fewest.{per_one_fewest}
use Rattle.layout.proofs.Lists.{each_and, each_imp, pairwise_imp, sum_ge}
use Rattle.layout.proofs.MovedPieces.{section_eta}
use Rattle.layout.proofs.Ones.{breaks-ones, distinct-ones, ones_power}
use Rattle.layout.specs.Divisions.{FewestPieces}
use Rattle.layout.specs.Layout.{File, Layout, OnePiecePerOne, block_count, breaks_of, file_blocks, free_blocks}
use Rattle.layout.specs.Lists.{Each}
use Rattle.layout.specs.Sound.{Sound}
use Rattle.section.proofs.Lengths.{length_unique, pow_lt_inv}
use Rattle.section.proofs.Multiples.{below_or_not}
use Rattle.section.specs.Sections.{section}
use Rattle.section.specs.declared.Section.{Section}

-- a number up to 2 ^ m has at most m ones, for an m of 1 or more
ones_most : (m n : ℕ) → 1 ≤ m → n ≤ 2 ^ m → ones n ≤ m
ones_most m n pos p = go (below_or_not n (2 ^ m))
  where
    go : (n < 2 ^ m) ⊎ (2 ^ m ≤ n) → ones n ≤ m
    go (inl q) = ones-le m n q
    go (inr q) = let e : n ≡ 2 ^ m = omega arith in omega (arith, ap ones e, ones_power m)

module _ (k : ℕ) (l : Layout) (s : Sound k l) where
  -- ---- one piece for each 1

  -- a file of n blocks has one piece for each 1 in binary n
  pub file_pieces_ones : Each (λ (f : File). OnePiecePerOne (file_blocks f) f.pieces) l.files
  file_pieces_ones =
      each_imp
      (λ f p. distinct-ones (file_blocks f) f.pieces (pairwise_imp (λ a b q z. omega (arith, q)) p) refl)
      s.page_order

  -- and so do the f free blocks
  pub free_pieces_ones : OnePiecePerOne (free_blocks l) l.free
  free_pieces_ones = distinct-ones (free_blocks l) l.free s.free_distinct s.free_sum

  -- no file is without pieces
  pub file_has_pieces : Each (λ (f : File). f.pieces ≡ [] → ⊥) l.files
  file_has_pieces = each_imp (λ f p e. omega (arith, p, ap block_count e)) s.some_pages

  -- the breaks of a file are at most the ones of n less one: none for n = 1
  pub file-breaks : Each (λ (f : File). breaks_of f.pieces ≤ ones (file_blocks f) - 1) l.files
  file-breaks =
      each_imp
      (λ f p. breaks-ones (pairwise_imp (λ a b q. pow_lt_inv b.height.value a.height.value q) p))
      s.page_order

  pub one_block_no_break : Each (λ (f : File). file_blocks f ≡ 1 → breaks_of f.pieces ≡ 0) l.files
  one_block_no_break = each_imp (λ f p e. omega (arith, p, ap ones e, ones_power 0)) file-breaks

  -- ---- the fewest

  -- no division into powers of two has fewer pieces: of a file's n blocks, and of the f free ones
  pub sound_fewest : FewestPieces 2 l
  sound_fewest = record {
    files = each_imp (λ f p. per_one_fewest (file_blocks f) f.pieces p) file_pieces_ones;
    free = per_one_fewest (free_blocks l) l.free free_pieces_ones;
  }

  -- ---- 32 free blocks

  -- as many free blocks as a length are one free piece of that length
  pub length-free : (h : ℕ) → free_blocks l ≡ 2 ^ h → (a : ℕ) × (l.free ≡ section a h ∷ [])
  length-free h e = go l.free (s.free_count ∙ (ap ones e ∙ ones_power h)) (s.free_sum ∙ e)
    where
      go : (m : List Section) → length m ≡ 1 → block_count m ≡ 2 ^ h → (a : ℕ) × (m ≡ section a h ∷ [])
      go [] p q = absurd (omega arith)
      go (t ∷ []) p q =
          let e = length_unique t.height.value h (omega (arith, q)) in
          (t.first, ap (λ (x : Section). x ∷ []) (section_eta t h e))
      go (t ∷ u ∷ m) p q = absurd (omega arith)

  -- 32 free blocks are one section of height 5
  pub thirty_two_free : free_blocks l ≡ 32 → (a : ℕ) × (l.free ≡ section a 5 ∷ [])
  thirty_two_free e = length-free 5 e

  -- ---- the most pieces

  pub pieces_most : 2 ≤ k → Each (λ (f : File). length f.pieces ≤ k - 1) l.files
      × (length l.free ≤ k - 1)
  pieces_most two = (
    each_imp
        (λ f p. omega (
          arith,
          p.0,
          ones_most (k - 1) (file_blocks f) (omega arith) (omega (arith, p.1, s.pages_fit, s.most_blocks)),
        ))
        (each_and s.file_count (sum_ge file_blocks l.files)),
    omega (arith, s.free_count, ones_most (k - 1) (free_blocks l) (omega arith) (omega (arith, s.most_blocks))),
  )

-- at most 12 with the heights of version 1, and 20 with those of version 2
pub twelve_pieces_most : (l : Layout) → Sound 13 l
    → Each (λ (f : File). length f.pieces ≤ 12) l.files × (length l.free ≤ 12)
twelve_pieces_most l s = pieces_most 13 l s (omega arith)

pub twenty_pieces_most : (l : Layout) → Sound 21 l
    → Each (λ (f : File). length f.pieces ≤ 20) l.files × (length l.free ≤ 20)
twenty_pieces_most l s = pieces_most 21 l s (omega arith)

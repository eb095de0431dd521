-- Pages fill a file's pieces one after another; a sound file has its longest piece first. Assumes nothing.
use mathlib.Core.List.{List, [], ◌∷◌}
use mathlib.Core.Path.{◌≡◌, ap, refl, subst}
use Prim.Native.Nat.{◌<◌, suc, zero, ℕ}
use native.Mathlib.Omega.{arith}
use lib.ListN.{drop, length, take}
use lib.Seq.{drop_at, take_at}
use Rattle.layout.proofs.Lists.{each_imp}
use Rattle.layout.specs.Layout.{File, Layout, block_run, blocks_of}
use Rattle.layout.specs.Lists.{Each, Pairwise, next}
use Rattle.layout.specs.Sound.{Sound}
use Rattle.section.specs.Sections.{length_of}
use Rattle.section.specs.declared.Section.{Section}

length_run : (n x : ℕ) → length (block_run x n) ≡ n
unfolding block_run
length_run zero x = refl
length_run (suc n) x = ap suc (length_run n (suc x))

-- the first pages are in the first piece, in the order of its blocks
pub first_piece_first : (s : Section) (l : List Section)
    → take (length_of s) (blocks_of (s ∷ l)) ≡ block_run s.first (length_of s)
unfolding blocks_of
first_piece_first s l =
    take_at (block_run s.first (length_of s)) (blocks_of l) (length_of s) (length_run (length_of s) s.first)

-- and the later pages in the later pieces
pub later_pieces_later : (s : Section) (l : List Section) → drop (length_of s) (blocks_of (s ∷ l)) ≡ blocks_of l
unfolding blocks_of
later_pieces_later s l =
    drop_at (block_run s.first (length_of s)) (blocks_of l) (length_of s) (length_run (length_of s) s.first)

-- the first piece of a sound file is its longest
pub first_piece_longest : (k : ℕ) (l : Layout) → Sound k l
    → Each
    (λ (f : File). (s : Section) (r : List Section) → f.pieces ≡ s ∷ r
    → Each (λ (t : Section). length_of t < length_of s) r)
    l.files
first_piece_longest k l sound = each_imp (λ f p s r e. go f.pieces p s r e) sound.page_order
  where
    go : (m : List Section) → Pairwise (λ (s t : Section). length_of t < length_of s) m
        → (s : Section) (r : List Section) → m ≡ s ∷ r
        → Each (λ (t : Section). length_of t < length_of s) r
    go [] p s r e = absurd (let z : ◌≡◌ {A = ℕ} 0 1 = cc in omega arith)
    go (t ∷ m) (next q p) s r e =
        let head : t ≡ s = cc in
        let tail : m ≡ r = cc in
        subst (λ x. Each (λ (y : Section). length_of y < length_of s) x) tail
        (subst (λ x. Each (λ (y : Section). length_of y < length_of x) m) head q)

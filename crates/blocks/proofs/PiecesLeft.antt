-- The pieces of a file that are left to pass on the way to a page: their blocks from the page that is left on are
-- those of all pieces from the page that is sought on. Assumes nothing.
use mathlib.Core.List.{List, [], ◌∷◌}
use mathlib.Core.Path.{◌∙◌, ◌≡◌, ap, sym}
use Prim.Native.Nat.{◌+◌, ◌-◌, ◌<◌, ◌≤◌, ℕ}
use native.Mathlib.Omega.{arith}
use lib.ListN.{get_or-append, drop, get_or, length, length-drop}
use lib.Seq.{drop_at, drop-drop, get_or-drop}
use Rattle.blocks.proofs.DiskPieces.{get_d_run, length-block_run}
use Rattle.layout.specs.Layout.{block_run, blocks_of}
use Rattle.section.specs.Sections.{length_of}
use Rattle.section.specs.declared.Section.{Section}

-- no page is left behind the last piece
pub run_past : (l m : List Section) (k r : ℕ) → m ≡ [] → drop r (blocks_of m) ≡ drop k (blocks_of l)
    → length (blocks_of l) ≤ k
unfolding blocks_of
run_past l m k r e v = omega (
  arith,
  length-drop k (blocks_of l),
  ap length v,
  ap (λ z. length (drop r (blocks_of z))) e,
  length-drop r (blocks_of []),
)

-- the blocks of the pieces l from page k on are those of the piece s and of the pieces m behind it from page r on
module _ (s : Section) (l m : List Section) (k r : ℕ) (v : drop r (blocks_of (s ∷ m)) ≡ drop k (blocks_of l)) where
  -- the page is in s: its blocks from there on hold the pages from k on
  pub rest_here : (i : ℕ) → r + i < length_of s → s.first + r + i ≡ get_or (blocks_of l) (k + i) 0
  unfolding blocks_of
  rest_here i h =
      let x : s.first + r + i ≡ s.first + (r + i) = omega arith in
      x ∙ (sym (get_d_run (length_of s) s.first (r + i) h)
      ∙ (sym (get_or-append (block_run s.first (length_of s)) (blocks_of m) 0 (r + i)
      (omega (arith, length-block_run (length_of s) s.first)))
      ∙ (sym (get_or-drop r (blocks_of (s ∷ m)) i 0)
      ∙ (ap (λ z. get_or z i 0) v ∙ get_or-drop k (blocks_of l) i 0))))

  -- it is in a later one
  pub rest_later : length_of s ≤ r → drop (r - length_of s) (blocks_of m) ≡ drop k (blocks_of l)
  unfolding blocks_of
  rest_later h =
      let x : length_of s + (r - length_of s) ≡ r = omega arith in
      ap (drop (r - length_of s))
      (sym (drop_at (block_run s.first (length_of s)) (blocks_of m) (length_of s)
      (length-block_run (length_of s) s.first)))
      ∙ (drop-drop (r - length_of s) (length_of s) (blocks_of (s ∷ m))
      ∙ (ap (λ z. drop z (blocks_of (s ∷ m))) x ∙ v))

-- A block stored byte by byte: what the disk is after each byte, and what is read from it meanwhile. Assumes
-- nothing.
use mathlib.Core.List.{List, ◌++◌, append_assoc}
use mathlib.Core.Path.{◌∙◌, ◌≡◌, ap, ap₂, sym}
use Prim.Native.Nat.{◌*◌, ◌+◌, ◌-◌, ◌<◌, ◌≤◌, ℕ}
use native.Mathlib.Decide.{dec_lt}
use native.Mathlib.Numerals.{add-one}
use native.Mathlib.Omega.{arith}
use lib.ListN.{get_or-append, drop, get_or, length, set, take}
use lib.Seq.{get_or-append-add, get_or-drop, get_or-take, length_paste_head, length-take-le, paste, paste-suc}
use lib.Seq.{paste-zero}
use lib.Seq.{take_all}
use Rattle.blocks.specs.DiskCode.{HasBlock}
use Rattle.manager.proofs.Blocks.{block-length}
use Rattle.manager.specs.Disk.{block, store_block}
use Rattle.section.specs.Limits.{block_size}

pub get_d_append_past : (p q : List ℕ) (n k : ℕ) → length p ≡ n → n ≤ k → get_or (p ++ q) k 0 ≡ get_or q (k - n) 0
get_d_append_past p q n k e h =
    let j : k ≡ length p + (k - n) = omega arith in
    ap (λ i. get_or (p ++ q) i 0) j ∙ get_or-append-add p q (k - n) 0

-- what n elements pasted at a place leave as it was
module _ (d s : List ℕ) (at n k : ℕ) (hd : at + n ≤ length d) (hs : n ≤ length s) where
  head : length (take at d ++ take n s) ≡ at + n
  head = length_paste_head d at s n (omega arith) hs

  paste_before : k < at → get_or (paste d at s n) k 0 ≡ get_or d k 0
  paste_before h =
      get_or-append (take at d ++ take n s) (drop (at + n) d) 0 k (omega (arith, head))
      ∙ get_or-append (take at d) (take n s) 0 k (omega (arith, length-take-le at d (omega arith)))
      ∙ get_or-take at d k 0 h

  paste_after : at + n ≤ k → get_or (paste d at s n) k 0 ≡ get_or d k 0
  paste_after h =
      let j : at + n + (k - (at + n)) ≡ k = omega arith in
      get_d_append_past (take at d ++ take n s) (drop (at + n) d) (at + n) k head h
      ∙ get_or-drop (at + n) d (k - (at + n)) 0 ∙ ap (λ i. get_or d i 0) j

pub get_d_block : (d : List ℕ) (a i : ℕ) → i < block_size → get_or d (block_size * a + i) 0 ≡ get_or (block d a) i 0
get_d_block d a i h = sym (get_or-take block_size (drop (block_size * a) d) i 0 h ∙ get_or-drop (block_size * a) d i 0)

-- the disk d with the first i bytes of p in block b
abbrev pub storing : List ℕ → ℕ → List ℕ → ℕ → List ℕ
storing d b p i = paste d (block_size * b) p i

module _ (d p : List ℕ) (b : ℕ) (hb : HasBlock (length d) b) (lp : length p ≡ block_size) where
  pub storing-none : d ≡ storing d b p 0
  storing-none = paste-zero d (block_size * b) p

  pub storing_more : (m : List ℕ) (i v : ℕ) → i < block_size → m ≡ storing d b p i → v ≡ get_or p i 0
      → set m (block_size * b + i) v ≡ storing d b p (i + 1)
  storing_more m i v l e f =
      ap₂ (λ x y. set x (block_size * b + i) y) e f
      ∙ (paste-suc d (block_size * b) p i 0 (omega arith) (omega arith)
      ∙ ap (storing d b p) (sym (add-one i)))

  pub storing-all : storing d b p block_size ≡ store_block d b p
  storing-all =
      ap (λ x. take (block_size * b) d ++ x ++ drop (block_size * b + block_size) d)
      (take_all block_size p (omega arith))
      ∙ append_assoc (take (block_size * b) d) p (drop (block_size * b + block_size) d)

-- a block that is copied within the disk is read as it was, even onto itself
module _ (d : List ℕ) (a b : ℕ) (ha : HasBlock (length d) a) (hb : HasBlock (length d) b) where
  pub source_kept : (m : List ℕ) (i : ℕ) → i < block_size → m ≡ storing d b (block d a) i
      → get_or m (block_size * a + i) 0 ≡ get_or (block d a) i 0
  source_kept m i l e =
      ap (λ x. get_or x (block_size * a + i) 0) e ∙ (go (dec_lt a b) ∙ get_d_block d a i l)
    where
      go : Dec (a < b) → get_or (storing d b (block d a) i) (block_size * a + i) 0 ≡ get_or d (block_size * a + i) 0
      go (yes h) =
          paste_before d (block d a) (block_size * b) i (block_size * a + i) (omega arith)
          (omega (arith, block-length d a ha)) (omega arith)
      go (no h) =
          paste_after d (block d a) (block_size * b) i (block_size * a + i) (omega arith)
          (omega (arith, block-length d a ha)) (omega arith)

-- Blocks of a disk: what storing and copying keep. Assumes nothing.
use mathlib.Core.Bool.{Bool, cond, false, true}
use mathlib.Core.List.{List, ◌++◌, append_assoc}
use mathlib.Core.Path.{◌∙◌, ◌≡◌, ap, refl, sym}
use Prim.Native.Nat.{◌*◌, ◌+◌, ◌-◌, ◌<◌, ◌≤◌, ℕ}
use native.Mathlib.Decide.{dec_lt}
use native.Mathlib.Omega.{arith}
use lib.Dec.{eqb}
use lib.ListN.{drop, length, length-append, length-drop, length-take, take, take-append-drop}
use lib.Seq.{drop-append-le, drop_at, drop-drop, take-append-le, take_at}
use borrow.Author.Tests.{eqb-false, eqb-true}
use Rattle.layout.specs.Lists.{Each, done, more}
use Rattle.layout.specs.Merges.{InDisk, origin}
use Rattle.layout.specs.Removing.{Copy}
use Rattle.manager.specs.Disk.{block, run_copies, store_block}
use Rattle.section.specs.Limits.{block_size}

module _ (i : ℕ) (A Z : List ℕ) (la : length A ≡ block_size * i) where
  before : (X : List ℕ) (j : ℕ) → j < i → block (A ++ X) j ≡ block A j
  before X j p =
      ap (take block_size) (drop-append-le (block_size * j) A X (omega arith))
      ∙ take-append-le block_size (drop (block_size * j) A) X (omega (arith, length-drop (block_size * j) A))

  behind : (X : List ℕ) (j : ℕ) → length X ≡ block_size → i < j
      → block (A ++ (X ++ Z)) j ≡ take block_size (drop (block_size * j - (block_size * i + block_size)) Z)
  behind X j lx p =
      ap (take block_size)
      (ap (λ z. drop z (A ++ (X ++ Z))) split
      ∙ (sym (drop-drop (block_size * j - (block_size * i + block_size)) (block_size * i + block_size) (A ++ (X ++ Z)))
      ∙ ap (drop (block_size * j - (block_size * i + block_size)))
      (ap (drop (block_size * i + block_size)) (sym (append_assoc A X Z))
      ∙ drop_at (A ++ X) Z (block_size * i + block_size) (length-append A X ∙ omega arith))))
    where
      split : block_size * j ≡ (block_size * i + block_size) + (block_size * j - (block_size * i + block_size))
      split = omega arith

  other : (X Y : List ℕ) (j : ℕ) → length X ≡ block_size → length Y ≡ block_size → (j ≡ i → ⊥)
      → block (A ++ (X ++ Z)) j ≡ block (A ++ (Y ++ Z)) j
  other X Y j lx ly ne = go (dec_lt j i)
    where
      go : Dec (j < i) → block (A ++ (X ++ Z)) j ≡ block (A ++ (Y ++ Z)) j
      go (yes p) = before (X ++ Z) j p ∙ sym (before (Y ++ Z) j p)
      go (no p) = behind X j lx (omega arith) ∙ sym (behind Y j ly (omega arith))

module _ (d : List ℕ) (i : ℕ) (fits : block_size * i + block_size ≤ length d) where
  head_length : length (take (block_size * i) d) ≡ block_size * i
  head_length = length-take (block_size * i) d ∙ omega arith

  pub block-length : length (block d i) ≡ block_size
  block-length = length-take block_size (drop (block_size * i) d) ∙ omega (arith, length-drop (block_size * i) d)

  parts : d ≡ take (block_size * i) d ++ (block d i ++ drop (block_size * i + block_size) d)
  parts =
      sym (ap (λ z. take (block_size * i) d ++ z)
      (ap (λ z. block d i ++ z) (sym (drop-drop block_size (block_size * i) d))
      ∙ take-append-drop block_size (drop (block_size * i) d))
      ∙ take-append-drop (block_size * i) d)

  module _ (p : List ℕ) (lp : length p ≡ block_size) where
    pub store_length : length (store_block d i p) ≡ length d
    store_length = length-append (take (block_size * i) d) (p ++ drop (block_size * i + block_size) d) ∙ (omega (
      arith,
      length-append p (drop (block_size * i + block_size) d),
      head_length,
      length-drop (block_size * i + block_size) d,
    ))

    pub store_same : block (store_block d i p) i ≡ p
    store_same =
        ap (take block_size)
        (drop_at (take (block_size * i) d) (p ++ drop (block_size * i + block_size) d) (block_size * i) head_length)
        ∙ take_at p (drop (block_size * i + block_size) d) block_size lp

    pub store_other : (j : ℕ) → (j ≡ i → ⊥) → block (store_block d i p) j ≡ block d j
    store_other j ne =
        other i (take (block_size * i) d) (drop (block_size * i + block_size) d) head_length p
        (block d i) j lp block-length ne
        ∙ ap (λ z. block z j) (sym parts)

module _ (n : ℕ) where
  one-length : (d : List ℕ) → length d ≡ block_size * n → (c : Copy) → InDisk n c
      → length (store_block d c.target (block d c.source)) ≡ length d
  one-length d ld c p =
      store_length d c.target (omega (arith, p.target)) (block d c.source)
      (block-length d c.source (omega (arith, p.source)))

  pub copies_length : (d : List ℕ) → length d ≡ block_size * n → {l : List Copy} → Each (InDisk n) l
      → length (run_copies d l) ≡ length d
  unfolding run_copies
  copies_length d ld done = refl
  copies_length d ld (more {a = c} p e) =
      copies_length (store_block d c.target (block d c.source)) (one-length d ld c p ∙ ld) e
      ∙ one-length d ld c p

  -- a list of copies, whatever it is, is a renaming of blocks
  pub copies-block : (d : List ℕ) → length d ≡ block_size * n → {l : List Copy} → Each (InDisk n) l → (x : ℕ)
      → block (run_copies d l) x ≡ block d (origin l x)
  unfolding run_copies origin
  copies-block d ld done x = refl
  copies-block d ld (more {a = c} {l = l} p e) x =
      copies-block (store_block d c.target (block d c.source)) (one-length d ld c p ∙ ld) e x
      ∙ go (eqb (origin l x) c.target) refl
    where
      ls : length (block d c.source) ≡ block_size
      ls = block-length d c.source (omega (arith, p.source))

      go : (t : Bool) → eqb (origin l x) c.target ≡ t
          → block (store_block d c.target (block d c.source)) (origin l x)
          ≡ block d (cond t c.source (origin l x))
      go true q =
          ap (block (store_block d c.target (block d c.source))) (eqb-true (origin l x) c.target q)
          ∙ store_same d c.target (omega (arith, p.target)) (block d c.source) ls
      go false q =
          store_other d c.target (omega (arith, p.target)) (block d c.source) ls (origin l x)
          (eqb-false (origin l x) c.target q)

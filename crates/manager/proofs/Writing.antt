-- Writing pages to the blocks of pieces: they are read back, and other blocks keep their bytes. Assumes nothing.
use mathlib.Core.List.{List, [], ◌∷◌, map}
use mathlib.Core.Path.{◌∙◌, ◌≡◌, ap₂, refl}
use Prim.Native.Nat.{◌*◌, ◌<◌, ◌≤◌, ℕ}
use native.Mathlib.Nat.{suc_inj}
use native.Mathlib.Omega.{arith}
use lib.ListN.{length}
use Rattle.layout.proofs.Lists.{sum-append}
use Rattle.layout.proofs.Occurs.{occurs, occurs-blocks, occurs-one}
use Rattle.layout.specs.Layout.{File, blocks_of, file_pieces, holds_block}
use Rattle.layout.specs.Lists.{Each, done, more, sum_of}
use Rattle.manager.proofs.Blocks.{store_length, store_other, store_same}
use Rattle.manager.specs.Disk.{block, pages_on, store_block, write_pages}
use Rattle.manager.specs.WholeList.{line_on}
use Rattle.section.specs.Limits.{block_size}
use Rattle.section.specs.declared.Section.{Section}

-- pages of block_size bytes
abbrev pub Paged : List (List ℕ) → Type 0
Paged ps = Each (λ (p : List ℕ). length p ≡ block_size) ps

pub write_length : (c : ℕ) (d : List ℕ) {bs : List ℕ} {ps : List (List ℕ)} → length d ≡ block_size * c
    → Each (λ b. b < c) bs → Paged ps → length (write_pages d bs ps) ≡ block_size * c
unfolding write_pages
write_length c d ld done q = ld
write_length c d ld (more p e) done = ld
write_length c d ld (more {a = b} p e) (more {a = x} q f) =
    write_length c (store_block d b x) (store_length d b (omega arith) x q ∙ ld) e f

pub write_other : (c : ℕ) (d : List ℕ) {bs : List ℕ} {ps : List (List ℕ)} → length d ≡ block_size * c
    → Each (λ b. b < c) bs → Paged ps → (x : ℕ) → occurs x bs ≡ 0 → block (write_pages d bs ps) x ≡ block d x
unfolding write_pages
write_other c d ld done q x o = refl
write_other c d ld (more p e) done x o = refl
write_other c d ld (more {a = b} p e) (more {a = y} q f) x o =
    write_other c (store_block d b y) (store_length d b (omega arith) y q ∙ ld) e f x (omega arith)
    ∙ store_other d b (omega arith) y q x (λ z. omega (arith, occurs-one x b z))

pub write_back : (c : ℕ) (d : List ℕ) {bs : List ℕ} {ps : List (List ℕ)} → length d ≡ block_size * c
    → Each (λ b. b < c) bs → Paged ps → length bs ≡ length ps → ((x : ℕ) → occurs x bs ≤ 1)
    → map (block (write_pages d bs ps)) bs ≡ ps
unfolding write_pages
write_back c d ld done done l o = refl
write_back c d ld done (more q f) l o = absurd (omega arith)
write_back c d ld (more p e) done l o = absurd (omega arith)
write_back c d ld (more {a = b} {l = bs} p e) (more {a = y} {l = ps} q f) l o =
    ap₂ (λ m n. m ∷ n)
    (write_other c (store_block d b y) (store_length d b (omega arith) y q ∙ ld) e f b
    (omega (arith, o b, occurs-one b b refl))
    ∙ store_same d b (omega arith) y q)
    (write_back c (store_block d b y) (store_length d b (omega arith) y q ∙ ld) e f (suc_inj l)
    (λ x. omega (arith, o x)))

-- files none of whose blocks is write_pages keep their lines
pub pages_same : (d d' : List ℕ) (l : List Section)
    → ((x : ℕ) → 1 ≤ sum_of (holds_block x) l → block d' x ≡ block d x) → pages_on d' l ≡ pages_on d l
unfolding pages_on
pages_same d d' l h = go (blocks_of l) (λ x p. h x (omega (arith, occurs-blocks x l)))
  where
    go : (bs : List ℕ) → ((x : ℕ) → 1 ≤ occurs x bs → block d' x ≡ block d x) → map (block d') bs ≡ map (block d) bs
    go [] k = refl
    go (b ∷ bs) k = ap₂ (λ m n. m ∷ n) (k b (omega (arith, occurs-one b b refl))) (go bs (λ x p. k x (omega arith)))

pub lines_same : (d d' : List ℕ) (fs : List File)
    → ((x : ℕ) → 1 ≤ sum_of (holds_block x) (file_pieces fs) → block d' x ≡ block d x)
    → map (line_on d') fs ≡ map (line_on d) fs
unfolding file_pieces
lines_same d d' [] h = refl
lines_same d d' (f ∷ fs) h =
    ap₂ (λ m n. m ∷ n) (λ i. record {
      id = f.id;
      pages =
          pages_same d d' f.pieces
          (λ x p. h x (omega (arith, sum-append (holds_block x) f.pieces (file_pieces fs)))) i;
    })
    (lines_same d d' fs (λ x p. h x (omega (arith, sum-append (holds_block x) f.pieces (file_pieces fs)))))

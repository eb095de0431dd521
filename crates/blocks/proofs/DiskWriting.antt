-- Pages written in a run of blocks, and piece by piece: what is left to write at each step. Assumes nothing.
use mathlib.Core.List.{List, [], ◌++◌, ◌∷◌}
use mathlib.Core.Path.{◌∙◌, ◌≡◌, ap, ap₂, refl, sym}
use Prim.Native.Nat.{◌*◌, ◌+◌, ◌-◌, ◌<◌, ◌≤◌, suc, zero, ℕ}
use native.Mathlib.Omega.{arith}
use lib.ListN.{drop, length, take}
use lib.Seq.{drop-drop}
use Rattle.blocks.proofs.DiskPieces.{length-block_run}
use Rattle.layout.specs.Layout.{block_count, block_run, blocks_of}
use Rattle.manager.specs.Disk.{block, cut_pages, page_count, store_block, write_pages}
use Rattle.section.specs.Limits.{block_size}
use Rattle.section.specs.Sections.{length_of}
use Rattle.section.specs.declared.Section.{Section}

-- what is to be written in n blocks from a on, from the page p of c on
abbrev pub writing : ℕ → ℕ → ℕ → List ℕ → List ℕ → List ℕ
writing a n p c d = write_pages d (block_run a n) (cut_pages n (drop (block_size * p) c))

module _ (a n p : ℕ) (c d : List ℕ) where
  pub writing_start : writing (a + 0) (n - 0) (p + 0) c d ≡ writing a n p c d
  writing_start =
      let x : a + 0 ≡ a = omega arith in
      let y : n - 0 ≡ n = omega arith in
      let z : p + 0 ≡ p = omega arith in
      ap₂ (λ (u v : ℕ). writing u v (p + 0) c d) x y ∙ ap (λ (w : ℕ). writing a n w c d) z

  pub writing_more : (i : ℕ) → i < n
      → writing (a + (i + 1)) (n - (i + 1)) (p + (i + 1)) c (store_block d (a + i) (block c (p + i)))
      ≡ writing (a + i) (n - i) (p + i) c d
  unfolding write_pages block_run cut_pages
  writing_more i l =
      let x : a + (i + 1) ≡ suc (a + i) = omega arith in
      let y : n - i ≡ suc (n - (i + 1)) = omega arith in
      let z : block_size * (p + (i + 1)) ≡ block_size * (p + i) + block_size = omega arith in
      let e = ap (λ k. drop k c) z ∙ sym (drop-drop block_size (block_size * (p + i)) c) in
      ap₂ (λ u v. write_pages (store_block d (a + i) (block c (p + i))) (block_run u (n - (i + 1)))
      (cut_pages (n - (i + 1)) v)) x e
      ∙ ap (λ k. writing (a + i) k (p + i) c d) (sym y)

  pub writing-end : (i : ℕ) → n ≤ i → d ≡ writing (a + i) (n - i) (p + i) c d
  unfolding write_pages block_run cut_pages
  writing-end i l =
      let y : n - i ≡ 0 = omega arith in
      ap (λ k. writing (a + i) k (p + i) c d) (sym y)

-- pages written to blocks one after another
write_append : (a b : List ℕ) (n k : ℕ) (d c : List ℕ) → length a ≡ n
    → write_pages d (a ++ b) (cut_pages (n + k) c)
    ≡ write_pages (write_pages d a (cut_pages n c)) b (cut_pages k (drop (block_size * n) c))
unfolding write_pages cut_pages
write_append [] b zero k d c e = let z : 0 + k ≡ k = omega arith in ap (λ t. write_pages d b (cut_pages t c)) z
write_append [] b (suc n) k d c e = absurd (omega arith)
write_append (x ∷ a) b zero k d c e = absurd (omega arith)
write_append (x ∷ a) b (suc n) k d c e =
    let z : suc n + k ≡ suc (n + k) = omega arith in
    let w : block_size + block_size * n ≡ block_size * suc n = omega arith in
    ap (λ t. write_pages d (x ∷ (a ++ b)) (cut_pages t c)) z
    ∙ (write_append a b n k (store_block d x (take block_size c)) (drop block_size c) (omega arith)
    ∙ ap (λ t. write_pages (write_pages (store_block d x (take block_size c)) a (cut_pages n (drop block_size c))) b
    (cut_pages k t)) (drop-drop (block_size * n) block_size c ∙ ap (λ t. drop t c) w))

-- the pieces l are still to be written, from the page p on
abbrev pub left_over : List Section → ℕ → List ℕ → List ℕ → List ℕ
left_over l p c d = write_pages d (blocks_of l) (cut_pages (block_count l) (drop (block_size * p) c))

-- one piece more
pub left_more : (s : Section) (l : List Section) (n p : ℕ) (c d d' : List ℕ) → n ≡ length_of s
    → d' ≡ writing s.first n p c d → left_over l (p + n) c d' ≡ left_over (s ∷ l) p c d
unfolding blocks_of
left_more s l n p c d d' e w =
    let z : block_size * p + block_size * n ≡ block_size * (p + n) = omega arith in
    let r = drop (block_size * p) c in
    ap₂ (λ x y. write_pages x (blocks_of l) (cut_pages (block_count l) y)) w
    (sym (drop-drop (block_size * n) (block_size * p) c ∙ ap (λ t. drop t c) z))
    ∙ (sym (write_append (block_run s.first n) (blocks_of l) n (block_count l) d r (length-block_run n s.first))
    ∙ ap (λ t. write_pages d (block_run s.first t ++ blocks_of l) (cut_pages (t + block_count l) r)) e)

pub left_end : (p : ℕ) (c d : List ℕ) → d ≡ left_over [] p c d
unfolding blocks_of write_pages
left_end p c d = refl

-- all pages of the content
pub left_all : (l : List Section) (c d : List ℕ) → block_size * block_count l ≡ length c
    → left_over l 0 c d ≡ write_pages d (blocks_of l) (cut_pages (page_count c) c)
left_all l c d s =
    let n : block_count l ≡ page_count c = omega arith in
    ap (λ k. write_pages d (blocks_of l) (cut_pages k c)) n

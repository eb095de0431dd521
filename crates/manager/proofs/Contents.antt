-- Contents and pages: the book's division is the manager's, and the pages of a content joined are the content.
-- Assumes nothing.
use mathlib.Core.Bool.{Bool, ◌&&◌, ◌||◌, false, not, true}
use mathlib.Core.List.{List, [], ◌++◌, ◌∷◌, map}
use mathlib.Core.Path.{◌∙◌, ◌≡◌, ap, ap₂, refl, sym}
use Prim.Native.Nat.{◌%◌, ◌*◌, ◌+◌, ◌≤◌, suc, zero, ℕ}
use native.Mathlib.Omega.{arith}
use lib.Dec.{eqb, leb}
use lib.ListN.{drop, length, length-append, length-drop, length-take, take, take-append-drop}
use lib.Seq.{drop-drop}
use borrow.Author.Tests.{eq-eqb, eqb-false, eqb-true, le-leb, leb-true, ne_eqb}
use Rattle.layout.specs.Lists.{done, more}
use Rattle.layout.specs.Merges.{rest}
use Rattle.manager.proofs.Writing.{Paged}
use Rattle.manager.specs.Book.{book_pages, bytes_of, content_pages, count_from, is_whole, page_bytes}
use Rattle.manager.specs.Conditions.{unpaged}
use Rattle.manager.specs.Disk.{cut_pages, join_pages, page_count}
use Rattle.section.proofs.Booleans.{and_true}
use Rattle.section.specs.Limits.{block_size}

-- the book's pages, from the k-th on
count_pages : (bs : List ℕ) (n k : ℕ)
    → map (λ i. take page_bytes (drop (page_bytes * i) bs)) (count_from k n) ≡ cut_pages n (drop (block_size * k) bs)
unfolding count_from cut_pages
count_pages bs zero k = refl
count_pages bs (suc n) k =
    let more : block_size * suc k ≡ block_size * k + block_size = omega arith in
    ap (λ z. take block_size (drop (block_size * k) bs) ∷ z)
    (count_pages bs n (suc k)
    ∙ ap (cut_pages n) (ap (λ z. drop z bs) more ∙ sym (drop-drop block_size (block_size * k) bs)))

-- the book divides a content as the manager does
pub content_pages_lem : (bs : List ℕ) → content_pages bs ≡ cut_pages (page_count bs) bs
unfolding content_pages
content_pages_lem bs = count_pages bs (page_count bs) 0

pub bytes-of : (l : List (List ℕ)) → bytes_of l ≡ join_pages l
unfolding bytes_of join_pages
bytes-of [] = refl
bytes-of (p ∷ l) = ap (λ z. p ++ z) (bytes-of l)

-- what the conditions say of a length
pub paged_length : (bs : List ℕ) → unpaged bs ≡ false → (1 ≤ page_count bs) × (block_size * page_count bs ≡ length bs)
paged_length bs e = go (eqb (length bs) 0) refl (eqb (length bs % block_size) 0) refl e
  where
    go : (s : Bool) → eqb (length bs) 0 ≡ s → (t : Bool) → eqb (length bs % block_size) 0 ≡ t → (s || not t) ≡ false
        → (1 ≤ page_count bs) × (block_size * page_count bs ≡ length bs)
    go true p t q x = absurd (let z : ◌≡◌ {A = ℕ} 0 1 = cc in omega arith)
    go false p false q x = absurd (let z : ◌≡◌ {A = ℕ} 0 1 = cc in omega arith)
    go false p true q x =
        let a = eqb-true (length bs % block_size) 0 q in
        let b = eqb-false (length bs) 0 p in
        (omega (arith, b), omega arith)

pub length_paged : (bs : List ℕ) (c : ℕ) → 1 ≤ c → length bs ≡ block_size * c
    → (unpaged bs ≡ false) × (page_count bs ≡ c)
length_paged bs c low e =
    let count : page_count bs ≡ c = omega arith in
    let rest : length bs % block_size ≡ 0 = omega arith in (
      ap₂ (λ s t. s || not t) (ne_eqb (length bs) 0 (λ z. omega arith)) (eq-eqb (length bs % block_size) 0 rest),
      count,
    )

pub whole_unpaged : (bs : List ℕ) → not (is_whole bs) ≡ unpaged bs
whole_unpaged bs = go (unpaged bs) refl
  where
    go : (t : Bool) → unpaged bs ≡ t → not (is_whole bs) ≡ t
    go false e =
        let p = paged_length bs e in
        ap not (ap₂ (λ s t. s && t) (le-leb 1 (book_pages bs) p.0)
        (eq-eqb (page_bytes * book_pages bs) (length bs) p.1))
    go true e = go2 (is_whole bs) refl
      where
        go2 : (s : Bool) → is_whole bs ≡ s → not s ≡ true
        go2 false q = refl
        go2 true q =
            let w = and_true (leb 1 (book_pages bs)) (eqb (page_bytes * book_pages bs) (length bs)) q in
            let n = leb-true 1 (book_pages bs) w.0 in
            let m = eqb-true (page_bytes * book_pages bs) (length bs) w.1 in
            let f = (length_paged bs (book_pages bs) n (sym m)).0 in
            absurd (let z : ◌≡◌ {A = ℕ} 0 1 = cc in omega arith)

-- ---- pages of a content

pub cut_paged : (n : ℕ) (bs : List ℕ) → block_size * n ≤ length bs
    → Paged (cut_pages n bs) × (length (cut_pages n bs) ≡ n)
unfolding cut_pages
cut_paged zero bs p = (done, refl)
cut_paged (suc n) bs p =
    let x = cut_paged n (drop block_size bs) (omega (arith, length-drop block_size bs)) in
    (more {a = take block_size bs} (length-take block_size bs ∙ omega arith) x.0, ap suc x.1)

join_cut : (n : ℕ) (bs : List ℕ) → length bs ≡ block_size * n → join_pages (cut_pages n bs) ≡ bs
unfolding join_pages cut_pages
join_cut zero [] e = refl
join_cut zero (b ∷ bs) e = absurd (omega arith)
join_cut (suc n) bs e =
    ap (λ z. take block_size bs ++ z) (join_cut n (drop block_size bs) (length-drop block_size bs ∙ omega arith))
    ∙ take-append-drop block_size bs

-- the pages of a content joined are the content
pub pages_joined : (bs : List ℕ) → unpaged bs ≡ false → join_pages (cut_pages (page_count bs) bs) ≡ bs
pages_joined bs e = join_cut (page_count bs) bs (sym (paged_length bs e).1)

-- joined pages are as long as so many blocks
pub join_length : {l : List (List ℕ)} → Paged l → length (join_pages l) ≡ block_size * length l
unfolding join_pages
join_length done = omega arith
join_length (more {a = p} {l = l} q e) = omega (arith, length-append p (join_pages l), join_length e)

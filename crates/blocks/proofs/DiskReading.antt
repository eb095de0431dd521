-- Pages read one by one: what the output is after each. Assumes nothing.
use mathlib.Core.List.{List, [], ◌++◌, ◌∷◌, append_assoc, append-nil, map}
use mathlib.Core.Path.{◌∙◌, ◌≡◌, ap, ap₂, refl, sym}
use Prim.Native.Nat.{◌*◌, ◌+◌, ◌<◌, suc, zero, ℕ}
use native.Mathlib.Numerals.{add-one}
use native.Mathlib.Omega.{arith}
use lib.ListN.{drop, drop_of_length-le, get_or, length, length-append, length-drop, take}
use lib.Seq.{drop_at, drop-drop, get_or-drop, take_at, take-suc}
use Rattle.layout.proofs.Occurs.{length-blocks}
use Rattle.layout.specs.Layout.{block_count, blocks_of}
use Rattle.manager.proofs.Lines.{pages-length}
use Rattle.manager.specs.Disk.{block, join_pages, pages_on, store_block}
use Rattle.section.specs.Limits.{block_size}
use Rattle.section.specs.declared.Section.{Section}

join_snoc : (l : List (List ℕ)) (p : List ℕ) → join_pages (l ++ (p ∷ [])) ≡ join_pages l ++ p
unfolding join_pages
join_snoc [] p = append-nil p
join_snoc (x ∷ l) p = ap (λ z. x ++ z) (join_snoc l p) ∙ sym (append_assoc x (join_pages l) p)

-- the output o with the first i of the pages
pub record Filled (ps : List (List ℕ)) (o o' : List ℕ) (i : ℕ) : Type 0 where
  pub bytes : o' ≡ join_pages (take i ps) ++ drop (block_size * i) o
  pub size : length (join_pages (take i ps)) ≡ block_size * i

pub filled_start : (ps : List (List ℕ)) (o : List ℕ) → Filled ps o o 0
unfolding join_pages
filled_start ps o = record { bytes = refl; size = refl }

module _ (ps : List (List ℕ)) (o o' : List ℕ) (i : ℕ) (f : Filled ps o o' i) where
  -- one page more
  pub filled_more : (p o'' : List ℕ) → i < length ps → p ≡ get_or ps i [] → length p ≡ block_size
      → o'' ≡ store_block o' i p → Filled ps o o'' (i + 1)
  filled_more p o'' l e lp w = record {
    bytes = w ∙ (ap (λ z. store_block z i p) f.bytes
        ∙ (ap₂ (λ x y. x ++ (p ++ y)) (take_at J R (block_size * i) f.size) rest
        ∙ (sym (append_assoc J p (drop (block_size * (i + 1)) o))
        ∙ ap (λ z. z ++ drop (block_size * (i + 1)) o) (sym next))));
    size = ap length next ∙ (length-append J p ∙ omega (arith, f.size));
  }
    where
      J : List ℕ
      J = join_pages (take i ps)

      R : List ℕ
      R = drop (block_size * i) o

      next : join_pages (take (i + 1) ps) ≡ J ++ p
      next =
          ap (λ k. join_pages (take k ps)) (add-one i)
          ∙ (ap join_pages (take-suc ps i [] l)
          ∙ (join_snoc (take i ps) (get_or ps i []) ∙ ap (λ z. J ++ z) (sym e)))

      rest : drop (block_size * i + block_size) (J ++ R) ≡ drop (block_size * (i + 1)) o
      rest =
          let z : block_size * i + block_size ≡ block_size * (i + 1) = omega arith in
          sym (drop-drop block_size (block_size * i) (J ++ R))
          ∙ (ap (drop block_size) (drop_at J R (block_size * i) f.size)
          ∙ (drop-drop block_size (block_size * i) o ∙ ap (λ k. drop k o) z))

  pub filled-end : (n : ℕ) → i ≡ n → length o ≡ block_size * n → o' ≡ join_pages (take n ps)
  filled-end n e l =
      f.bytes
      ∙ (ap₂ (λ k z. join_pages (take k ps) ++ z) e (drop_of_length-le o {i = block_size * i} (omega arith))
      ∙ append-nil (join_pages (take n ps)))

-- the pages of a file from `first` on
abbrev pub pages_from : List ℕ → List Section → ℕ → List (List ℕ)
pages_from d l first = drop first (pages_on d l)

get_d_map : (f : ℕ → List ℕ) (l : List ℕ) (k : ℕ) → k < length l → f (get_or l k 0) ≡ get_or (map f l) k []
get_d_map f [] k h = absurd (omega arith)
get_d_map f (a ∷ l) zero h = refl
get_d_map f (a ∷ l) (suc k) h = get_d_map f l k (omega arith)

module _ (d : List ℕ) (l : List Section) (first i : ℕ) (h : first + i < block_count l) where
  pub page_there : i < length (pages_from d l first)
  page_there = omega (arith, length-drop first (pages_on d l), pages-length d l)

  pub page-bytes : (b : ℕ) → b ≡ get_or (blocks_of l) (first + i) 0 → block d b ≡ get_or (pages_from d l first) i []
  unfolding pages_on
  page-bytes b e =
      ap (block d) e
      ∙ (get_d_map (block d) (blocks_of l) (first + i) (omega (arith, length-blocks l))
      ∙ sym (get_or-drop first (map (block d) (blocks_of l)) i []))

-- What became of files over some block copies: each page came from its old block, and to no lower one. Assumes
-- nothing.
use mathlib.Core.List.{List, [], ◌++◌, ◌∷◌, map}
use mathlib.Core.Path.{◌∙◌, ◌≡◌, ap, ap₂, refl, subst, sym}
use Prim.Native.Nat.{◌+◌, ◌<◌, ◌^◌, ◌≤◌, suc, zero, ℕ}
use native.Mathlib.Omega.{arith}
use Rattle.layout.proofs.Lists.{each_left, each_right, map-append}
use Rattle.layout.proofs.Origins.{origin-append}
use Rattle.layout.proofs.Zipped.{map-id, map-map, zipped_append, zipped_refl, zipped_trans}
use Rattle.layout.specs.Layout.{File, block_run, blocks_of, file_pieces}
use Rattle.layout.specs.Lists.{Each, Zipped, both, done, ends, more}
use Rattle.layout.specs.Merges.{Moved, origin}
use Rattle.layout.specs.Removing.{Copy, moved_file}
use Rattle.layout.specs.Sums.{shape}
use Rattle.section.proofs.Moves.{moved-height}
use Rattle.section.specs.Sections.{length_of, moved_into}
use Rattle.section.specs.declared.Section.{Section}

pub moved_trans : (a b : List Copy) (f g k : File) → Moved a f g → Moved b g k → Moved (a ++ b) f k
moved_trans a b f g k p q = record {
  id = q.id ∙ p.id;
  heights = q.heights ∙ p.heights;
  pages =
      map-map (origin a) (origin b) (origin (a ++ b)) (origin-append a b) (blocks_of k.pieces)
      ∙ (ap (map (origin a)) q.pages ∙ p.pages);
  rises = zipped_trans (λ x y z r s. omega arith) p.rises q.rises;
}

pub moved_refl : (f : File) → Moved [] f f
unfolding origin
moved_refl f = record {
  id = refl;
  heights = refl;
  pages = map-id (blocks_of f.pieces);
  rises = zipped_refl (λ x. omega arith) (blocks_of f.pieces);
}

-- A merge: how it acts on one section, and so on the files.
abbrev pub Goes : List Copy → (Section → Section) → Section → Type 0
Goes cs f s =
    ((i : ℕ) → i < 2 ^ s.height.value → origin cs ((f s).first + i) ≡ s.first + i) × (s.first ≤ (f s).first)

up_map : (f : ℕ → ℕ) (n x y : ℕ) → ((i : ℕ) → i < n → f (y + i) ≡ x + i) → map f (block_run y n) ≡ block_run x n
unfolding block_run
up_map f zero x y e = refl
up_map f (suc n) x y e =
    ap₂ (λ p q. p ∷ q) (ap f y0 ∙ (e 0 (omega arith) ∙ x0))
    (up_map f n (suc x) (suc y) (λ i p. ap f (ys i) ∙ (e (suc i) (omega arith) ∙ xs i)))
  where
    y0 : y ≡ y + 0
    y0 = omega arith

    x0 : x + 0 ≡ x
    x0 = omega arith

    ys : (i : ℕ) → suc y + i ≡ y + suc i
    ys i = omega arith

    xs : (i : ℕ) → x + suc i ≡ suc x + i
    xs i = omega arith

up_rises : (n x y : ℕ) → x ≤ y → Zipped (λ a b. a ≤ b) (block_run x n) (block_run y n)
unfolding block_run
up_rises zero x y p = ends
up_rises (suc n) x y p = both p (up_rises n (suc x) (suc y) (omega arith))

module _ (b u : Section) where
  moved_length : (s : Section) → length_of (moved_into b u s) ≡ length_of s
  moved_length s = ap (λ n. 2 ^ n) (moved-height b u s)

  pieces_origins : (cs : List Copy) {l : List Section} → Each (Goes cs (moved_into b u)) l
      → map (origin cs) (blocks_of (map (moved_into b u) l)) ≡ blocks_of l
  unfolding blocks_of
  pieces_origins cs done = refl
  pieces_origins cs (more {a = s} {l = l} p e) =
      map-append (origin cs) (block_run (moved_into b u s).first (length_of (moved_into b u s)))
      (blocks_of (map (moved_into b u) l))
      ∙ ap₂ (λ x y. x ++ y)
      (ap (λ n. map (origin cs) (block_run (moved_into b u s).first n)) (moved_length s)
      ∙ up_map (origin cs) (length_of s) s.first (moved_into b u s).first p.0)
      (pieces_origins cs e)

  pieces_rise : (cs : List Copy) {l : List Section} → Each (Goes cs (moved_into b u)) l
      → Zipped (λ x y. x ≤ y) (blocks_of l) (blocks_of (map (moved_into b u) l))
  unfolding blocks_of
  pieces_rise cs done = ends
  pieces_rise cs (more {a = s} {l = l} p e) =
      zipped_append
      (subst (λ n. Zipped (λ x y. x ≤ y) (block_run s.first (length_of s)) (block_run (moved_into b u s).first n))
      (sym (moved_length s)) (up_rises (length_of s) s.first (moved_into b u s).first p.1))
      (pieces_rise cs e)

  heights_moved : (l : List Section)
      → map (λ (s : Section). s.height.value) (map (moved_into b u) l) ≡ map (λ (s : Section). s.height.value) l
  heights_moved [] = refl
  heights_moved (s ∷ l) = ap₂ (λ x y. x ∷ y) (moved-height b u s) (heights_moved l)

  pub files-moved : (cs : List Copy) (fs : List File) → Each (Goes cs (moved_into b u)) (file_pieces fs)
      → Zipped (Moved cs) fs (map (moved_file b u) fs)
  unfolding file_pieces
  files-moved cs [] e = ends
  files-moved cs (f ∷ fs) e =
      let p = each_left f.pieces (file_pieces fs) e in
      both (record {
        id = refl;
        heights = heights_moved f.pieces;
        pages = pieces_origins cs p;
        rises = pieces_rise cs p;
      })
      (files-moved cs fs (each_right f.pieces (file_pieces fs) e))

pub moved_shapes : {cs : List Copy} {fs gs : List File} → Zipped (Moved cs) fs gs → map shape gs ≡ map shape fs
moved_shapes ends = refl
moved_shapes (both p b) = ap₂ (λ x y. x ∷ y) (λ i. record { id = p.id i; heights = p.heights i }) (moved_shapes b)

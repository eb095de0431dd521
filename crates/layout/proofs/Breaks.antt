-- The breaks of pieces in page order: the rows of the table, computed, which pin the definitions within this crate; one
-- equation for each case; the limit, the pieces less one; and the paper's count over pages. Assumes nothing.
use mathlib.Core.Bool.{Bool, false, not, true}
use mathlib.Core.List.{List, [], ◌++◌, ◌∷◌, map}
use mathlib.Core.Path.{◌∙◌, ◌≡◌, ap, ap₂, refl, subst, sym}
use Prim.Native.Nat.{◌+◌, ◌-◌, ◌≤◌, suc, zero, ℕ}
use native.Mathlib.Omega.{arith}
use lib.Count.{ones, ones_in}
use lib.Dec.{eqb}
use lib.ListN.{length}
use lib.Pow.{pow_pos}
use borrow.Author.Tests.{eq-eqb, ne_eqb}
use Rattle.layout.specs.BreakRows.{Row, break_rows}
use Rattle.layout.specs.Layout.{block_count, block_run, blocks_of, break_between, breaks_of, page_breaks}
use Rattle.layout.specs.Lists.{indicator}
use Rattle.section.specs.Sections.{end_of, length_of}
use Rattle.section.specs.declared.Section.{Section}

-- ---- by literal numbers

-- the breaks of the pieces
pub breaks-computed : map (λ (r : Row). breaks_of r.pieces) break_rows ≡ map (λ (r : Row). r.breaks) break_rows
unfolding breaks_of
breaks-computed = refl

-- the blocks of the pages in order, and the breaks at these
pub page-blocks-computed : map (λ (r : Row). blocks_of r.pieces) break_rows ≡ map (λ (r : Row). r.blocks) break_rows
unfolding blocks_of block_run
page-blocks-computed = refl

pub page-breaks-computed : map (λ (r : Row). page_breaks r.blocks) break_rows ≡ map (λ (r : Row). r.breaks) break_rows
page-breaks-computed = refl

-- the ones of n less one
pub limits_computed :
    map (λ (r : Row). ones (block_count r.pieces) - 1) break_rows ≡ map (λ (r : Row). r.limit) break_rows
unfolding ones ones_in
limits_computed = refl

-- ---- one equation for each case

pub breaks-none : breaks_of [] ≡ 0
unfolding breaks_of
breaks-none = refl

pub breaks-one : (s : Section) → breaks_of (s ∷ []) ≡ 0
unfolding breaks_of
breaks-one s = refl

pub breaks-next : (s t : Section) (l : List Section) → breaks_of (s ∷ t ∷ l) ≡ break_between s t + breaks_of (t ∷ l)
unfolding breaks_of
breaks-next s t l = refl

-- between two pieces, by whether the one starts where the other ends
pub break_adjoins : (s t : Section) → t.first ≡ end_of s → break_between s t ≡ 0
break_adjoins s t e = ap (λ b. indicator (not b)) (eq-eqb t.first (end_of s) e)

pub break_apart : (s t : Section) → (t.first ≡ end_of s → ⊥) → break_between s t ≡ 1
break_apart s t n = ap (λ b. indicator (not b)) (ne_eqb t.first (end_of s) n)

-- ---- the limit

pub indicator_most : (b : Bool) → indicator b ≤ 1
indicator_most true = omega arith
indicator_most false = omega arith

pub break_most : (s t : Section) → break_between s t ≤ 1
break_most s t = indicator_most (not (eqb t.first (end_of s)))

-- one before each piece but the first, at most
pub breaks_most : (l : List Section) → breaks_of l ≤ length l - 1
breaks_most [] = omega (arith, breaks-none)
breaks_most (s ∷ []) = omega (arith, breaks-one s)
breaks_most (s ∷ t ∷ l) = omega (arith, breaks-next s t l, break_most s t, breaks_most (t ∷ l))

-- ---- the paper's count

-- no break within a run of blocks
run_breaks : (n x : ℕ) (l : List ℕ) → page_breaks (block_run x (suc n) ++ l) ≡ page_breaks ((x + n) ∷ l)
unfolding block_run
run_breaks zero x l = ap (λ y. page_breaks (y ∷ l)) (omega arith)
run_breaks (suc n) x l =
    let same : suc x + n ≡ x + suc n = omega arith in
    let adjoins : indicator (not (eqb (suc x) (suc x))) ≡ 0 =
    ap (λ b. indicator (not b)) (eq-eqb (suc x) (suc x) refl) in
    omega (arith, adjoins, run_breaks n (suc x) l, ap (λ y. page_breaks (y ∷ l)) same)

-- a length is one more than some number
length_some : (s : Section) → length_of s ≡ suc (length_of s - 1)
length_some s = omega (arith, pow_pos s.height.value)

-- the blocks of a piece, read before the blocks l
piece_breaks : (s : Section) (l : List ℕ)
    → page_breaks (block_run s.first (length_of s) ++ l) ≡ page_breaks ((end_of s - 1) ∷ l)
piece_breaks s l =
    ap (λ n. page_breaks (block_run s.first n ++ l)) (length_some s)
    ∙ (run_breaks (length_of s - 1) s.first l ∙ ap (λ y. page_breaks (y ∷ l)) (omega (arith, length_some s)))

-- and after the block x
piece_starts : (x : ℕ) (t : Section) (l : List ℕ)
    → page_breaks (x ∷ (block_run t.first (length_of t) ++ l))
    ≡ indicator (not (eqb t.first (suc x))) + page_breaks (block_run t.first (length_of t) ++ l)
unfolding block_run
piece_starts x t l =
    subst
    (λ n. page_breaks (x ∷ (block_run t.first n ++ l))
    ≡ indicator (not (eqb t.first (suc x))) + page_breaks (block_run t.first n ++ l))
    (sym (length_some t)) (run_starts (length_of t - 1) t.first)
  where
    run_starts : (n y : ℕ)
        → page_breaks (x ∷ (block_run y (suc n) ++ l))
        ≡ indicator (not (eqb y (suc x))) + page_breaks (block_run y (suc n) ++ l)
    run_starts n y = refl

-- the breaks of a file are those of its pages, in the blocks of its pieces in page order
pub breaks-at-pages : (l : List Section) → breaks_of l ≡ page_breaks (blocks_of l)
unfolding blocks_of
breaks-at-pages [] = breaks-none
breaks-at-pages (s ∷ []) = breaks-one s ∙ sym (piece_breaks s [])
breaks-at-pages (s ∷ t ∷ l) =
    breaks-next s t l
    ∙ (ap₂ (λ e k. indicator (not (eqb t.first e)) + k) ends (breaks-at-pages (t ∷ l))
    ∙ sym (piece_breaks s (blocks_of (t ∷ l)) ∙ piece_starts (end_of s - 1) t (blocks_of l)))
  where
    ends : end_of s ≡ suc (end_of s - 1)
    ends = omega (arith, length_some s)

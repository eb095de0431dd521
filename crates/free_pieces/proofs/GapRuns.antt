-- The blocks of a section that are in none of the pieces inside it, as runs between them. Assumes nothing.
use mathlib.Core.Bool.{Bool, cond, false, true}
use mathlib.Core.List.{List, [], ◌++◌, ◌∷◌}
use mathlib.Core.Path.{◌∙◌, ◌≡◌, ap, ap₂, refl, sym}
use Prim.Native.Nat.{◌+◌, ◌-◌, ◌<◌, ◌≤◌, suc, zero, ℕ}
use native.Mathlib.Omega.{arith}
use lib.Dec.{eqb}
use borrow.Author.Tests.{eq-eqb, ne_eqb}
use Rattle.section.specs.Nesting.{Placed}
use Rattle.section.specs.declared.Section.{Section}
use Rattle.section.specs.Sections.{end_of, is_inside, length_of}
use Rattle.section.proofs.Answers.{inside_iff}
use Rattle.layout.specs.Layout.{InOrder, holds_block}
use Rattle.layout.specs.Lists.{Each, done, more, next, sum_of}
use Rattle.layout.specs.Removing.{Copy, copies_from, copy_run}
use Rattle.layout.proofs.CopiesFrom.{from_append, from_failed, from_none, from_passed}
use Rattle.layout.proofs.Lists.{each_imp}
use Rattle.layout.proofs.Moving.{placed_off}
use Rattle.layout.proofs.Ranges.{in_range_above, in_range_below, in_range_inside}
use Rattle.free_pieces.specs.Gaps.{gap_copies}

sum-none : (x : ℕ) {l : List Section} → Each (λ s. holds_block x s ≡ 0) l → sum_of (holds_block x) l ≡ 0
sum-none x done = refl
sum-none x (more {a = s} p e) = omega (arith, sum-none x e)

-- ---- runs

no_run : (b u : ℕ) (k : List Copy) → k ≡ copy_run b u 0 ++ k
unfolding copy_run
no_run b u k = refl

run_split : (m n b u : ℕ) → copy_run b u (m + n) ≡ copy_run b u m ++ copy_run (b + m) (u + m) n
unfolding copy_run
run_split zero n b u =
    let x : zero + n ≡ n = omega arith in
    let y : b ≡ b + 0 = omega arith in
    let z : u ≡ u + 0 = omega arith in
    ap (copy_run b u) x ∙ ap₂ (λ i j. copy_run i j n) y z
run_split (suc m) n b u =
    let x : suc m + n ≡ suc (m + n) = omega arith in
    let y : suc b + m ≡ b + suc m = omega arith in
    let z : suc u + m ≡ u + suc m = omega arith in
    ap (copy_run b u) x
    ∙ ap (λ k. (record { source = b; target = u }) ∷ k)
    (run_split m n (suc b) (suc u) ∙ ap₂ (λ i j. copy_run (suc b) (suc u) m ++ copy_run i j n) y z)

module _ (p : ℕ → Bool) where
  run_all : (n b u : ℕ) → ((i : ℕ) → i < n → p (b + i) ≡ true) → copies_from p (copy_run b u n) ≡ copy_run b u n
  unfolding copy_run
  run_all zero b u t = from_none p
  run_all (suc n) b u t =
      let x : b + 0 ≡ b = omega arith in
      let y : (i : ℕ) → suc b + i ≡ b + suc i = λ i. omega arith in
      from_passed p _ (copy_run (suc b) (suc u) n) (sym (ap p x) ∙ t 0 (omega arith))
      ∙ ap (λ k. (record { source = b; target = u }) ∷ k)
      (run_all n (suc b) (suc u) (λ i q. ap p (y i) ∙ t (suc i) (omega arith)))

  run_none : (n b u : ℕ) → ((i : ℕ) → i < n → p (b + i) ≡ false) → copies_from p (copy_run b u n) ≡ []
  unfolding copy_run
  run_none zero b u t = from_none p
  run_none (suc n) b u t =
      let x : b + 0 ≡ b = omega arith in
      let y : (i : ℕ) → suc b + i ≡ b + suc i = λ i. omega arith in
      from_failed p _ (copy_run (suc b) (suc u) n) (sym (ap p x) ∙ t 0 (omega arith))
      ∙ run_none n (suc b) (suc u) (λ i q. ap p (y i) ∙ t (suc i) (omega arith))

  -- m blocks that pass, then k that do not
  run_parts : (m k n b u : ℕ) → ((i : ℕ) → i < m → p (b + i) ≡ true) → ((i : ℕ) → i < k → p (b + m + i) ≡ false)
      → copies_from p (copy_run b u (m + (k + n)))
      ≡ copy_run b u m ++ copies_from p (copy_run (b + m + k) (u + m + k) n)
  run_parts m k n b u t f =
      ap (copies_from p) (run_split m (k + n) b u)
      ∙ (from_append p (copy_run b u m) (copy_run (b + m) (u + m) (k + n))
      ∙ ap₂ (λ (x y : List Copy). x ++ y) (run_all m b u t)
      (ap (copies_from p) (run_split k n (b + m) (u + m))
      ∙ (from_append p (copy_run (b + m) (u + m) k) (copy_run (b + m + k) (u + m + k) n)
      ∙ ap (λ (x : List Copy). x ++ copies_from p (copy_run (b + m + k) (u + m + k) n))
      (run_none k (b + m) (u + m) f))))

  module _ (b : Section) (u : ℕ) where
    -- the test passes the blocks of b that no piece of l holds: what it keeps of a run are the gaps
    pub gaps_are : (at : ℕ) (l : List Section) → b.first ≤ at → at ≤ end_of b → InOrder l
        → Each (λ (s : Section). Placed s.first (length_of s) b.first (length_of b)) l
        → Each (λ (s : Section). is_inside s b ≡ true → at ≤ s.first) l
        → ((x : ℕ) → at ≤ x → x < end_of b → p x ≡ eqb (sum_of (holds_block x) l) 0)
        → copies_from p (copy_run at (u + (at - b.first)) (end_of b - at)) ≡ gap_copies b u at l
    unfolding gap_copies
    gaps_are at [] lo hi ord pl ahead t =
        run_all (end_of b - at) at (u + (at - b.first)) (λ i q. t (at + i) (omega arith) (omega arith))
    gaps_are at (s ∷ l) lo hi (next o ord) (more z pl) (more g ahead) t =
        go (is_inside s b) refl (λ at' lo' hi' a' t'. gaps_are at' l lo' hi' ord pl a' t')
      where
        go : (v : Bool) → is_inside s b ≡ v
            → ((at' : ℕ) → b.first ≤ at' → at' ≤ end_of b
            → Each (λ (s : Section). is_inside s b ≡ true → at' ≤ s.first) l
            → ((x : ℕ) → at' ≤ x → x < end_of b → p x ≡ eqb (sum_of (holds_block x) l) 0)
            → copies_from p (copy_run at' (u + (at' - b.first)) (end_of b - at')) ≡ gap_copies b u at' l)
            → copies_from p (copy_run at (u + (at - b.first)) (end_of b - at))
            ≡ copy_run at (u + (at - b.first)) (cond v (s.first - at) 0) ++ gap_copies b u (cond v (end_of s) at) l
        go true e ih =
            let w = (inside_iff s b).0 e in
            let ge : at ≤ s.first = g e in
            let x : end_of b - at ≡ s.first - at + (length_of s + (end_of b - end_of s)) = omega arith in
            let y : at + (s.first - at) + length_of s ≡ end_of s = omega arith in
            let y' : u + (at - b.first) + (s.first - at) + length_of s ≡ u + (end_of s - b.first) = omega arith in
            ap (λ n. copies_from p (copy_run at (u + (at - b.first)) n)) x
            ∙ (run_parts (s.first - at) (length_of s) (end_of b - end_of s) at (u + (at - b.first))
            (λ i q. t (at + i) (omega arith) (omega arith)
            ∙ eq-eqb (sum_of (holds_block (at + i)) (s ∷ l)) 0
            (omega (
              arith,
              in_range_below (at + i) s.first (length_of s) (omega arith),
              sum-none (at + i) (each_imp (λ r f. in_range_below (at + i) r.first (length_of r) (omega arith)) o),
            )))
            (λ i q. t (at + (s.first - at) + i) (omega arith) (omega arith)
            ∙ ne_eqb (sum_of (holds_block (at + (s.first - at) + i)) (s ∷ l)) 0
            (λ n. omega (
              arith,
              n,
              in_range_inside (at + (s.first - at) + i) s.first (length_of s) (omega arith) (omega arith),
            )))
            ∙ ap (λ (k : List Copy). copy_run at (u + (at - b.first)) (s.first - at) ++ k)
            (ap₂ (λ i j. copies_from p (copy_run i j (end_of b - end_of s))) y y'
            ∙ ih (end_of s) (omega arith) (omega arith) (each_imp (λ r f _. f) o)
            (λ r lx hx.
            let y : sum_of (holds_block r) (s ∷ l) ≡ sum_of (holds_block r) l =
            omega (arith, in_range_above r s.first (length_of s) lx) in
            t r (omega arith) hx ∙ ap (λ n. eqb n 0) y)))
        go false e ih =
            ih at lo hi ahead
            (λ r lx hx.
            let y : sum_of (holds_block r) (s ∷ l) ≡ sum_of (holds_block r) l =
            omega (arith, placed_off s b z e r (omega arith) hx) in
            t r lx hx ∙ ap (λ n. eqb n 0) y)
            ∙ no_run at (u + (at - b.first)) (gap_copies b u at l)

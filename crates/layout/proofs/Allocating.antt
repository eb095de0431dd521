-- Allocating: one piece for each 1 of n, exactly if the free blocks suffice. Assumes nothing.
use mathlib.Core.List.{List, ◌∷◌}
use mathlib.Core.Path.{◌∙◌, ◌≡◌, ap, refl, subst, sym}
use Prim.Native.Nat.{◌%◌, ◌*◌, ◌+◌, ◌/◌, ◌<◌, ◌^◌, ◌≤◌, suc, zero, ℕ}
use native.Mathlib.Decide.{ℕ_discrete}
use native.Mathlib.Nat.{lt_of_not-le, mod-lt, mod-one, pow-zero}
use native.Mathlib.Omega.{arith}
use lib.Pow.{mod-pow-add, pow_mono}
use Rattle.layout.proofs.Lists.{each_and, each_imp}
use Rattle.layout.proofs.Splitting.{TakesPieceOf, at_most_one_small, count_none, of_height_other, of_height_same}
use Rattle.layout.proofs.Splitting.{take_piece_is}
use Rattle.layout.specs.Adding.{Allocated, Taken, allocate, allocated, nothing, take_piece, taken, too_few}
use Rattle.layout.specs.Adding.{with_piece}
use Rattle.layout.specs.Allocations.{Allocates, Stock}
use Rattle.layout.specs.Covering.{AtMostOne, Falling, count_of}
use Rattle.layout.specs.Layout.{OnDisk}
use Rattle.layout.specs.Lists.{Each, done, more, next, none, sum_of}
use Rattle.section.specs.Sections.{length_of}
use Rattle.section.specs.declared.Section.{Section}

pub falling_thin : {l : List Section} → Falling l → AtMostOne l
falling_thin none h = omega arith
falling_thin (next {a = a} {l = l} e f) h = go (ℕ_discrete a.height.value h) (falling_thin f h)
  where
    go : Dec (a.height.value ≡ h) → count_of h l ≤ 1 → count_of h (a ∷ l) ≤ 1
    go (yes p) ih = omega (arith, of_height_same h a p, count_none h (each_imp (λ b q r. omega arith) e))
    go (no p) ih = omega (arith, of_height_other h a p)

-- a section of a disk of fewer than 2^k blocks is lower than k
pub height-lt : (c k : ℕ) → c < 2 ^ k → (s : Section) → OnDisk c s → s.height.value < k
height-lt c k p s d =
    lt_of_not-le (λ q. let m : 2 ^ k ≤ 2 ^ s.height.value = pow_mono q in omega (arith, d.within))

abbrev pub AllocatesOf : ℕ → ℕ → ℕ → List Section → Allocated → Type 0
AllocatesOf c h n free (allocated s r) = Allocates c h n free s r
AllocatesOf c h n free too_few = sum_of length_of free < n % 2 ^ h

-- the remainder by 2^(h+1), by the digit at h
pub mod-digit : (n h : ℕ) → n % 2 ^ suc h ≡ (n / 2 ^ h % 2) * 2 ^ h + n % 2 ^ h
mod-digit n h = ap (λ z. n % 2 ^ z) (omega arith) ∙ mod-pow-add n 1 h

le-of-lt-suc : (a h k : ℕ) → a < suc h + k → a ≤ h + k
le-of-lt-suc a h k p = omega arith

module _ (c n : ℕ) where
  pub allocate_is : (k h : ℕ) (free : List Section) → c < 2 ^ (h + k) → Stock c free
      → AllocatesOf c h n free (allocate k h n free)
  unfolding allocate
  allocate_is k zero free top st = record {
    on = done;
    falling = none;
    lower = done;
    stock = st;
    held = λ x. omega arith;
    size = omega arith;
    blocks = sym (ap (λ z. n % z) (pow-zero 2) ∙ mod-one n);
  }
  allocate_is k (suc h) free top st =
      by_digit (n / 2 ^ h % 2) refl (mod-lt (n / 2 ^ h) (omega arith)) (allocate_is (suc k) h free top' st)
      (take_piece k h free) (take_piece_is c k h free st) (λ r st. allocate_is (suc k) h r top' st)
    where
      top' : c < 2 ^ (h + suc k)
      top' = subst (λ z. c < 2 ^ z) (omega arith) top

      by_digit : (d : ℕ) → n / 2 ^ h % 2 ≡ d → n / 2 ^ h % 2 < 2
          → AllocatesOf c h n free (allocate (suc k) h n free) → (t : Taken) → TakesPieceOf c k h free t
          → ((r : List Section) → Stock c r → AllocatesOf c h n r (allocate (suc k) h n r))
          → AllocatesOf c (suc h) n free (elim d as (λ _. Allocated) [
            | zero ↦ allocate (suc k) h n free
            | suc _ ↦
                elim t as (λ _. Allocated) [ taken s r ↦ with_piece s (allocate (suc k) h n r) | nothing ↦ too_few ]
          ])
      by_digit zero e lt skip t u rec = zeroed (allocate (suc k) h n free) skip
        where
          eq : n % 2 ^ suc h ≡ n % 2 ^ h
          eq = mod-digit n h ∙ (ap (λ z. z * 2 ^ h + n % 2 ^ h) e ∙ omega arith)

          zeroed : (p : Allocated) → AllocatesOf c h n free p → AllocatesOf c (suc h) n free p
          zeroed (allocated s r) q = record {
            on = q.on;
            falling = q.falling;
            lower = each_imp (λ a z. omega arith) q.lower;
            stock = q.stock;
            held = q.held;
            size = q.size;
            blocks = q.blocks ∙ sym eq;
          }
          zeroed too_few q = omega (arith, eq)
      by_digit (suc d) e lt skip (taken s r) u rec = placed_on (allocate (suc k) h n r) (rec r u.stock)
        where
          eq : n % 2 ^ suc h ≡ 2 ^ h + n % 2 ^ h
          eq =
              let one : n / 2 ^ h % 2 ≡ 1 = omega arith in
              mod-digit n h ∙ (ap (λ z. z * 2 ^ h + n % 2 ^ h) one ∙ omega arith)

          tall_s : 2 ^ s.height.value ≡ 2 ^ h
          tall_s = ap (λ z. 2 ^ z) u.height

          placed_on : (p : Allocated) → AllocatesOf c h n r p → AllocatesOf c (suc h) n free (with_piece s p)
          placed_on (allocated m r') q = record {
            on = more u.fits q.on;
            falling = next {a = s} (each_imp (λ a z. omega (arith, u.height)) q.lower) q.falling;
            lower = more {a = s} (omega (arith, u.height)) (each_imp (λ a z. omega arith) q.lower);
            stock = q.stock;
            held = λ x. omega (arith, u.held x, q.held x);
            size = omega (arith, u.size, q.size, tall_s);
            blocks = omega (arith, q.blocks, eq, tall_s);
          }
          placed_on too_few q = omega (arith, eq, u.size)
      by_digit (suc d) e lt skip nothing u rec =
          let one : n / 2 ^ h % 2 ≡ 1 = omega arith in
          let eq : n % 2 ^ suc h ≡ 2 ^ h + n % 2 ^ h =
          mod-digit n h ∙ (ap (λ z. z * 2 ^ h + n % 2 ^ h) one ∙ omega arith) in
          let under : Each (λ (s : Section). s.height.value < h) free = each_imp
          (λ s p.
          lt_of_not-le (λ q. p.1 q (le-of-lt-suc s.height.value h k (height-lt c (suc h + k) top s p.0))))
          (each_and st.disk u) in
          omega (arith, eq, at_most_one_small c h under st.thin)

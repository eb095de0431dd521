-- Where the contents of a block come from: a list of block copies, whatever it is, renames blocks. Assumes nothing.
use mathlib.Core.Bool.{Bool, cond, false, true}
use mathlib.Core.List.{List, [], ◌++◌, ◌∷◌}
use mathlib.Core.Logic.{inl, inr}
use mathlib.Core.Path.{◌∙◌, ◌≡◌, ap, refl, sym}
use Prim.Native.Nat.{◌+◌, ◌<◌, suc, zero, ℕ}
use native.Mathlib.Omega.{arith}
use lib.Dec.{eqb}
use borrow.Author.Tests.{eq-eqb, ne_eqb}
use Rattle.layout.proofs.CopiesFrom.{each_from, from_failed, from_passed}
use Rattle.layout.proofs.Lists.{each_imp}
use Rattle.layout.specs.Lists.{Each, done, more}
use Rattle.layout.specs.Merges.{origin}
use Rattle.layout.specs.Removing.{Copy, copies_from, copy_run}
use Rattle.section.specs.Sections.{Apart}

pub origin-append : (a b : List Copy) (x : ℕ) → origin (a ++ b) x ≡ origin a (origin b x)
unfolding origin
origin-append [] b x = refl
origin-append (c ∷ a) b x = ap (λ y. cond (eqb y c.target) c.source y) (origin-append a b x)

-- a block that is no target keeps its bytes
pub origin_off : (x : ℕ) {l : List Copy} → Each (λ (c : Copy). x ≡ c.target → ⊥) l → origin l x ≡ x
unfolding origin
origin_off x done = refl
origin_off x (more {a = c} {l = l} p e) =
    ap (λ y. cond (eqb y c.target) c.source y) (origin_off x e)
    ∙ ap (λ t. cond t c.source x) (ne_eqb x c.target p)

-- a copy of one of the n blocks from b to its place among those from u
pub record InRun (b u n : ℕ) (c : Copy) : Type 0 where
  pub at : ℕ
  pub less : at < n
  pub from : c.source ≡ b + at
  pub to : c.target ≡ u + at

pub copy_run_in_run : (b u n : ℕ) → Each (InRun b u n) (copy_run b u n)
unfolding copy_run
copy_run_in_run b u zero = done
copy_run_in_run b u (suc n) =
    more {a = record { source = b; target = u }}
    (record { at = 0; less = omega arith; from = omega arith; to = omega arith })
    (each_imp (λ c w. later c w) (copy_run_in_run (suc b) (suc u) n))
  where
    later : (c : Copy) → InRun (suc b) (suc u) n c → InRun b u (suc n) c
    later c w = record {
      at = suc w.at;
      less = omega (arith, w.less);
      from = omega (arith, w.from);
      to = omega (arith, w.to);
    }

-- a block that is copied is found at its place in the run
pub origin_from : (p : ℕ → Bool) (n b u : ℕ) → Apart b n u n → (i : ℕ) → i < n → p (b + i) ≡ true
    → origin (copies_from p (copy_run b u n)) (u + i) ≡ b + i
unfolding origin copy_run
origin_from p zero b u o i q t = absurd (omega arith)
origin_from p (suc n) b u o i q t =
    go (p b) refl i q t (λ j z y. origin_from p n (suc b) (suc u) (shift o) j z y)
  where
    shift : Apart b (suc n) u (suc n) → Apart (suc b) n (suc u) n
    shift (inl q) = inl (omega arith)
    shift (inr q) = inr (omega arith)

    clash : Apart b (suc n) u (suc n) → (i : ℕ) → i < suc n → b + i ≡ u → ⊥
    clash (inl q) i z e = omega arith
    clash (inr q) i z e = omega arith

    z+ : (x : ℕ) → x + 0 ≡ x
    z+ x = omega arith

    s+ : (x i : ℕ) → x + suc i ≡ suc x + i
    s+ x i = omega arith

    first : origin (copies_from p (copy_run (suc b) (suc u) n)) u ≡ u
    first =
        origin_off u (each_imp (λ c w z. omega (arith, w.0.to)) (each_from p (copy_run_in_run (suc b) (suc u) n)))

    go : (s : Bool) → p b ≡ s → (i : ℕ) → i < suc n → p (b + i) ≡ true
        → ((j : ℕ) → j < n → p (suc b + j) ≡ true
        → origin (copies_from p (copy_run (suc b) (suc u) n)) (suc u + j) ≡ suc b + j)
        → origin (copies_from p ((record { source = b; target = u }) ∷ copy_run (suc b) (suc u) n)) (u + i) ≡ b + i
    go true e zero q t ih =
        ap (λ l. origin l (u + 0)) (from_passed p _ (copy_run (suc b) (suc u) n) e)
        ∙ (ap (λ y. cond (eqb y u) b y) (ap (origin (copies_from p (copy_run (suc b) (suc u) n))) (z+ u) ∙ first)
        ∙ (ap (λ t. cond t b u) (eq-eqb u u refl) ∙ sym (z+ b)))
    go true e (suc i) q t ih =
        ap (λ l. origin l (u + suc i)) (from_passed p _ (copy_run (suc b) (suc u) n) e)
        ∙ (ap (λ y. cond (eqb y u) b y)
        (ap (origin (copies_from p (copy_run (suc b) (suc u) n))) (s+ u i)
        ∙ (ih i (omega arith) (ap p (sym (s+ b i)) ∙ t) ∙ sym (s+ b i)))
        ∙ ap (λ t. cond t b (b + suc i)) (ne_eqb (b + suc i) u (clash o (suc i) q)))
    go false e zero q t ih = let f = ap p (z+ b) in absurd (let z : ◌≡◌ {A = ℕ} 0 1 = cc in omega arith)
    go false e (suc i) q t ih =
        ap (λ l. origin l (u + suc i)) (from_failed p _ (copy_run (suc b) (suc u) n) e)
        ∙ (ap (origin (copies_from p (copy_run (suc b) (suc u) n))) (s+ u i)
        ∙ (ih i (omega arith) (ap p (sym (s+ b i)) ∙ t) ∙ sym (s+ b i)))

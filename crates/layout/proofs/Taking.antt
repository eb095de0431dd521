-- Taking the first section that passes a test, a piece of a height by what is taken a height up, and lists by rising
-- first block. Assumes nothing.
use mathlib.Core.Bool.{Bool, false, true}
use mathlib.Core.List.{List, [], ◌∷◌}
use mathlib.Core.Path.{◌∙◌, ◌≡◌, ap, refl}
use Prim.Native.Nat.{◌+◌, ◌≤◌, suc, ℕ}
use native.Mathlib.Nat.{le_of_lt, le_trans}
use native.Mathlib.Omega.{arith}
use borrow.Author.Tests.{eqb-false, eqb-true, leb-false, leb-true}
use Rattle.layout.proofs.Lists.{each_imp, insert_sorted, sort_sorted}
use Rattle.layout.specs.Adding.{Taken, keeping, nothing, or_else, split_at, take_first, take_of_height, take_piece}
use Rattle.layout.specs.Adding.{taken}
use Rattle.layout.specs.Choices.{Takes, here, there}
use Rattle.layout.specs.Covering.{Rising}
use Rattle.layout.specs.Layout.{by_first, has_height}
use Rattle.layout.specs.Lists.{Each, done, insert_by, more, next, sort_by, sum_of}
use Rattle.section.specs.declared.Section.{Section}

abbrev pub TakesOf : (Section → Bool) → List Section → Taken → Type 0
TakesOf p l (taken s r) = Takes p l s r
TakesOf p l nothing = Each (λ (a : Section). p a ≡ false) l

pub take_first_is : (p : Section → Bool) (l : List Section) → TakesOf p l (take_first p l)
unfolding take_first
take_first_is p [] = done
take_first_is p (a ∷ l) = go (p a) refl (take_first p l) (take_first_is p l)
  where
    go : (t : Bool) → p a ≡ t → (x : Taken) → TakesOf p l x
        → TakesOf p (a ∷ l) (elim t as (λ _. Taken) [ true ↦ taken a l | false ↦ keeping a x ])
    go true e x q = here e
    go false e (taken s r) q = there e q
    go false e nothing q = more e q

-- the first passes: it is taken
pub take_first_here : (p : Section → Bool) (a : Section) (l : List Section) → p a ≡ true
    → take_first p (a ∷ l) ≡ taken a l
unfolding take_first
take_first_here p a l e = rw (e, take_first)

-- the first does not pass: one of those behind it is taken, if any
pub take_first_behind : (p : Section → Bool) (a : Section) (l : List Section) → p a ≡ false
    → take_first p (a ∷ l) ≡ keeping a (take_first p l)
unfolding take_first
take_first_behind p a l e = rw (e, take_first)

pub take_first-none : (p : Section → Bool) {l : List Section} → Each (λ (a : Section). p a ≡ false) l
    → take_first p l ≡ nothing
unfolding take_first
take_first-none p done = refl
take_first-none p (more {a = a} {l = l} e es) = take_first_behind p a l e ∙ ap (keeping a) (take_first-none p es)

pub takes_test : {p : Section → Bool} {l r : List Section} {s : Section} → Takes p l s r → p s ≡ true
takes_test (here e) = e
takes_test (there n x) = takes_test x

pub takes_sum : {p : Section → Bool} {l r : List Section} {s : Section} (w : Section → ℕ) → Takes p l s r
    → sum_of w l ≡ w s + sum_of w r
takes_sum w (here e) = refl
takes_sum w (there n x) = omega (arith, takes_sum w x)

pub takes_each {κ} : {p : Section → Bool} {l r : List Section} {s : Section} {P : Section → Type κ} → Takes p l s r
    → Each P l → P s × Each P r
takes_each (here e) (more q qs) = (q, qs)
takes_each (there n x) (more q qs) = let y = takes_each x qs in (y.0, more q y.1)

-- what holds of the one taken and of the others holds of all
pub takes_back {κ} : {p : Section → Bool} {l r : List Section} {s : Section} {P : Section → Type κ} → Takes p l s r
    → P s → Each P r → Each P l
takes_back (here e) q qs = more q qs
takes_back (there n x) q (more z zs) = more z (takes_back x q zs)

pub takes_height : {h : ℕ} {l r : List Section} {s : Section} → Takes (has_height h) l s r → s.height.value ≡ h
takes_height {h} {s = s} x = eqb-true s.height.value h (takes_test x)

-- no section of the list has height h
pub nothing_height : {h : ℕ} {l : List Section} → Each (λ (a : Section). has_height h a ≡ false) l
    → Each (λ (a : Section). a.height.value ≡ h → ⊥) l
nothing_height {h} e = each_imp (λ a q. eqb-false a.height.value h q) e

pub takes_rising : {p : Section → Bool} {l r : List Section} {s : Section} → Takes p l s r → Rising l → Rising r
takes_rising (here e) (next q qs) = qs
takes_rising (there n x) (next q qs) = next (takes_each x q).1 (takes_rising x qs)

-- the one pulled first has the lowest first block of its height
pub takes_lowest : {h : ℕ} {l r : List Section} {s : Section} → Takes (has_height h) l s r → Rising l
    → Each (λ (b : Section). b.height.value ≡ h → s.first ≤ b.first) r
takes_lowest (here e) (next q qs) = each_imp (λ b x _. x) q
takes_lowest {h} (there {a = a} n x) (next q qs) =
    more (λ e. absurd (eqb-false a.height.value h n e)) (takes_lowest x qs)

-- ---- a piece of height h

-- with no height above h it is a free one
pub take_piece_highest : (h : ℕ) (free : List Section) → take_piece 0 h free ≡ take_of_height h free
unfolding take_piece
take_piece_highest h free = refl

-- else a free one, or one split from what is taken a height up
pub take_piece_or_split : (k h : ℕ) (free : List Section)
    → take_piece (suc k) h free ≡ or_else (take_of_height h free) (split_at h (take_piece k (suc h) free))
unfolding take_piece
take_piece_or_split k h free = refl

-- ---- by rising first block

pub insert_rising : (a : Section) {l : List Section} → Rising l → Rising (insert_by by_first a l)
insert_rising =
    insert_sorted by_first (λ a b. a.first ≤ b.first) (λ a b. leb-true a.first b.first)
    (λ a b e. le_of_lt (leb-false a.first b.first e)) (λ a b c p q. le_trans p q)

pub sort_rising : (l : List Section) → Rising (sort_by by_first l)
sort_rising =
    sort_sorted by_first (λ a b. a.first ≤ b.first) (λ a b. leb-true a.first b.first)
    (λ a b e. le_of_lt (leb-false a.first b.first e)) (λ a b c p q. le_trans p q)

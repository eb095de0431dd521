-- What is said of the list of helping ids, on the disk of case 6 in literal numbers: f is 10, ids 2, 5 and 9 have 2, 3
-- and 1 blocks, and their removals copy 0, 1 and 0. Assumes nothing.
use mathlib.Core.List.{List, [], ◌∷◌}
use mathlib.Core.Logic.{inl, inr, ⊎_elim}
use mathlib.Core.Path.{◌∙◌, ◌≡◌, ap, refl, subst}
use Prim.Native.Nat.{ℕ}
use native.Mathlib.Omega.{arith}
use Rattle.layout.proofs.HelpingCases.{copies-computed, ids-computed}
use Rattle.layout.proofs.HelpingIds.{helping_ids_lem, helping_pinned}
use Rattle.layout.proofs.Lists.{each_head}
use Rattle.layout.specs.Cases.{case_six, five, nine, two}
use Rattle.layout.specs.Helping.{CopiesFirst, Helping, InCopyOrder, LetsIn, copies_for, helping_ids}
use Rattle.layout.specs.Layout.{file_blocks, find_file}
use Rattle.layout.specs.Lists.{done, more, next, none}
use Rattle.layout.specs.LookingUp.{ByRisingId}

-- ---- which files let 13 blocks in

pub five_lets_in : LetsIn 13 case_six 5
unfolding find_file
five_lets_in = (five, refl, omega arith)

pub two_does_not : LetsIn 13 case_six 2 → ⊥
unfolding find_file
two_does_not (f, e, h) = let same : f ≡ two = cc in omega (arith, ap file_blocks same, h)

pub three_does_not : LetsIn 11 case_six 3 → ⊥
unfolding find_file
three_does_not (f, e, h) = let z : ◌≡◌ {A = ℕ} 0 1 = cc in omega arith

-- ---- which of two is first

copies-two : copies_for 13 case_six two ≡ 0
copies-two = cc copies-computed.0

copies-five : copies_for 13 case_six five ≡ 1
copies-five = cc copies-computed.0

copies-nine : copies_for 13 case_six nine ≡ 0
copies-nine = cc copies-computed.0

-- equal copies: the lower id; fewer copies: whatever the ids
pub two-before-nine : CopiesFirst 13 case_six 2 9
unfolding find_file
two-before-nine f g p q =
    let x : copies_for 13 case_six f ≡ 0 = cc copies-two in
    let y : copies_for 13 case_six g ≡ 0 = cc copies-nine in
    inr (omega arith, omega arith)

pub nine-before-five : CopiesFirst 13 case_six 9 5
unfolding find_file
nine-before-five f g p q =
    let x : copies_for 13 case_six f ≡ 0 = cc copies-nine in
    let y : copies_for 13 case_six g ≡ 1 = cc copies-five in
    inl (omega arith)

pub nine-not-before-two : CopiesFirst 13 case_six 9 2 → ⊥
unfolding find_file
nine-not-before-two h =
    ⊎_elim (λ x. omega (arith, copies-nine, copies-two)) (λ x. omega (arith, copies-nine, copies-two))
    (h nine two refl refl)

pub five-not-before-nine : CopiesFirst 13 case_six 5 9 → ⊥
unfolding find_file
five-not-before-nine h =
    ⊎_elim (λ x. omega (arith, copies-five, copies-nine)) (λ x. omega (arith, copies-five, copies-nine))
    (h five nine refl refl)

-- no file is before itself
pub two-not-before-two : CopiesFirst 13 case_six 2 2 → ⊥
unfolding find_file
two-not-before-two h = ⊎_elim (λ x. omega arith) (λ x. omega arith) (h two two refl refl)

-- ---- the lists for 13 blocks and for 11

-- an id that helps stands once
pub five_twice : Helping 13 13 case_six (5 ∷ 5 ∷ []) → ⊥
five_twice h = omega (arith, h.all 5 five_lets_in)

pub five_left_out : Helping 13 13 case_six [] → ⊥
five_left_out h = omega (arith, h.all 5 five_lets_in)

-- and no other stands
pub two_beside_five : Helping 13 13 case_six (2 ∷ 5 ∷ []) → ⊥
two_beside_five h = two_does_not (each_head h.only)

-- 9 does not stand before 2
pub nine-first : Helping 13 11 case_six (9 ∷ 2 ∷ 5 ∷ []) → ⊥
nine-first h = go h.sorted
  where
    go : InCopyOrder 13 case_six (9 ∷ 2 ∷ 5 ∷ []) → ⊥
    go (next p q) = nine-not-before-two (each_head p)

rise : ByRisingId case_six.files
rise =
    next {a = two} (more {a = five} (omega arith) (more {a = nine} (omega arith) done))
    (next {a = five} (more {a = nine} (omega arith) done) (next done none))

given : helping_ids 13 11 case_six ≡ 2 ∷ 9 ∷ 5 ∷ []
given = cc ids-computed.0

-- 2, 9, 5 is the list, and no other is
pub case_six_helping : Helping 13 11 case_six (2 ∷ 9 ∷ 5 ∷ [])
case_six_helping = subst (Helping 13 11 case_six) given (helping_ids_lem 13 11 case_six rise)

pub case_six_only : (ids : List ℕ) → Helping 13 11 case_six ids → ids ≡ 2 ∷ 9 ∷ 5 ∷ []
case_six_only ids h = helping_pinned 13 11 case_six ids rise h ∙ given

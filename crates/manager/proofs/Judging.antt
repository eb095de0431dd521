-- Lists of conditions: when a call is allowed, and by what it is refused; and a choice of two. Assumes nothing.
use mathlib.Core.Bool.{Bool, cond, false, true}
use mathlib.Core.List.{List, [], ◌∷◌}
use mathlib.Core.Path.{◌∙◌, ◌≡◌, ap, refl}
use Prim.Native.Nat.{ℕ}
use native.Mathlib.Omega.{arith}
use Rattle.layout.specs.Lists.{Each, done, more}
use Rattle.manager.specs.Conditions.{Condition, Judgement, Outcome, allowed, answered, first_refusal, refusal}
use Rattle.manager.specs.Conditions.{unless_refused}

-- a condition that does not apply is passed over
pub passes : (c : Condition) (cs : List Condition) → c.applies ≡ false → first_refusal (c ∷ cs) ≡ first_refusal cs
unfolding first_refusal
passes c cs e = ap (λ t. elim t as (λ _. Judgement) [ true ↦ refusal c.number | false ↦ first_refusal cs ]) e

-- one that applies refuses
pub refuses_by : (c : Condition) (cs : List Condition) → c.applies ≡ true
    → first_refusal (c ∷ cs) ≡ refusal c.number
unfolding first_refusal
refuses_by c cs e = ap (λ t. elim t as (λ _. Judgement) [ true ↦ refusal c.number | false ↦ first_refusal cs ]) e

-- a call is allowed if none of its conditions applies
pub none_applies : {cs : List Condition} → Each (λ (c : Condition). c.applies ≡ false) cs
    → first_refusal cs ≡ allowed
unfolding first_refusal
none_applies done = refl
none_applies (more {a = c} {l = cs} p e) =
    ap (λ t. elim t as (λ _. Judgement) [ true ↦ refusal c.number | false ↦ first_refusal cs ]) p ∙ none_applies e

-- and only then
pub allowed_none : (cs : List Condition) → first_refusal cs ≡ allowed
    → Each (λ (c : Condition). c.applies ≡ false) cs
unfolding first_refusal
allowed_none [] e = done
allowed_none (c ∷ cs) e = go c.applies refl e (λ q. allowed_none cs q)
  where
    go : (t : Bool) → c.applies ≡ t
        → elim t as (λ _. Judgement) [ true ↦ refusal c.number | false ↦ first_refusal cs ] ≡ allowed
        → (first_refusal cs ≡ allowed → Each (λ (c : Condition). c.applies ≡ false) cs)
        → Each (λ (c : Condition). c.applies ≡ false) (c ∷ cs)
    go true p q k = absurd (let z : ◌≡◌ {A = ℕ} 0 1 = cc in omega arith)
    go false p q k = more {a = c} p (k q)

-- what both sides of a choice have, the choice has
pub either_side : {A : Type 0} (P : A → Type 0) (b : Bool) (x y : A) → P x → P y → P (cond b x y)
either_side P true x y p q = p
either_side P false x y p q = q

-- an answer shows that the call was allowed
pub answered_allowed : (j : Judgement) (cat d o : List ℕ) (act : Outcome) (k : ℕ)
    → (unless_refused j cat d o act).reply ≡ answered k → j ≡ allowed
answered_allowed allowed cat d o act k e = refl
answered_allowed (refusal n) cat d o act k e = absurd (let z : ◌≡◌ {A = ℕ} 0 1 = cc in omega arith)

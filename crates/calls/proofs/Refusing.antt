-- A call that is refused past the catalogue: its answer is the refusal, and no table is made. Assumes nothing.
use mathlib.Core.List.{List, []}
use mathlib.Core.Path.{◌∙◌, ◌≡◌, ap, sym}
use Prim.Native.Nat.{ℕ}
use Rattle.answers.specs.Answers.{number_of}
use Rattle.answers.specs.declared.Refusal.{Refusal}
use Rattle.calls.specs.Changing.{MakesNone}
use Rattle.catalogue.specs.declared.Version.{Version}
use Rattle.manager.specs.Conditions.{Judgement, Outcome, refusal, refused, unless_refused}

pub refused_makes : (j : Judgement) (n : ℕ) → j ≡ refusal n → (a : Refusal) → number_of a ≡ n
    → (d : List ℕ) (act : Version → List ℕ → Outcome)
    → MakesNone (λ v cat. unless_refused j cat d [] (act v cat)) d a
refused_makes j n e a m d act = record {
  answer = λ v cat. ap refused m ∙ sym (ap (λ x. (unless_refused x cat d [] (act v cat)).reply) e);
  disk = λ v cat. sym (ap (λ x. (unless_refused x cat d [] (act v cat)).disk) e);
  kept = λ v cat. sym (ap (λ x. (unless_refused x cat d [] (act v cat)).catalogue) e);
}

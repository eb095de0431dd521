-- Runs of blocks that hold pages in a row: one that is found, and how it goes on from page to page. Assumes nothing.
use mathlib.Core.List.{List}
use mathlib.Core.Path.{◌∙◌, ◌≡◌, ap, refl, subst}
use Prim.Native.Nat.{◌+◌, ◌-◌, ◌<◌, ◌≤◌, suc, ℕ}
use native.Mathlib.Omega.{arith}
use lib.ListN.{get_or, length}
use Rattle.std.specs.Prelude.{IsSome, None, Option, Some}
use Rattle.section.specs.Limits.{greatest_disk}
use Rattle.blocks.specs.Runs.{Follows, GoesOn, RunAt, Starts}
use Rattle.blocks.specs.declared.Run.{Run}

-- blocks from b on that hold the pages from k on
pub run_is : (l : List ℕ) (k b n : ℕ) → ((i : ℕ) → i < n → b + i ≡ get_or l (k + i) 0) → 1 ≤ n → b + n ≤ greatest_disk
    → Starts l k (record { first = b; left = n })
run_is l k b n on some most =
    let x : b ≡ b + 0 = omega arith in
    let y : k + 0 ≡ k = omega arith in
    record { first = x ∙ (on 0 (omega arith) ∙ ap (λ z. get_or l z 0) y); next = on; within = most }

-- a page that there is starts a run
pub run_found : (l : List ℕ) (k : ℕ) (o : Option Run) → RunAt l k o → k < length l → IsSome o
run_found l k None a h = absurd (omega arith)
run_found l k (Some r) a h = refl

pub run_there : (l : List ℕ) (k : ℕ) (o : Option Run) (r : Run) → RunAt l k o → o ≡ Some r → Starts l k r
run_there l k o r a e = subst (RunAt l k) e a

-- a run goes on with the next page
pub run_follows : (l : List ℕ) (k : ℕ) (o : Option Run) → RunAt l k o → Follows l (k + 1) o
run_follows l k None a = tt
run_follows l k (Some r) a =
    let x : (i : ℕ) → k + suc i ≡ k + 1 + i = λ i. omega arith in
    record { next = λ i q. a.next (suc i) q ∙ ap (λ z. get_or l z 0) (x i); within = a.within }

-- and starts with it, if it has more
pub run_more : (l : List ℕ) (k : ℕ) (r : Run) → GoesOn l k r → 1 < r.left
    → Starts l k (record { first = r.first + 1; left = r.left - 1 })
run_more l k r f h =
    let x : (i : ℕ) → r.first + 1 + i ≡ r.first + suc i = λ i. omega arith in
    run_is l k (r.first + 1) (r.left - 1) (λ i q. x i ∙ f.next i (omega arith)) (omega arith)
    (omega (arith, f.within))

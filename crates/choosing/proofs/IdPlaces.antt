-- Numbers, then zeros: one number more. Assumes nothing.
use mathlib.Core.List.{List, ◌++◌}
use mathlib.Core.Path.{◌∙◌, ◌≡◌, ap, ap₂, sym}
use Prim.Native.Nat.{◌+◌, ◌-◌, ◌<◌, ◌≤◌, suc, ℕ}
use native.Mathlib.Numerals.{add-one}
use native.Mathlib.Omega.{arith}
use lib.ListN.{get_or, length, replicate, set, take}
use lib.Seq.{append_snoc, length-take-le, set-append_seam, take-suc}
use Rattle.section.specs.Limits.{most_files}
use Rattle.manager.specs.Outcomes.{then_zeros}

-- one number more over the zeros
pub zeros-set : (ids : List ℕ) (i : ℕ) → i < length ids → length ids ≤ most_files
    → set (then_zeros (take i ids)) i (get_or ids i 0) ≡ then_zeros (take (i + 1) ids)
zeros-set ids i h most =
    let l = take i ids in
    let x = get_or ids i 0 in
    let k = most_files - suc i in
    let head : length l ≡ i = length-take-le i ids (omega arith) in
    let next = ap (λ n. take n ids) (add-one i) ∙ take-suc ids i 0 h in
    let zeros : most_files - length l ≡ suc k = omega (arith, head) in
    let left : most_files - length (take (i + 1) ids) ≡ k =
    omega (arith, length-take-le (i + 1) ids (omega arith)) in
    ap₂ (λ n j. set (l ++ replicate n 0) j x) zeros (sym head)
    ∙ (set-append_seam l 0 (replicate k 0) x
    ∙ (sym (append_snoc l x (replicate k 0)) ∙ ap₂ (λ m n. m ++ replicate n 0) (sym next) (sym left)))

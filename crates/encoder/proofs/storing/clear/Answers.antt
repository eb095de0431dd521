-- `encoder::storing::clear` meets its contract: zero bytes take the place of those from `at` on. Assumes nothing.
use mathlib.Core.List.{◌++◌, append-nil}
use mathlib.Core.Path.{◌∙◌, ◌≡◌, ap}
use Prim.Native.Nat.{◌-◌}
use native.Mathlib.Omega.{arith}
use lib.ListN.{drop, length, replicate, take}
use lib.Seq.{length-take-le}
use Rattle.std.proofs.lemmas.List.{drop_all, length-drop}
use Rattle.encoder.proofs.storing.clear.Goals as goal

pub returns : goal.returns
returns c =
    let cat = c.args.cat.now in
    let at = c.args.at in
    let n = length cat - at in
    let long : length (take n (drop at cat)) ≡ n =
    length-take-le n (drop at cat) (omega (arith, length-drop at cat)) in
    let zeros = c.fill.ensures.after (λ y e. e) ∙ ap (λ k. replicate k 0) long in
    let end = drop_all n (drop at cat) (omega (arith, length-drop at cat)) in
    ap (λ z. take at cat ++ z) (ap (λ z. z ++ drop n (drop at cat)) zeros
    ∙ (ap (λ z. replicate n 0 ++ z) end ∙ append-nil (replicate n 0)))

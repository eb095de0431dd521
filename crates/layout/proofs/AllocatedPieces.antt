-- The pieces that an add takes from a sound layout: from the highest 1 of n down, one for each. Assumes nothing.
use mathlib.Core.List.{List}
use mathlib.Core.Path.{◌∙◌, ◌≡◌, ap, subst, sym}
use Prim.Native.Nat.{◌<◌, ◌^◌, ◌≤◌, ℕ}
use native.Mathlib.Nat.{mod-eq_of_lt}
use native.Mathlib.Omega.{arith}
use lib.Pow.{pow-lt}
use Rattle.layout.proofs.Added.{allocate_fits, allocate_only}
use Rattle.layout.proofs.Lists.{pairwise_imp}
use Rattle.layout.proofs.Ones.{distinct-ones}
use Rattle.layout.proofs.Soundness.{sound_sums}
use Rattle.layout.specs.Adding.{allocate, allocated}
use Rattle.layout.specs.Layout.{Layout, OnePiecePerOne}
use Rattle.layout.specs.Lists.{Pairwise, sum_of}
use Rattle.layout.specs.Sound.{Sound}
use Rattle.section.specs.Sections.{length_of}
use Rattle.section.specs.declared.Section.{Section}
use Rattle.layout.specs.Covering.{Falling}

pub allocated_per_one : (k n : ℕ) (l : Layout) (s r : List Section) → 1 ≤ k → Sound k l → n < 2 ^ k
    → allocate 0 k n l.free ≡ allocated s r
    → OnePiecePerOne n s × Pairwise (λ (a b : Section). length_of b < length_of a) s
allocated_per_one k n l s r pos sound small e =
    let g = sound_sums k l pos sound in
    let (t, q, e', p) = allocate_fits k 1 n l g (allocate_only k 1 n l g s r small e) in
    let same : t ≡ s = cc in
    let falling = pairwise_imp (λ a b z. pow-lt z) (subst Falling same p.falling) in
    let size = ap (sum_of length_of) (sym same) ∙ (p.blocks ∙ mod-eq_of_lt small) in
    (distinct-ones n s (pairwise_imp (λ a b z y. omega (arith, z)) falling) size, falling)

-- The free pieces of a fresh disk are one for each 1 of C, longest first, one after another from block 0 on: the law,
-- and cases 1 to 3 with other disks in literal numbers. Assumes nothing.
use mathlib.Core.List.{[], ◌∷◌}
use mathlib.Core.Logic.{◌⊎◌, inl, inr}
use mathlib.Core.Path.{◌∙◌, ◌≡◌, ap, refl, subst, sym}
use Prim.Native.Nat.{◌%◌, ◌+◌, ◌<◌, ◌^◌, suc, zero, ℕ}
use native.Mathlib.Nat.{mod-eq_of_lt, zero-mod}
use native.Mathlib.Omega.{arith}
use lib.Pow.{pow-lt}
use Rattle.layout.proofs.Cover.{covers_size}
use Rattle.layout.proofs.Fresh.{laid}
use Rattle.layout.proofs.Lists.{pairwise_imp}
use Rattle.layout.proofs.Ones.{distinct-ones}
use Rattle.layout.proofs.PiecesFrom.{digit-zero-or-one, pieces_from-cons, pieces_from_nil, pieces_from_skip}
use Rattle.layout.specs.Cases.{fresh}
use Rattle.layout.specs.Covering.{FreshPieces, RunFrom, none, then}
use Rattle.layout.specs.Layout.{digit, fresh_layout, in_range, pieces_from}
use Rattle.section.specs.Sections.{section}

run : (k n x : ℕ) → RunFrom x (pieces_from k n x)
run zero n x = subst (RunFrom x) (sym (pieces_from_nil n x)) none
run (suc k) n x = go (digit-zero-or-one k n) (run k n x) (run k n (x + 2 ^ k))
  where
    go : (digit k n ≡ 0) ⊎ (digit k n ≡ 1) → RunFrom x (pieces_from k n x)
        → RunFrom (x + 2 ^ k) (pieces_from k n (x + 2 ^ k)) → RunFrom x (pieces_from (suc k) n x)
    go (inl e) a b = subst (RunFrom x) (sym (pieces_from_skip k n x e)) a
    go (inr e) a b = subst (RunFrom x) (sym (pieces_from-cons k n x e)) (then {s = section x k} refl b)

pub fresh_pieces : (k c : ℕ) → c < 2 ^ k → FreshPieces c (fresh_layout k c)
unfolding fresh_layout
fresh_pieces k c top =
    let e : c % 2 ^ k ≡ c = mod-eq_of_lt top in
    let q = laid c k c 0 (zero-mod (2 ^ k)) (omega arith) in
    let size = covers_size c q.disk (λ y. q.held y ∙ ap (in_range y 0) e) in
    let falling = pairwise_imp (λ s t p. pow-lt p) q.falling in
    record {
      blocks = refl;
      files = refl;
      ones = distinct-ones c (pieces_from k c 0) (pairwise_imp (λ s t p z. omega (arith, p)) falling) size;
      longest_first = falling;
      in_row = run k c 0;
    }

-- ---- in literal numbers

-- cases 1 to 3, 32 blocks, which are one section of height 5, and the greatest disks of both versions
pub fresh-disks :
    fresh_layout 13 1 ∷ fresh_layout 13 5 ∷ fresh_layout 13 261 ∷ fresh_layout 13 32 ∷ fresh_layout 13 4096
    ∷ fresh_layout 21 1 ∷ fresh_layout 21 5 ∷ fresh_layout 21 261 ∷ fresh_layout 21 32 ∷ fresh_layout 21 1048576 ∷ []
    ≡ fresh 1 (section 0 0 ∷ [])
    ∷ fresh 5 (section 0 2 ∷ section 4 0 ∷ [])
    ∷ fresh 261 (section 0 8 ∷ section 256 2 ∷ section 260 0 ∷ [])
    ∷ fresh 32 (section 0 5 ∷ [])
    ∷ fresh 4096 (section 0 12 ∷ [])
    ∷ fresh 1 (section 0 0 ∷ [])
    ∷ fresh 5 (section 0 2 ∷ section 4 0 ∷ [])
    ∷ fresh 261 (section 0 8 ∷ section 256 2 ∷ section 260 0 ∷ [])
    ∷ fresh 32 (section 0 5 ∷ [])
    ∷ fresh 1048576 (section 0 20 ∷ [])
    ∷ []
unfolding fresh_layout pieces_from
fresh-disks = refl

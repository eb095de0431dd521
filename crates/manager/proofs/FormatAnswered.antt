-- A format that is answered was given buffers of the right lengths, and answers the number of blocks. Assumes nothing.
use mathlib.Core.Bool.{Bool, ◌||◌, false, not, true}
use mathlib.Core.List.{List, [], ◌∷◌}
use mathlib.Core.Path.{◌≡◌, refl, subst}
use Prim.Native.Nat.{ℕ}
use native.Mathlib.Omega.{arith}
use lib.Dec.{eqb, ltb}
use lib.ListN.{length}
use borrow.Author.Tests.{eqb-true, ltb-false}
use Rattle.catalogue.proofs.Roomy.{version_of-one}
use Rattle.catalogue.specs.Encoding.{encode}
use Rattle.catalogue.specs.Version.{greatest_blocks, version_for}
use Rattle.catalogue.specs.declared.Version.{Version}
use Rattle.layout.specs.Layout.{fresh_layout}
use Rattle.manager.proofs.CallEquations.{format_in_is}
use Rattle.manager.proofs.Contents.{paged_length}
use Rattle.manager.proofs.Replies.{answered_same, refused_answered}
use Rattle.manager.specs.Conditions.{Outcome, answered, condition, first_refusal, outcome, unless_refused, unpaged}
use Rattle.manager.specs.Disk.{page_count}
use Rattle.manager.specs.Outcomes.{format_outcome}
use Rattle.manager.specs.WholeList.{RightLengths}
use Rattle.section.specs.Limits.{height_count}

pub format_answered : (cat d : List ℕ) (c : ℕ) → (format_outcome cat d).reply ≡ answered c
    → (v : Version) × RightLengths v c cat d
unfolding first_refusal
format_answered cat d c e =
    go (eqb (length cat) v.bytes) refl (unpaged d) refl (ltb (greatest_blocks v) (page_count d)) refl
    (subst (λ (x : Outcome). x.reply ≡ answered c) (format_in_is v cat d) e)
  where
    v : Version
    v = version_for (length cat)

    go : (a : Bool) → eqb (length cat) v.bytes ≡ a → (u : Bool) → unpaged d ≡ u → (t : Bool)
        → ltb (greatest_blocks v) (page_count d) ≡ t
        → (unless_refused (first_refusal (condition 1 (not a) ∷ condition 2 (u || t) ∷ [])) cat d []
        (outcome (answered (page_count d)) (encode v (fresh_layout height_count (page_count d))) d [])).reply
        ≡ answered c
        → (v : Version) × RightLengths v c cat d
    go false a u eu t et q = absurd (refused_answered 1 c q)
    go true a true eu t et q = absurd (refused_answered 2 c q)
    go true a false eu true et q = absurd (refused_answered 2 c q)
    go true a false eu false et q =
        let paged = paged_length d eu in
        let same = answered_same (page_count d) c q in (
          v,
          record {
            known = version_of-one (length cat);
            some = omega (arith, paged.0, same);
            most = omega (arith, ltb-false (greatest_blocks v) (page_count d) et, same);
            catalogue = eqb-true (length cat) v.bytes a;
            disk = omega (arith, paged.1, same);
          },
        )

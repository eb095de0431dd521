-- Where the sections of a disk begin: those of height h of a disk of c blocks at i * 2 ^ h for each i below c / 2 ^
-- h, and nowhere else, so their indexes stop at c / 2 ^ h - 1. Assumes nothing.
use mathlib.Core.List.{[], ◌∷◌}
use mathlib.Core.Bool.{true, false}
use mathlib.Core.Logic.{◌↔◌}
use mathlib.Core.Path.{◌≡◌, ap, ◌∙◌, refl}
use Prim.Native.Nat.{ℕ, suc, ◌*◌, ◌/◌, ◌%◌, ◌^◌, ◌<◌, ◌≤◌}
use native.Mathlib.Nat.{le-div_iff_mul-le, mul-mod_left, suc-mul}
use native.Mathlib.Omega.{arith}
use lib.Pow.{pow_pos}
use Rattle.section.specs.Sections.{is_aligned, is_on_disk, section}
use Rattle.section.proofs.Answers.{on_disk_iff}
use Rattle.section.proofs.Multiples.{multiple_whole}

pub on_disk_index : (c h a : ℕ) → (is_on_disk c (section a h) ≡ true)
    ↔ ((i : ℕ) × (i < c / 2 ^ h) × (a ≡ i * 2 ^ h))
on_disk_index c h a = (to, from)
  where
    to : is_on_disk c (section a h) ≡ true → (i : ℕ) × (i < c / 2 ^ h) × (a ≡ i * 2 ^ h)
    to e =
        let d = (on_disk_iff c (section a h)).0 e in
        let whole = multiple_whole (2 ^ h) a d.0 in
        let fits : suc (a / 2 ^ h) * 2 ^ h ≤ c = omega (arith, suc-mul (a / 2 ^ h) (2 ^ h), d.1) in
        (a / 2 ^ h, (le-div_iff_mul-le (pow_pos h)).1 fits, omega (arith, whole))

    from : (i : ℕ) × (i < c / 2 ^ h) × (a ≡ i * 2 ^ h) → is_on_disk c (section a h) ≡ true
    from (i, l, e) =
        let fits : suc i * 2 ^ h ≤ c = (le-div_iff_mul-le (pow_pos h)).0 l in
        (on_disk_iff c (section a h)).1
        (ap (λ (x : ℕ). x % 2 ^ h) e ∙ mul-mod_left i (2 ^ h), omega (arith, suc-mul i (2 ^ h)))

-- a disk of 5 blocks in literal numbers: five sections of height 0, two of height 1 and one of height 2
pub sections-of-five-blocks :
    is_on_disk 5 (section 4 0) ∷ is_on_disk 5 (section 5 0)
    ∷ is_on_disk 5 (section 0 1) ∷ is_on_disk 5 (section 1 1) ∷ is_on_disk 5 (section 2 1) ∷ is_on_disk 5 (section 4 1)
    ∷ is_on_disk 5 (section 0 2) ∷ is_on_disk 5 (section 4 2) ∷ is_on_disk 5 (section 0 3) ∷ []
    ≡ true ∷ false ∷ true ∷ false ∷ true ∷ false ∷ true ∷ false ∷ false ∷ []
unfolding is_on_disk is_aligned
sections-of-five-blocks = refl

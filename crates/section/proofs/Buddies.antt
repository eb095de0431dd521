-- A section and its buddy are the halves of their parent; every other law of buddies follows. Assumes nothing.
use mathlib.Core.Path.{◌≡◌, ap, ◌∙◌}
use mathlib.Core.Logic.{◌⊎◌, inl, inr, ⊎_elim, ◌↔◌}
use Prim.Native.Nat.{ℕ, suc, ◌+◌, ◌-◌, ◌*◌, ◌/◌, ◌%◌, ◌^◌, ◌<◌, ◌≤◌}
use native.Mathlib.Nat.{div-add-mod', mod-lt, mod_self, mul-mod_left, one-mul, zero-lt-suc, zero-mul}
use native.Mathlib.Omega.{arith}
use lib.Arith.{digits_div, mod-mul}
use lib.Pow.{pow_pos}
use borrow.Author.Tests.{eq-eqb, ne_eqb}
use Rattle.section.specs.Nesting.{Halves, lower, upper}
use Rattle.section.specs.Sections.{Among, Apart, Within, buddy_first, parent_first}
use Rattle.section.proofs.Multiples.{below_or_not, multiple_whole, multiple_gap, multiple_sum, length_double}
use Rattle.section.proofs.Multiples.{aligned_lower}
use Rattle.section.proofs.Nested.{meets_inside}

pub parent_aligned : (h a : ℕ) → parent_first h a % 2 ^ suc h ≡ 0
unfolding parent_first
parent_aligned h a = mul-mod_left (a / 2 ^ suc h) (2 ^ suc h)

-- a block number is its parent's first block, the bit of the length, and what is below that bit
parent_parts : (h a : ℕ) → parent_first h a + (a / 2 ^ h % 2 * 2 ^ h + a % 2 ^ h) ≡ a
unfolding parent_first
parent_parts h a =
    let rest = ap (λ (x : ℕ). a % x) (length_double h) ∙ mod-mul a (zero-lt-suc 1) (pow_pos h) in
    omega (arith, div-add-mod' a (2 ^ suc h))

-- the parent is the only multiple of its length that is so close below
parent_unique : (h p a : ℕ) → p % 2 ^ suc h ≡ 0 → Among p (2 ^ suc h) a → parent_first h a ≡ p
unfolding parent_first
parent_unique h p a hp w =
    let n = 2 ^ suc h in
    let e = multiple_whole n p hp in
    let q = digits_div (p / n) {m = n} {r = a - p} (omega arith) in
    ap (λ (x : ℕ). x / n * n) (omega arith) ∙ ap (λ (x : ℕ). x * n) q ∙ e

pub halves : (h a : ℕ) → a % 2 ^ h ≡ 0 → Halves (2 ^ h) a (buddy_first h a) (parent_first h a)
unfolding buddy_first
halves h a ha =
    let e = parent_parts h a in
    let bit = a / 2 ^ h % 2 in
    let l = mod-lt (a / 2 ^ h) (zero-lt-suc 1) in
    elim (below_or_not bit 1) [
      | inl u ↦ (let z : bit ≡ 0 = omega arith in
          let w = ap (λ (x : ℕ). x * 2 ^ h) z in
          lower (omega (arith, zero-mul (2 ^ h))) (simp (eq-eqb bit 0 z) (omega (arith, zero-mul (2 ^ h)))))
      | inr u ↦ (let z : bit ≡ 1 = omega arith in
          let w = ap (λ (x : ℕ). x * 2 ^ h) z in
          upper
          (omega (arith, one-mul (2 ^ h)))
          (simp (ne_eqb bit 0 (λ q. omega arith)) (omega (arith, one-mul (2 ^ h)))))
    ]

pub buddy_aligned : (h a : ℕ) → a % 2 ^ h ≡ 0 → buddy_first h a % 2 ^ h ≡ 0
buddy_aligned h a ha =
    let p = aligned_lower h (suc h) (parent_first h a) (omega arith) (parent_aligned h a) in
    elim (halves h a ha) [
      | lower u v ↦ rw v (multiple_sum (2 ^ h) (parent_first h a) (2 ^ h) p (mod_self (2 ^ h)))
      | upper u v ↦ rw v p
    ]

pub buddy-parent : (h a : ℕ) → a % 2 ^ h ≡ 0 → parent_first h (buddy_first h a) ≡ parent_first h a
buddy-parent h a ha =
    let n = pow_pos h in
    let two = length_double h in
    let p = parent_aligned h a in
    elim (halves h a ha) [
      | lower u v ↦ parent_unique h (parent_first h a) (buddy_first h a) p (omega arith)
      | upper u v ↦ parent_unique h (parent_first h a) (buddy_first h a) p (omega arith)
    ]

pub buddy-buddy : (h a : ℕ) → a % 2 ^ h ≡ 0 → buddy_first h (buddy_first h a) ≡ a
buddy-buddy h a ha =
    let n = pow_pos h in
    let e = buddy-parent h a ha in
    let again = halves h (buddy_first h a) (buddy_aligned h a ha) in
    elim (halves h a ha) [
      | lower u v ↦ elim again [ lower s t ↦ omega arith | upper s t ↦ omega arith ]
      | upper u v ↦ elim again [ lower s t ↦ omega arith | upper s t ↦ omega arith ]
    ]

pub buddy-apart : (h a : ℕ) → a % 2 ^ h ≡ 0 → Apart a (2 ^ h) (buddy_first h a) (2 ^ h)
buddy-apart h a ha = elim (halves h a ha) [ lower u v ↦ inl (omega arith) | upper u v ↦ inr (omega arith) ]

pub parent_has_section : (h a : ℕ) → a % 2 ^ h ≡ 0 → Within a (2 ^ h) (parent_first h a) (2 ^ suc h)
parent_has_section h a ha =
    let two = length_double h in
    elim (halves h a ha) [ lower u v ↦ omega arith | upper u v ↦ omega arith ]

pub parent_has_buddy : (h a : ℕ) → a % 2 ^ h ≡ 0 → Within (buddy_first h a) (2 ^ h) (parent_first h a) (2 ^ suc h)
parent_has_buddy h a ha =
    let two = length_double h in
    elim (halves h a ha) [ lower u v ↦ omega arith | upper u v ↦ omega arith ]

-- the parent's blocks are those of the two
pub parent-blocks : (h a x : ℕ) → a % 2 ^ h ≡ 0
    → (Among a (2 ^ h) x ⊎ Among (buddy_first h a) (2 ^ h) x) ↔ Among (parent_first h a) (2 ^ suc h) x
parent-blocks h a x ha =
    let two = length_double h in
    elim (halves h a ha) [
      | lower u v ↦ (
        ⊎_elim (λ w. omega arith) (λ w. omega arith),
        λ w. ⊎_elim (λ l. inl (omega arith)) (λ l. inr (omega arith)) (below_or_not x (buddy_first h a)),
      )
      | upper u v ↦ (
        ⊎_elim (λ w. omega arith) (λ w. omega arith),
        λ w. ⊎_elim (λ l. inr (omega arith)) (λ l. inl (omega arith)) (below_or_not x a),
      )
    ]

-- a section that meets the buddy and not the section lies inside the buddy
pub buddy_inside : (h i a x : ℕ) → a % 2 ^ h ≡ 0 → x % 2 ^ i ≡ 0 → x < buddy_first h a + 2 ^ h
    → buddy_first h a < x + 2 ^ i
    → Apart x (2 ^ i) a (2 ^ h) → Within x (2 ^ i) (buddy_first h a) (2 ^ h)
buddy_inside h i a x ha hx =
    meets_inside
    h
    i
    (suc h)
    a
    (buddy_first h a)
    (parent_first h a)
    x
    (omega arith)
    (elim (below_or_not h i) [ inl l ↦ inr l | inr l ↦ inl l ])
    ha
    (buddy_aligned h a ha)
    (parent_aligned h a)
    hx
    (parent_has_section h a ha)
    (parent_has_buddy h a ha)

-- of two sections of one height on a disk of c blocks the lower has its buddy on the disk
pub buddy_of_lower : (h a u c : ℕ) → a % 2 ^ h ≡ 0 → u % 2 ^ h ≡ 0 → a < u → u + 2 ^ h ≤ c
    → buddy_first h a + 2 ^ h ≤ c
buddy_of_lower h a u c ha hu l f =
    let g = multiple_gap (2 ^ h) a u ha hu l in
    elim (halves h a ha) [ lower s t ↦ omega arith | upper s t ↦ omega arith ]

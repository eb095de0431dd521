-- Moving what lies inside one section to the same distance inside another. Assumes nothing.
-- The laws on numbers move the n blocks from a on, which lie among the m from b on, to u + (a - b).
use mathlib.Core.Path.{◌≡◌, refl, ap}
use mathlib.Core.Bool.{Bool, true, false}
use mathlib.Core.Logic.{inl, inr, ⊎_elim}
use Prim.Native.Nat.{ℕ, ◌+◌, ◌-◌, ◌%◌, ◌^◌, ◌≤◌}
use native.Mathlib.Omega.{arith}
use lib.Pow.{pow_pos}
use Rattle.section.specs.Sections.{Among, Apart, Within, section, length_of, is_inside, moved_into}
use Rattle.section.proofs.Answers.{inside_iff}
use Rattle.section.proofs.Multiples.{multiple_sum, multiple_difference, aligned_lower}
use Rattle.section.specs.declared.Section.{Section}

pub moved_aligned : (h i a b u : ℕ) → h ≤ i → a % 2 ^ h ≡ 0 → b % 2 ^ i ≡ 0 → u % 2 ^ i ≡ 0
    → (u + (a - b)) % 2 ^ h ≡ 0
moved_aligned h i a b u l ha hb hu =
    multiple_sum
    (2 ^ h)
    u
    (a - b)
    (aligned_lower h i u l hu)
    (multiple_difference (2 ^ h) a b ha (aligned_lower h i b l hb))

pub moved_within : (a n b m u : ℕ) → Within a n b m → Within (u + (a - b)) n u m
moved_within a n b m u w = (omega arith, omega arith)

-- the distance to what moves along stays
pub moved_distance : (a e b u : ℕ) → b ≤ a → a ≤ e → (u + (e - b)) - (u + (a - b)) ≡ e - a
moved_distance a e b u p q = omega arith

pub moved_apart : (a n e k b u : ℕ) → b ≤ a → b ≤ e → Apart a n e k → Apart (u + (a - b)) n (u + (e - b)) k
moved_apart a n e k b u p q = ⊎_elim (λ l. inl (omega arith)) (λ l. inr (omega arith))

-- a block moves with its section
pub moved-among : (a n b u x : ℕ) → b ≤ a → Among a n x → Among (u + (a - b)) n (u + (x - b))
moved-among a n b u x l w = (omega arith, omega arith)

-- ---- sections

pub moved_inside : (b u s : Section) → is_inside s b ≡ true
    → moved_into b u s ≡ section (u.first + (s.first - b.first)) s.height.value
unfolding moved_into
moved_inside b u s e = simp e

pub moved_outside : (b u s : Section) → is_inside s b ≡ false → moved_into b u s ≡ s
unfolding moved_into
moved_outside b u s e = simp e

-- what lies apart from b stays
pub moved_apart_stays : (b u s : Section) → Apart s.first (length_of s) b.first (length_of b)
    → moved_into b u s ≡ s
moved_apart_stays b u s apart = go (is_inside s b) refl apart
  where
    go : (t : Bool) → is_inside s b ≡ t → Apart s.first (length_of s) b.first (length_of b) → moved_into b u s ≡ s
    go true e (inl l) = absurd (omega (arith, ((inside_iff s b).0 e).0, pow_pos s.height.value))
    go true e (inr l) = absurd (omega (arith, ((inside_iff s b).0 e).1, pow_pos s.height.value))
    go false e w = moved_outside b u s e

-- moving keeps the height
pub moved-height : (b u s : Section) → (moved_into b u s).height.value ≡ s.height.value
moved-height b u s = go (is_inside s b) refl
  where
    go : (t : Bool) → is_inside s b ≡ t → (moved_into b u s).height.value ≡ s.height.value
    go true e = ap (λ (x : Section). x.height.value) (moved_inside b u s e)
    go false e = ap (λ (x : Section). x.height.value) (moved_outside b u s e)

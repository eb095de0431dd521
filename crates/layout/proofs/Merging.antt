-- One merge: what it keeps of the pieces, for any two free sections of one height. Assumes nothing.
-- The lower one is at a, the upper at v, both of height h; `others` are all other pieces of the disk of c blocks.
use mathlib.Core.Bool.{Bool, false, true}
use mathlib.Core.List.{List, ◌∷◌, map}
use mathlib.Core.Logic.{◌⊎◌, inl, inr}
use mathlib.Core.Path.{◌∙◌, ◌≡◌, ap, ap₂, refl, subst, sym}
use Prim.Native.Nat.{◌+◌, ◌-◌, ◌<◌, ◌^◌, ◌≤◌, suc, ℕ}
use native.Mathlib.Nat.{add_comm, mod_self}
use native.Mathlib.Omega.{arith}
use lib.Dec.{eqb}
use lib.Pow.{pow-lt, pow_pos}
use borrow.Author.Tests.{eqb-false, eqb-true}
use Rattle.layout.proofs.Lists.{each_and, each_imp, each_map, sum_ge_all}
use Rattle.layout.proofs.Moving.{Carried, carry, move_covers}
use Rattle.layout.proofs.Ranges.{in_range-apart, in_range-halves, in_range-le-one}
use Rattle.layout.specs.Covering.{Covers}
use Rattle.layout.specs.Layout.{OnDisk, holds_block, in_range}
use Rattle.layout.specs.Lists.{Each, more, sum_of}
use Rattle.layout.specs.Moves.{Movable, SameOrApart, left, moving, same}
use Rattle.section.proofs.Answers.{inside_iff}
use Rattle.section.proofs.Buddies.{buddy_aligned, buddy-apart, buddy_inside, buddy_of_lower, halves, parent_aligned}
use Rattle.section.proofs.Moves.{moved_aligned, moved_apart_stays, moved_inside}
use Rattle.section.proofs.Multiples.{below_or_not, length_double, multiple_gap, multiple_sum}
use Rattle.section.specs.Nesting.{Halves, Placed, after, before, inside, lower, upper}
use Rattle.section.specs.Sections.{Apart, Within, buddy_first, end_of, length_of, parent_first, section}
use Rattle.section.specs.declared.Section.{Section}

-- a section inside another is no higher
pub within_height : (h b : ℕ) (s : Section) → Within s.first (length_of s) b (2 ^ h) → s.height.value ≤ h
within_height h b s w = go (below_or_not h s.height.value)
  where
    go : (h < s.height.value) ⊎ (s.height.value ≤ h) → s.height.value ≤ h
    go (inl l) = absurd (omega (arith, pow-lt l))
    go (inr l) = l

module _ (c h a v : ℕ) (order : a ≤ v) (ld : OnDisk c (section a h)) (ud : OnDisk c (section v h))
    (others : List Section) (od : Each (OnDisk c) others)
    (cover : Covers c (section a h ∷ section v h ∷ others)) where
  pos : 0 < 2 ^ h
  pos = pow_pos h

  lower_below : a + 2 ^ h ≤ v
  lower_below = go (in_range-apart a (2 ^ h) v (2 ^ h) pos pos (λ x. omega (arith, cover x, in_range-le-one x 0 c)))
    where
      go : Apart a (2 ^ h) v (2 ^ h) → a + 2 ^ h ≤ v
      go (inl p) = p
      go (inr p) = omega (arith, pos)

  -- the buddy is the upper section or below it, and on the disk
  pub buddy_below : SameOrApart (buddy_first h a) v (2 ^ h) × (buddy_first h a ≤ v)
  buddy_below = go (halves h a ld.aligned) (eqb (a + 2 ^ h) v) refl
    where
      go : Halves (2 ^ h) a (buddy_first h a) (parent_first h a) → (t : Bool) → eqb (a + 2 ^ h) v ≡ t
          → SameOrApart (buddy_first h a) v (2 ^ h) × (buddy_first h a ≤ v)
      go (lower e f) true q = let z = eqb-true (a + 2 ^ h) v q in (same (omega arith), omega arith)
      go (lower e f) false q =
          let ne : a + 2 ^ h ≡ v → ⊥ = eqb-false (a + 2 ^ h) v q in
          let lt : a + 2 ^ h < v = omega (arith, lower_below) in
          let up = multiple_sum (2 ^ h) a (2 ^ h) ld.aligned (mod_self (2 ^ h)) in
          let gap = multiple_gap (2 ^ h) (a + 2 ^ h) v up ud.aligned lt in
          (left (omega arith), omega arith)
      go (upper e f) t q = (left (omega (arith, lower_below)), omega (arith, lower_below))

  pub buddy_on_disk : buddy_first h a + 2 ^ h ≤ c
  buddy_on_disk = buddy_of_lower h a v c ld.aligned ud.aligned (omega (arith, lower_below, pos)) ud.within

  -- the section that the lower one and its buddy make is on the disk
  pub parent_on_disk : OnDisk c (section (parent_first h a) (suc h))
  parent_on_disk = record { aligned = parent_aligned h a; within = go (halves h a ld.aligned) }
    where
      go : Halves (2 ^ h) a (buddy_first h a) (parent_first h a) → parent_first h a + 2 ^ suc h ≤ c
      go (lower e f) = omega (arith, lower_below, ud.within, length_double h)
      go (upper e f) = omega (arith, ld.within, length_double h)

  pub parent_holds : (x : ℕ)
      → in_range x (parent_first h a) (2 ^ suc h) ≡ in_range x a (2 ^ h) + in_range x (buddy_first h a) (2 ^ h)
  parent_holds x =
      ap (λ z. in_range x (parent_first h a) z) (omega (arith, length_double h))
      ∙ (in_range-halves x (parent_first h a) (2 ^ h) (2 ^ h) ∙ go (halves h a ld.aligned))
    where
      go : Halves (2 ^ h) a (buddy_first h a) (parent_first h a)
          → in_range x (parent_first h a) (2 ^ h) + in_range x (parent_first h a + 2 ^ h) (2 ^ h)
          ≡ in_range x a (2 ^ h) + in_range x (buddy_first h a) (2 ^ h)
      go (lower e f) = sym (ap₂ (λ y z. in_range x y (2 ^ h) + in_range x z (2 ^ h)) e f)
      go (upper e f) = add_comm (in_range x (parent_first h a) (2 ^ h)) (in_range x (parent_first h a + 2 ^ h) (2 ^ h))
          ∙ sym (ap₂ (λ y z. in_range x y (2 ^ h) + in_range x z (2 ^ h)) e f)

  -- each other piece is inside the buddy or apart from it, and apart from the upper section
  movable_one : (s : Section) → OnDisk c s → ((x : ℕ) → holds_block x s ≤ sum_of (holds_block x) others)
      → Movable h (buddy_first h a) v s
  movable_one s d share =
      (go (below_or_not s.first (buddy_first h a + 2 ^ h)) (below_or_not (buddy_first h a) (end_of s)), from_upper)
    where
      len : 0 < length_of s
      len = pow_pos s.height.value

      from_upper : Apart s.first (length_of s) v (2 ^ h)
      from_upper =
          in_range-apart s.first (length_of s) v (2 ^ h) len pos
          (λ x. omega (arith, cover x, in_range-le-one x 0 c, share x))

      from_lower : Apart s.first (length_of s) a (2 ^ h)
      from_lower =
          in_range-apart s.first (length_of s) a (2 ^ h) len pos
          (λ x. omega (arith, cover x, in_range-le-one x 0 c, share x))

      go : (s.first < buddy_first h a + 2 ^ h) ⊎ (buddy_first h a + 2 ^ h ≤ s.first)
          → (buddy_first h a < end_of s) ⊎ (end_of s ≤ buddy_first h a)
          → Placed s.first (length_of s) (buddy_first h a) (2 ^ h)
      go (inr p) q = after p
      go (inl p) (inr q) = before q
      go (inl p) (inl q) =
          let w = buddy_inside h s.height.value a s.first ld.aligned d.aligned p q from_lower in
          inside w.0 w.1

  pub movable : Each (Movable h (buddy_first h a) v) others
  movable = each_imp (λ s p. movable_one s p.0 p.1) (each_and od (sum_ge_all holds_block others))

  pub carried : Each (Carried h (buddy_first h a) v) others
  carried = each_imp (λ s p. carry h (buddy_first h a) v s p) movable

  apart_placed : Apart a (2 ^ h) (buddy_first h a) (2 ^ h) → Placed a (2 ^ h) (buddy_first h a) (2 ^ h)
  apart_placed (inl p) = before p
  apart_placed (inr p) = after p

  -- every block is in exactly one piece after the merge
  pub merge_covers : Covers c (section (parent_first h a) (suc h) ∷ map (moving h (buddy_first h a) v) others)
  merge_covers x =
      let b = buddy-apart h a ld.aligned in
      let all : Each (Movable h (buddy_first h a) v) (section a h ∷ others) =
      more {a = section a h} (apart_placed b, inl lower_below) movable in
      let stays =
      ap (holds_block x) (moved_apart_stays (section (buddy_first h a) h) (section v h) (section a h) b) in
      omega (
        arith,
        move_covers h (buddy_first h a) v c buddy_below.0 buddy_on_disk ud.within all
            (λ y. omega (arith, cover y)) x,
        stays,
        parent_holds x,
      )

  pub merge_on_disk : Each (OnDisk c) (section (parent_first h a) (suc h) ∷ map (moving h (buddy_first h a) v) others)
  merge_on_disk =
      more parent_on_disk
      (each_map (moving h (buddy_first h a) v) (each_imp (λ s p. go s p.0 p.1.0) (each_and od movable)))
    where
      b : Section
      b = section (buddy_first h a) h

      stay : (s : Section) → OnDisk c s → Apart s.first (length_of s) (buddy_first h a) (2 ^ h)
          → OnDisk c (moving h (buddy_first h a) v s)
      stay s d o = subst (OnDisk c) (sym (moved_apart_stays (section (buddy_first h a) h) (section v h) s o)) d

      go : (s : Section) → OnDisk c s → Placed s.first (length_of s) (buddy_first h a) (2 ^ h)
          → OnDisk c (moving h (buddy_first h a) v s)
      go s d (inside p q) =
          let k = within_height h (buddy_first h a) s (p, q) in
          let m = moved_aligned s.height.value h s.first (buddy_first h a) v k d.aligned
          (buddy_aligned h a ld.aligned) ud.aligned in
          let e : v + (s.first - buddy_first h a) + length_of s ≤ c = omega (arith, ud.within) in
          subst (OnDisk c)
          (sym (moved_inside (section (buddy_first h a) h) (section v h) s
          ((inside_iff s (section (buddy_first h a) h)).1 (p, q))))
          (record { aligned = m; within = e })
      go s d (before p) = stay s d (inl p)
      go s d (after p) = stay s d (inr p)

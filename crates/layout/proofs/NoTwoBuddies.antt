-- Where no two buddies are taken, no free section of the height is the buddy of another, above it or below it: so if
-- two of them are buddies, two buddies are merged. Assumes nothing.
use mathlib.Core.List.{List}
use mathlib.Core.Logic.{◌⊎◌, inl, inr}
use mathlib.Core.Path.{◌∙◌, ◌≡◌, ap₂, sym}
use Prim.Native.Nat.{◌%◌, ℕ}
use native.Mathlib.Omega.{arith}
use lib.Pow.{pow_pos}
use Rattle.layout.proofs.BuddyPairs.{no_buddies_left}
use Rattle.layout.proofs.Lists.{each_and, each_given, each_imp, each_swap}
use Rattle.layout.specs.Choices.{BuddyAbove}
use Rattle.layout.specs.Layout.{OnDisk}
use Rattle.layout.specs.Lists.{Each}
use Rattle.layout.specs.Removing.{buddy_pair, fewer}
use Rattle.section.proofs.Buddies.{buddy-buddy, halves}
use Rattle.section.specs.Nesting.{Halves, lower, upper}
use Rattle.section.specs.Sections.{buddy_first, buddy_of, length_of, parent_of}
use Rattle.section.specs.declared.Section.{Section}

-- two buddies on a disk are one above the other
either_above : (l u : Section) → l.first % length_of l ≡ 0 → u.height.value ≡ l.height.value
    → (buddy_of l).first ≡ u.first → BuddyAbove l u ⊎ BuddyAbove u l
either_above l u al eh e = go (halves l.height.value l.first al)
  where
    go : Halves (length_of l) l.first (buddy_of l).first (parent_of l).first → BuddyAbove l u ⊎ BuddyAbove u l
    go (lower p q) = inl (record {
      height = eh;
      first = sym e;
      above = omega (arith, pow_pos l.height.value);
    })
    go (upper p q) = inr (record {
      height = sym eh;
      first = sym (ap₂ buddy_first eh (sym e) ∙ buddy-buddy l.height.value l.first al);
      above = omega (arith, pow_pos l.height.value);
    })

-- if none are taken, no two sections of height h are buddies
pub no_two_buddies : (c h : ℕ) (free : List Section) → Each (OnDisk c) free → buddy_pair h free ≡ fewer
    → Each (λ (l : Section). Each (λ (u : Section). l.height.value ≡ h → u.height.value ≡ h
    → (buddy_of l).first ≡ u.first → ⊥) free) free
no_two_buddies c h free disk e =
    each_imp (λ l p. each_imp (λ u q. one l u p.0 q.0 q.1) (each_and p.1.0 p.1.1))
    (each_and disk (each_and above (each_swap free above)))
  where
    above : Each (λ (l : Section). Each (λ (u : Section). l.height.value ≡ h → BuddyAbove l u → ⊥) free) free
    above = each_imp (λ l p. each_given free p) (no_buddies_left h free e)

    one : (l u : Section) → OnDisk c l → (l.height.value ≡ h → BuddyAbove l u → ⊥)
        → (u.height.value ≡ h → BuddyAbove u l → ⊥)
        → l.height.value ≡ h → u.height.value ≡ h → (buddy_of l).first ≡ u.first → ⊥
    one l u d p q lh uh b = go (either_above l u d.aligned (uh ∙ sym lh) b)
      where
        go : BuddyAbove l u ⊎ BuddyAbove u l → ⊥
        go (inl a) = p lh a
        go (inr a) = q uh a

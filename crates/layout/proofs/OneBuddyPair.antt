-- When the loop of a removal comes to a height, at most one of its free sections has its buddy above it free, so which
-- two buddies are merged is no choice. Assumes nothing.
use mathlib.Core.Bool.{Bool, ◌&&◌, false, true}
use mathlib.Core.List.{List, [], ◌∷◌}
use mathlib.Core.Path.{◌∙◌, ◌≡◌, ap, ap₂, refl}
use Prim.Native.Nat.{◌*◌, ◌+◌, ◌≤◌, ℕ}
use native.Mathlib.Omega.{arith}
use borrow.Author.Tests.{eqb-true}
use Rattle.layout.proofs.BuddyPairs.{buddy_above, not_above_lem, upper_no_buddy}
use Rattle.layout.proofs.FreeBuddies.{found_behind, found_next, free_in_order}
use Rattle.layout.proofs.Lists.{each_all, each_imp, sum_cong}
use Rattle.layout.proofs.LoopTurns.{at-height, at_height}
use Rattle.layout.proofs.Splitting.{of_height_same}
use Rattle.layout.proofs.Taking.{take_first-none}
use Rattle.layout.specs.Adding.{take_first}
use Rattle.layout.specs.Choices.{buddy_pair_count}
use Rattle.layout.specs.Covering.{count_of}
use Rattle.layout.specs.Layout.{File, InOrder, Layout, has_height}
use Rattle.layout.specs.Lists.{done, indicator, next}
use Rattle.layout.specs.Loop.{merges_from}
use Rattle.layout.specs.Removals.{Find}
use Rattle.layout.specs.Removing.{has_free_buddy, is_buddy_above, is_taken, layout_after, release}
use Rattle.layout.specs.Sums.{SoundSums}
use Rattle.section.proofs.Booleans.{false_and}
use Rattle.section.specs.declared.Section.{Section}

module _ (h : ℕ) where
  -- the first one's buddy is looked for behind it, and it is the buddy of none behind it
  pairs_step : (a : Section) (l : List Section) → InOrder (a ∷ l)
      → buddy_pair_count h (a ∷ l)
      ≡ indicator (has_height h a && is_taken (take_first (is_buddy_above a) l)) + buddy_pair_count h l
  pairs_step a l (next e ord) =
      ap₂ (λ m n. m + n)
      (ap (λ t. indicator (has_height h a && t)) (found_behind (is_buddy_above a) a l (not_above_lem a a (omega arith))))
      (sum_cong (λ s. indicator (has_free_buddy h (a ∷ l) s)) (λ s. indicator (has_free_buddy h l s))
      (each_imp (λ s q. ap (λ t. indicator (has_height h s && t))
      (found_behind (is_buddy_above s) a l (not_above_lem s a (omega arith)))) e))

  -- one that has no buddy behind it adds none
  pairs-none : (a : Section) (l : List Section) → InOrder (a ∷ l) → is_taken (take_first (is_buddy_above a) l) ≡ false
      → buddy_pair_count h (a ∷ l) ≡ buddy_pair_count h l
  pairs-none a l ord n = omega (arith, pairs_step a l ord, ap indicator (false_and (has_height h a) n))

  -- such a section and its buddy are two of height h, and no section is in two such pairs
  pub buddies_twice : (free : List Section) → InOrder free → 2 * buddy_pair_count h free ≤ count_of h free
  buddies_twice [] ord = omega arith
  buddies_twice (a ∷ []) ord =
      omega (arith, pairs-none a [] ord (ap is_taken (take_first-none (is_buddy_above a) done)))
  buddies_twice (a ∷ b ∷ l) (next e (next e' ord)) =
      go (has_height h a) (is_buddy_above a b) refl refl (buddies_twice (b ∷ l) (next e' ord)) (buddies_twice l ord)
    where
      found : is_taken (take_first (is_buddy_above a) (b ∷ l)) ≡ is_buddy_above a b
      found = found_next a b l (next e (next e' ord))

      first : buddy_pair_count h (a ∷ b ∷ l) ≡ indicator (has_height h a && is_buddy_above a b) + buddy_pair_count h (b ∷ l)
      first =
          pairs_step a (b ∷ l) (next e (next e' ord))
          ∙ ap (λ t. indicator (has_height h a && t) + buddy_pair_count h (b ∷ l)) found

      go : (s t : Bool) → has_height h a ≡ s → is_buddy_above a b ≡ t → 2 * buddy_pair_count h (b ∷ l) ≤ count_of h (b ∷ l)
          → 2 * buddy_pair_count h l ≤ count_of h l → 2 * buddy_pair_count h (a ∷ b ∷ l) ≤ count_of h (a ∷ b ∷ l)
      go true true p q one two =
          let ha = eqb-true a.height.value h p in
          let up = buddy_above a b q in
          let alone = pairs-none b l (next e' ord)
          (ap is_taken (take_first-none (is_buddy_above b) (each_all l (upper_no_buddy a b up)))) in
          omega (
            arith,
            first,
            alone,
            ap₂ (λ s t. indicator (s && t)) p q,
            of_height_same h a ha,
            of_height_same h b (up.height ∙ ha),
          )
      go true false p q one two = omega (arith, first, ap₂ (λ s t. indicator (s && t)) p q)
      go false t p q one two = omega (arith, first, ap (λ s. indicator (s && is_buddy_above a b)) p)

-- when the loop of a removal comes to height h, at most one of its free sections has its buddy above it free
pub one-buddy_pair : (K i : ℕ) (l : Layout) (f : File) (r : List File) → SoundSums K l → Find i l.files f r
    → (h : ℕ) → buddy_pair_count h (layout_after (release f l) (merges_from h 0 (release f l))).free ≤ 1
one-buddy_pair K i l f r g x h =
    let p = at-height K i l f r g x h in
    let ord = free_in_order l.blocks (at_height h f l) p.0 in
    omega (arith, buddies_twice h (at_height h f l).free ord, p.1.carried)

-- Two free sections that are buddies: which two are taken, that two are taken wherever there are two, and that merging
-- them copies nothing. Assumes nothing.
use mathlib.Core.Bool.{Bool, cond, false, true}
use mathlib.Core.List.{List, []}
use mathlib.Core.Path.{◌∙◌, ◌≡◌, ap, ap₂, refl, subst, sym}
use Prim.Native.Nat.{◌%◌, ◌*◌, ◌+◌, ◌-◌, ◌/◌, ◌<◌, ◌^◌, ◌≤◌, ℕ}
use native.Mathlib.Nat.{add-mul-div_right, one-mul}
use native.Mathlib.Omega.{arith}
use lib.Dec.{eqb, ltb}
use lib.Pow.{pow_pos}
use borrow.Author.Tests.{eq-eqb, eqb-true, le-ltb, lt-ltb, ltb-true}
use Rattle.layout.proofs.Lists.{each_imp}
use Rattle.layout.proofs.Taking.{TakesOf, take_first_is, take_first-none, takes_back, takes_test}
use Rattle.layout.specs.Adding.{Taken, nothing, take_first, taken}
use Rattle.layout.specs.Choices.{BuddiesOf, BuddyAbove, NoBuddies, Takes}
use Rattle.layout.specs.Layout.{File, Layout, has_height}
use Rattle.layout.specs.Lists.{Each}
use Rattle.layout.specs.Removing.{buddy_pair, fewer, has_free_buddy, is_buddy_above, is_taken, merge, merge_copies}
use Rattle.layout.specs.Removing.{pair}
use Rattle.layout.specs.Removing.{with_buddy, with_lower}
use Rattle.section.proofs.Booleans.{and_true, false_and}
use Rattle.section.specs.Sections.{buddy_first, buddy_of, end_of, length_of}
use Rattle.section.specs.declared.Section.{Section}

-- ---- the test

pub buddy_above : (l u : Section) → is_buddy_above l u ≡ true → BuddyAbove l u
buddy_above l u e =
    let a = and_true (has_height l.height.value u) _ e in
    let b = and_true (eqb u.first (buddy_of l).first) (ltb l.first u.first) a.1 in
    record {
      height = eqb-true u.height.value l.height.value a.0;
      first = eqb-true u.first (buddy_of l).first b.0;
      above = ltb-true l.first u.first b.1;
    }

pub is_buddy_above_lem : (l u : Section) → BuddyAbove l u → is_buddy_above l u ≡ true
is_buddy_above_lem l u b =
    rw (
      eq-eqb u.height.value l.height.value b.height,
      eq-eqb u.first (buddy_of l).first b.first,
      lt-ltb l.first u.first b.above,
    )

-- a section that is not above l is not its buddy above it
pub not_above_lem : (l u : Section) → u.first ≤ l.first → is_buddy_above l u ≡ false
not_above_lem l u le =
    false_and (has_height l.height.value u)
    (false_and (eqb u.first (buddy_of l).first) (le-ltb l.first u.first le))

-- where l has a buddy above it, l is a lower half, and the buddy begins where l ends
pub above_end : (l u : Section) → BuddyAbove l u → (l.first / length_of l % 2 ≡ 0) × (u.first ≡ end_of l)
unfolding buddy_first
above_end l u b = go (eqb (l.first / length_of l % 2) 0) refl b.first
  where
    go : (t : Bool) → eqb (l.first / length_of l % 2) 0 ≡ t → u.first ≡ cond t (end_of l) (l.first - length_of l)
        → (l.first / length_of l % 2 ≡ 0) × (u.first ≡ end_of l)
    go true z e = (eqb-true (l.first / length_of l % 2) 0 z, e)
    go false z e = absurd (omega (arith, b.above))

-- a section that begins past the end of l is not its buddy above it
pub not_past : (l u : Section) → end_of l < u.first → is_buddy_above l u ≡ false
not_past l u lt = go (is_buddy_above l u) refl
  where
    go : (t : Bool) → is_buddy_above l u ≡ t → t ≡ false
    go true e = absurd (omega (arith, (above_end l u (buddy_above l u e)).1))
    go false e = refl

-- the buddy above a section is an upper half, and has no buddy above it
pub upper_no_buddy : (l u : Section) → BuddyAbove l u → (v : Section) → is_buddy_above u v ≡ false
upper_no_buddy l u b v = go (is_buddy_above u v) refl
  where
    odd : u.first / length_of u ≡ l.first / length_of l + 1
    odd =
        let n : u.first ≡ l.first + 1 * length_of l = omega (arith, (above_end l u b).1, one-mul (length_of l)) in
        ap₂ (λ (x h : ℕ). x / 2 ^ h) n b.height ∙ add-mul-div_right l.first 1 (pow_pos l.height.value)

    go : (t : Bool) → is_buddy_above u v ≡ t → t ≡ false
    go true e = absurd (omega (arith, odd, (above_end l u b).0, (above_end u v (buddy_above u v e)).0))
    go false e = refl

-- ---- the two that are taken

-- a test cannot be passed and failed
no_both : {t : Bool} {X : Type 0} → t ≡ true → t ≡ false → X
no_both e n = absurd (let z : ◌≡◌ {A = ℕ} 0 1 = cc in omega arith)

-- two that are buddies are taken, and if none are taken there are no two
pub buddy_pair_is : (h : ℕ) (free : List Section) → BuddiesOf h free (buddy_pair h free)
unfolding buddy_pair
buddy_pair_is h free = go (take_first (has_free_buddy h free) free) (take_first_is (has_free_buddy h free) free)
  where
    alone : (l : Section) → has_free_buddy h free l ≡ false → l.height.value ≡ h
        → Each (λ (u : Section). BuddyAbove l u → ⊥) free
    alone l n e = see (take_first (is_buddy_above l) free) refl (take_first_is (is_buddy_above l) free)
      where
        see : (t : Taken) → take_first (is_buddy_above l) free ≡ t → TakesOf (is_buddy_above l) free t
            → Each (λ (u : Section). BuddyAbove l u → ⊥) free
        see (taken u r) q x = no_both (rw (eq-eqb l.height.value h e, q)) n
        see nothing q x = each_imp (λ u f b. no_both (is_buddy_above_lem l u b) f) x

    second : (l : Section) (r : List Section) → Takes (has_free_buddy h free) free l r → (q : Taken)
        → TakesOf (is_buddy_above l) r q → BuddiesOf h free (with_lower l q)
    second l r p = with_upper
      where
        both : (has_height h l ≡ true) × (is_taken (take_first (is_buddy_above l) free) ≡ true)
        both = and_true (has_height h l) (is_taken (take_first (is_buddy_above l) free)) (takes_test p)

        with_upper : (q : Taken) → TakesOf (is_buddy_above l) r q → BuddiesOf h free (with_lower l q)
        with_upper (taken u k) x = record {
          low = eqb-true l.height.value h both.0;
          buddy = buddy_above l u (takes_test x);
          between = r;
          lower = p;
          upper = x;
        }
        with_upper nothing x =
            no_both both.1
            (ap is_taken (take_first-none (is_buddy_above l) (takes_back p (not_above_lem l l (omega arith)) x)))

    go : (p : Taken) → TakesOf (has_free_buddy h free) free p → BuddiesOf h free (with_buddy p)
    go (taken l r) p = second l r p (take_first (is_buddy_above l) r) (take_first_is (is_buddy_above l) r)
    go nothing p = each_imp alone p

pub no_buddies_left : (h : ℕ) (free : List Section) → buddy_pair h free ≡ fewer → NoBuddies h free
no_buddies_left h free e = subst (BuddiesOf h free) e (buddy_pair_is h free)

-- ---- their merge

-- where u is the buddy of l, nothing is copied
pub buddies_copy_nothing : (fs : List File) (l u : Section) → (buddy_of l).first ≡ u.first → merge_copies fs l u ≡ []
buddies_copy_nothing fs l u e = rw (eq-eqb (buddy_of l).first u.first e)

-- so the merge of two that are taken as buddies copies nothing
pub merge_of_buddies : (h : ℕ) (w : Layout) {l u : Section} {r : List Section} → buddy_pair h w.free ≡ pair l u r
    → (merge l u r w).copies ≡ []
unfolding merge
merge_of_buddies h w {l} {u} e =
    let b = subst (BuddiesOf h w.free) e (buddy_pair_is h w.free) in
    buddies_copy_nothing w.files l u (sym b.buddy.first)

-- Sections in order: the buddy above a section, if it is among them, stands right behind it. Assumes nothing.
use mathlib.Core.Bool.{Bool, false, true}
use mathlib.Core.List.{List, [], ◌++◌, ◌∷◌}
use mathlib.Core.Logic.{inl, inr}
use mathlib.Core.Path.{◌∙◌, ◌≡◌, ap, refl}
use Prim.Native.Nat.{◌<◌, ◌≤◌, suc, zero, ℕ}
use native.Mathlib.Omega.{arith}
use lib.ListN.{drop, get_or, length, take}
use lib.Pow.{pow_pos}
use Rattle.layout.proofs.BuddyPairs.{not_above_lem, not_past}
use Rattle.layout.proofs.Lists.{each_and, each_imp, sum-append, sum_ge_all}
use Rattle.layout.proofs.Ranges.{in_range-apart, in_range-le-one}
use Rattle.layout.proofs.Taking.{take_first_behind, take_first_here, take_first-none}
use Rattle.layout.specs.Adding.{Taken, keeping, nothing, take_first, taken}
use Rattle.layout.specs.Covering.{Rising, Whole}
use Rattle.layout.specs.Layout.{InOrder, Layout, file_pieces, holds_block}
use Rattle.layout.specs.Lists.{Each, done, more, next, none, sum_of}
use Rattle.layout.specs.Removing.{is_buddy_above, is_taken}
use Rattle.section.specs.Sections.{Apart, end_of, length_of}
use Rattle.section.specs.declared.Section.{Section}

-- sections by rising first block of which no two hold a block
pub in_order : (l : List Section) → Rising l → ((x : ℕ) → sum_of (holds_block x) l ≤ 1) → InOrder l
in_order [] none t = none
in_order (s ∷ l) (next q r) t =
    next (each_imp (λ b w. one b w.0 w.1) (each_and q (sum_ge_all holds_block l)))
    (in_order l r (λ x. omega (arith, t x)))
  where
    one : (b : Section) → s.first ≤ b.first → ((x : ℕ) → holds_block x b ≤ sum_of (holds_block x) l)
        → end_of s ≤ b.first
    one b le g =
        go (in_range-apart s.first (length_of s) b.first (length_of b) (pow_pos s.height.value)
        (pow_pos b.height.value) (λ x. omega (arith, t x, g x)))
      where
        go : Apart s.first (length_of s) b.first (length_of b) → end_of s ≤ b.first
        go (inl p) = p
        go (inr p) = absurd (omega (arith, pow_pos b.height.value))

-- so the free pieces of a layout, while it merges, stand in order
pub free_in_order : (c : ℕ) (w : Layout) → Whole c w → InOrder w.free
free_in_order c w wh =
    in_order w.free wh.rising
    (λ x. omega (
      arith,
      wh.covers x,
      in_range-le-one x 0 c,
      sum-append (holds_block x) (file_pieces w.files) w.free,
    ))

-- ---- what is found depends on those behind the section alone

-- one that fails the test changes nothing
pub found_behind : (q : Section → Bool) (a : Section) (l : List Section) → q a ≡ false
    → is_taken (take_first q (a ∷ l)) ≡ is_taken (take_first q l)
found_behind q a l e = ap is_taken (take_first_behind q a l e) ∙ kept (take_first q l)
  where
    kept : (t : Taken) → is_taken (keeping a t) ≡ is_taken t
    kept (taken s r) = refl
    kept nothing = refl

-- of the sections behind a only the first can be its buddy
pub found_next : (a b : Section) (l : List Section) → InOrder (a ∷ b ∷ l)
    → is_taken (take_first (is_buddy_above a) (b ∷ l)) ≡ is_buddy_above a b
found_next a b l (next (more le _) (next e _)) = go (is_buddy_above a b) refl
  where
    past : Each (λ (t : Section). is_buddy_above a t ≡ false) l
    past = each_imp (λ t q. not_past a t (omega (arith, pow_pos b.height.value))) e

    go : (t : Bool) → is_buddy_above a b ≡ t → is_taken (take_first (is_buddy_above a) (b ∷ l)) ≡ t
    go true q = ap is_taken (take_first_here (is_buddy_above a) b l q)
    go false q = found_behind (is_buddy_above a) b l q ∙ ap is_taken (take_first-none (is_buddy_above a) past)

-- ---- by places

-- a section in front is not the buddy above one behind it
before_no_buddy : (a : Section) {l : List Section} → Each (λ (t : Section). end_of a ≤ t.first) l → (i : ℕ)
    (d : Section) → i < length l → is_buddy_above (get_or l i d) a ≡ false
before_no_buddy a done i d p = absurd (omega arith)
before_no_buddy a (more {a = s} q e) zero d p = not_above_lem s a (omega arith)
before_no_buddy a (more q e) (suc i) d p = before_no_buddy a e i d (omega arith)

-- a free buddy above a section stands right behind it
pub next-buddy : (free : List Section) → InOrder free → (i : ℕ) (d : Section) → suc i < length free
    → is_taken (take_first (is_buddy_above (get_or free i d)) free) ≡ is_buddy_above (get_or free i d) (get_or free (suc i) d)
next-buddy [] ord i d p = absurd (omega arith)
next-buddy (a ∷ []) ord i d p = absurd (omega arith)
next-buddy (a ∷ b ∷ l) ord zero d p =
    found_behind (is_buddy_above a) a (b ∷ l) (not_above_lem a a (omega arith)) ∙ found_next a b l ord
next-buddy (a ∷ b ∷ l) (next e ord) (suc i) d p =
    found_behind (is_buddy_above (get_or (b ∷ l) i d)) a (b ∷ l) (before_no_buddy a e i d (omega arith))
    ∙ next-buddy (b ∷ l) ord i d (omega arith)

-- and the last has none
pub last_no_buddy : (free : List Section) → InOrder free → (i : ℕ) (d : Section) → suc i ≡ length free
    → is_taken (take_first (is_buddy_above (get_or free i d)) free) ≡ false
last_no_buddy [] ord i d p = absurd (omega arith)
last_no_buddy (a ∷ []) ord zero d p =
    ap is_taken (take_first-none (is_buddy_above a) (more (not_above_lem a a (omega arith)) done))
last_no_buddy (a ∷ []) ord (suc i) d p = absurd (omega arith)
last_no_buddy (a ∷ b ∷ l) ord zero d p = absurd (omega arith)
last_no_buddy (a ∷ b ∷ l) (next e ord) (suc i) d p =
    found_behind (is_buddy_above (get_or (b ∷ l) i d)) a (b ∷ l) (before_no_buddy a e i d (omega arith))
    ∙ last_no_buddy (b ∷ l) ord i d (omega arith)

-- with the section at a place taken out, its buddy is taken from the same place
pub buddy_place : (free : List Section) → InOrder free → (i : ℕ) (d : Section) → suc i < length free
    → is_buddy_above (get_or free i d) (get_or free (suc i) d) ≡ true
    → take_first (is_buddy_above (get_or free i d)) (take i free ++ drop (suc i) free)
    ≡ taken (get_or free (suc i) d) (take i free ++ drop (suc (suc i)) free)
buddy_place [] ord i d p e = absurd (omega arith)
buddy_place (a ∷ []) ord i d p e = absurd (omega arith)
buddy_place (a ∷ b ∷ l) ord zero d p e = take_first_here (is_buddy_above a) b l e
buddy_place (a ∷ b ∷ l) (next q ord) (suc i) d p e =
    take_first_behind (is_buddy_above (get_or (b ∷ l) i d)) a (take i (b ∷ l) ++ drop (suc i) (b ∷ l))
    (before_no_buddy a q i d (omega arith))
    ∙ ap (keeping a) (buddy_place (b ∷ l) ord i d (omega arith) e)

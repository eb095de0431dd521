-- Where no two free pieces of a height are buddies, the two lowest of the height are merged: L below U, and every
-- other of the height begins above U. With two removals in literal numbers that have three free pieces of one height.
-- Assumes nothing.
use mathlib.Core.Bool.{Bool, false, true}
use mathlib.Core.List.{List, [], ◌∷◌}
use mathlib.Core.Path.{◌∙◌, ◌≡◌, refl, subst, sym}
use Prim.Native.Nat.{◌+◌, ◌<◌, ◌≤◌, ℕ}
use native.Mathlib.Nat.{le_of_lt}
use native.Mathlib.Omega.{arith}
use lib.Dec.{eqb}
use borrow.Author.Tests.{eqb-false, eqb-true}
use Rattle.layout.proofs.BuddyPairs.{buddy_pair_is}
use Rattle.layout.proofs.Lists.{each_and, each_imp, pairwise_imp, sum_ge_all}
use Rattle.layout.proofs.MergePairs.{lowest_two_is, lowest_two-lowest, merge_pair-lowest, LowestOf, MergeableOf}
use Rattle.layout.proofs.Occurs.{occurs-none, occurs-one}
use Rattle.layout.proofs.Taking.{takes_each}
use Rattle.layout.specs.Adding.{take_first}
use Rattle.layout.specs.Layout.{file_pieces, in_range}
use Rattle.layout.specs.Lists.{Each, done, indicator, insert_by, more, next, none, sort_by, sum_of}
use Rattle.layout.specs.Removing.{MergePair, buddy_pair, copies_from, copies_of, copy_run, fewer, insert_all}
use Rattle.layout.specs.Removing.{layout_after, lowest_two, merge, merge_all, merge_pair, next_merge, pair, release}
use Rattle.layout.specs.Removing.{removal, without_file}
use Rattle.section.specs.Sections.{buddy_first, is_inside, moved_into, parent_first, section}
use Rattle.section.specs.declared.Section.{Section}
use Rattle.layout.specs.Choices.{AreLowest, BuddiesOf, NoTwoBuddies, RisingStrictly}
use Rattle.layout.specs.Cases.{copy, file, removed}

-- ---- the law

-- none are taken as buddies where no two are
no_buddies_taken : (h : ℕ) (free : List Section) → NoTwoBuddies h free → buddy_pair h free ≡ fewer
no_buddies_taken h free alone = go (buddy_pair h free) (buddy_pair_is h free)
  where
    go : (t : MergePair) → BuddiesOf h free t → t ≡ fewer
    go (pair l u r) b =
        let of-l = (takes_each b.lower alone).0 in
        let of-u = (takes_each b.upper (takes_each b.lower of-l).1).0 in
        absurd (of-u b.low (b.buddy.height ∙ b.low) (sym b.buddy.first))
    go fewer b = refl

-- 1 if a section begins at x, else 0
abbrev begins_at : ℕ → Section → ℕ
begins_at x s = indicator (eqb s.first x)

begins_once : {l : List Section} → RisingStrictly l → (x : ℕ) → sum_of (begins_at x) l ≤ 1
begins_once none x = omega arith
begins_once (next {a = a} {l = l} e p) x = go (eqb a.first x) refl (begins_once p x)
  where
    past : {m : List Section} → Each (λ (s : Section). x < s.first) m → sum_of (begins_at x) m ≡ 0
    past done = refl
    past (more {a = s} q qs) = omega (arith, occurs-none s.first x (λ z. omega arith), past qs)

    go : (t : Bool) → eqb a.first x ≡ t → sum_of (begins_at x) l ≤ 1 → begins_at x a + sum_of (begins_at x) l ≤ 1
    go true q ih =
        let at : a.first ≡ x = eqb-true a.first x q in
        omega (arith, past (each_imp (λ s z. omega arith) e), occurs-one a.first x at)
    go false q ih = omega (arith, occurs-none a.first x (eqb-false a.first x q))

pub lowest_are_merged : (h : ℕ) (free : List Section) {l u : Section} {r : List Section} → RisingStrictly free
    → NoTwoBuddies h free → merge_pair h free ≡ pair l u r → AreLowest h l u r
lowest_are_merged h free {l} {u} {r} rise alone e =
    let weak = pairwise_imp (λ a b p. le_of_lt p) rise in
    let two : lowest_two h free ≡ pair l u r = sym (merge_pair-lowest h free (no_buddies_taken h free alone)) ∙ e in
    let m = subst (MergeableOf h free) two (lowest_two_is h free weak) in
    let once : begins_at u.first l + sum_of (begins_at u.first) r ≡ 0 =
    omega (arith, m.sum (begins_at u.first), begins_once rise u.first, occurs-one u.first u.first refl) in
    record {
      low = m.low;
      high = m.high;
      order = omega (arith, m.order, elsewhere l (omega (arith, once)));
      above =
          each_imp (λ s q z. omega (arith, q.0 z, elsewhere s (omega (arith, once, q.1 u.first))))
          (each_and (subst (LowestOf h) two (lowest_two-lowest h free weak)) (sum_ge_all begins_at r));
    }
  where
    elsewhere : (s : Section) → begins_at u.first s ≡ 0 → s.first ≡ u.first → ⊥
    elsewhere s q z = omega (arith, occurs-one s.first u.first z)

-- ---- removals

-- height 1 has free pieces at 0, 4 and 8, no two of them buddies: those at 0 and 4 are merged, and what lies in the
-- buddy of the lowest moves to 4
pub removal-lowest-of-three :
    removed (file 1 (section 8 1 ∷ section 2 0 ∷ []))
    (record {
      blocks = 12;
      files =
          file 1 (section 8 1 ∷ section 2 0 ∷ []) ∷ file 2 (section 1 0 ∷ []) ∷ file 3 (section 3 0 ∷ [])
          ∷ file 4 (section 6 1 ∷ []) ∷ file 5 (section 10 1 ∷ []) ∷ [];
      free = section 0 0 ∷ section 4 1 ∷ [];
    })
    ≡ record {
      copies = copy 1 2 ∷ copy 2 4 ∷ copy 3 5 ∷ [];
      after = record {
        blocks = 12;
        files =
            file 2 (section 4 0 ∷ []) ∷ file 3 (section 5 0 ∷ []) ∷ file 4 (section 6 1 ∷ [])
            ∷ file 5 (section 10 1 ∷ []) ∷ [];
        free = section 0 2 ∷ section 8 1 ∷ [];
      };
    }
unfolding removal release merge_all next_merge merge_pair buddy_pair lowest_two merge take_first file_pieces in_range copy_run
    copies_from copies_of layout_after insert_all without_file insert_by sort_by moved_into is_inside buddy_first parent_first
removal-lowest-of-three = refl

-- with the third at 6 it is the buddy of the one at 4: these two are merged, and only the merge of height 0 copies
pub removal_buddies_of_three :
    removed (file 1 (section 6 1 ∷ section 2 0 ∷ []))
    (record {
      blocks = 8;
      files = file 1 (section 6 1 ∷ section 2 0 ∷ []) ∷ file 2 (section 1 0 ∷ []) ∷ file 3 (section 3 0 ∷ []) ∷ [];
      free = section 0 0 ∷ section 4 1 ∷ [];
    })
    ≡ record {
      copies = copy 1 2 ∷ [];
      after = record {
        blocks = 8;
        files = file 2 (section 2 0 ∷ []) ∷ file 3 (section 3 0 ∷ []) ∷ [];
        free = section 0 1 ∷ section 4 2 ∷ [];
      };
    }
unfolding removal release merge_all next_merge merge_pair buddy_pair lowest_two merge take_first file_pieces in_range copy_run
    copies_from copies_of layout_after insert_all without_file insert_by sort_by moved_into is_inside buddy_first parent_first
removal_buddies_of_three = refl

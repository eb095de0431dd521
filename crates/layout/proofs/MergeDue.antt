-- Merging goes on while a height has two free sections, and not only where it has more; between two buddies nothing is
-- copied. With a removal that merges at every height in literal numbers. Assumes nothing.
use mathlib.Core.List.{List, [], ◌∷◌}
use mathlib.Core.Logic.{◌↔◌}
use mathlib.Core.Path.{◌≡◌, refl, subst}
use Prim.Native.Nat.{◌<◌, ◌^◌, ◌≤◌, ℕ}
use native.Mathlib.Nat.{zero-add}
use native.Mathlib.Omega.{arith}
use Rattle.layout.proofs.BuddyPairs.{buddies_copy_nothing}
use Rattle.layout.proofs.MergeAll.{NextIs, next_merge_is}
use Rattle.layout.specs.Adding.{take_first}
use Rattle.layout.specs.Layout.{Layout, file_pieces, in_range, of_height}
use Rattle.layout.specs.Lists.{insert_by, sort_by, sum_of}
use Rattle.layout.specs.Removing.{Merge, Next, buddy_pair, copies_from, copies_of, copy_run, due, insert_all}
use Rattle.layout.specs.Removing.{layout_after, lowest_two, merge, merge_all, merge_pair, next_merge, release}
use Rattle.layout.specs.Removing.{removal, settled, without_file}
use Rattle.section.specs.Sections.{buddy_first, buddy_of, is_inside, moved_into, parent_first, section}
use Rattle.section.specs.declared.Section.{Section}
use Rattle.layout.specs.Cases.{file, removed}
use Rattle.layout.specs.Covering.{Whole}

-- a merge is due exactly if some height has two free pieces
pub merge_due_iff : (c K : ℕ) → c < 2 ^ K → (w : Layout) → Whole c w
    → ((m : Merge) × (next_merge K 0 w ≡ due m)) ↔ ((h : ℕ) × (2 ≤ sum_of (of_height h) w.free))
merge_due_iff c K top w wh = (to, from)
  where
    is : NextIs c K w (next_merge K 0 w)
    is = next_merge_is c K top K 0 w wh (zero-add K) (λ j x. absurd (omega arith))

    to : (m : Merge) × (next_merge K 0 w ≡ due m) → (h : ℕ) × (2 ≤ sum_of (of_height h) w.free)
    to (m, e) = go (subst (NextIs c K w) e is)
      where
        go : NextIs c K w (due m) → (h : ℕ) × (2 ≤ sum_of (of_height h) w.free)
        go (h, lt, low, st) = (h, omega (arith, st.less))

    from : (h : ℕ) × (2 ≤ sum_of (of_height h) w.free) → (m : Merge) × (next_merge K 0 w ≡ due m)
    from (h, two) = go (next_merge K 0 w) refl is
      where
        go : (t : Next) → next_merge K 0 w ≡ t → NextIs c K w t → (m : Merge) × (next_merge K 0 w ≡ due m)
        go (due m) e p = (m, e)
        go settled e p = absurd (omega (arith, p h))

-- whichever two are merged, if U is L's buddy nothing is copied
pub buddies_merge_uncopied : (w : Layout) (l u : Section) (others : List Section) → (buddy_of l).first ≡ u.first
    → (merge l u others w).copies ≡ []
unfolding merge
buddies_merge_uncopied w l u others e = buddies_copy_nothing w.files l u e

-- ---- in literal numbers

-- one block of 4,096 is removed, and a height after the other is merged, all twelve, with no copy
pub removal_all_heights :
    removed (file 1 (section 0 0 ∷ []))
    (record {
      blocks = 4096;
      files = file 1 (section 0 0 ∷ []) ∷ [];
      free =
          section 1 0 ∷ section 2 1 ∷ section 4 2 ∷ section 8 3 ∷ section 16 4 ∷ section 32 5 ∷ section 64 6
          ∷ section 128 7 ∷ section 256 8 ∷ section 512 9 ∷ section 1024 10 ∷ section 2048 11 ∷ [];
    })
    ≡ record { copies = []; after = record { blocks = 4096; files = []; free = section 0 12 ∷ [] } }
unfolding removal release merge_all next_merge merge_pair buddy_pair lowest_two merge take_first file_pieces in_range copy_run
    copies_from copies_of layout_after insert_all without_file insert_by sort_by moved_into is_inside buddy_first parent_first
removal_all_heights = refl

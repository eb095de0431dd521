-- A merge keeps all that `MergeKeeps` says, whichever two free sections of one height it takes. Assumes nothing.
use mathlib.Core.Bool.{Bool, ◌&&◌, false, true}
use mathlib.Core.List.{List, ◌++◌, ◌∷◌, map}
use mathlib.Core.Logic.{inl, inr}
use mathlib.Core.Path.{◌∙◌, ◌≡◌, ap, ap₂, refl, subst, sym}
use Prim.Native.Nat.{◌+◌, ◌<◌, ◌^◌, ◌≤◌, suc, ℕ}
use native.Mathlib.Omega.{arith}
use lib.Dec.{leb, ltb}
use borrow.Author.Tests.{le-leb, le-ltb, leb-true, lt-leb, lt-ltb, ltb-true}
use Rattle.layout.proofs.Lists.{each_append, each_head, each_imp, each_insert, each_left, each_right}
use Rattle.layout.proofs.Lists.{each_sort, each_tail, length-sum, map-append, sum-append, sum_insert}
use Rattle.layout.proofs.Lists.{sum-map, sum_sort}
use Rattle.layout.proofs.MergeKeeps.{copies-le}
use Rattle.layout.proofs.MergeParts.{merge_parts}
use Rattle.layout.proofs.Merging.{merge_covers, merge_on_disk}
use Rattle.layout.proofs.MergingCopies.{merge-apart, merge_copies_rise, merge-files, merge_reach}
use Rattle.layout.proofs.MergingCopies.{merge_sources_held, merge_targets_held}
use Rattle.layout.proofs.MovedPieces.{count_moved, pieces_moved, section_eta, sum_moved}
use Rattle.layout.proofs.Ranges.{in_range_inside, in_range-le-one}
use Rattle.layout.proofs.Splitting.{of_height_other, of_height_same}
use Rattle.layout.proofs.Taking.{insert_rising, sort_rising}
use Rattle.layout.specs.Choices.{Mergeable}
use Rattle.layout.specs.Covering.{Whole, count_of}
use Rattle.layout.specs.Layout.{Layout, OnDisk, by_first, file_pieces, holds_block, in_range, of_height}
use Rattle.layout.specs.Lists.{Each, sum_of}
use Rattle.layout.specs.Merges.{IntoFree, MergeKeeps}
use Rattle.layout.specs.Moves.{MergeParts, other_pieces}
use Rattle.layout.specs.Removing.{is_held, merge, moved_file}
use Rattle.section.proofs.Booleans.{and_true, false_and}
use Rattle.section.proofs.Multiples.{length_double}
use Rattle.section.specs.Sections.{Apart, buddy_first, length_of, moved_into, parent_first, section}
use Rattle.section.specs.declared.Section.{Section}

-- the merge of the free sections of height h at a and v
module _ (c h a v : ℕ) (w : Layout) (r : List Section) (wh : Whole c w)
    (p : Mergeable h w.free (section a h) (section v h) r) where
  parts : MergeParts c w (section a h) (section v h) r
  parts = merge_parts c w (section a h) (section v h) r wh p

  free_sum : (g : Section → ℕ)
      → sum_of g (merge (section a h) (section v h) r w).after.free
      ≡ g (section (parent_first h a) (suc h))
      + sum_of g (map (moved_into (section (buddy_first h a) h) (section v h)) r)
  unfolding merge
  free_sum g = sum_insert g by_first _ _ ∙ ap (λ z. g (section (parent_first h a) (suc h)) + z) (sum_sort g by_first _)

  counted : (j : ℕ)
      → count_of j (merge (section a h) (section v h) r w).after.free
      ≡ of_height j (section (parent_first h a) (suc h)) + count_of j r
  counted j =
      free_sum (of_height j)
      ∙ ap (λ z. of_height j (section (parent_first h a) (suc h)) + z)
      (count_moved (section (buddy_first h a) h) (section v h) j r)

  -- the pieces after the merge, apart from the new free section
  moved_pieces : map (moved_into (section (buddy_first h a) h) (section v h)) (file_pieces w.files ++ r)
      ≡ file_pieces (map (moved_file (section (buddy_first h a) h) (section v h)) w.files)
      ++ map (moved_into (section (buddy_first h a) h) (section v h)) r
  moved_pieces =
      map-append (moved_into (section (buddy_first h a) h) (section v h)) (file_pieces w.files) r
      ∙ ap (λ z. z ++ map (moved_into (section (buddy_first h a) h) (section v h)) r)
      (sym (pieces_moved (section (buddy_first h a) h) (section v h) w.files))

  abbrev files' : List Section
  files' = file_pieces (map (moved_file (section (buddy_first h a) h) (section v h)) w.files)

  abbrev rest' : List Section
  rest' = map (moved_into (section (buddy_first h a) h) (section v h)) r

  merge_whole : Whole c (merge (section a h) (section v h) r w).after
  unfolding merge
  merge_whole = record {
    disk =
        each_append {l = files'} (each_left files' rest' (each_tail moved-disk))
        (each_insert by_first (section (parent_first h a) (suc h)) (each_head moved-disk)
        (each_sort by_first (each_right files' rest' (each_tail moved-disk))));
    rising = insert_rising (section (parent_first h a) (suc h)) (sort_rising rest');
    covers = λ x. omega (
      arith,
      subst (λ z. holds_block x (section (parent_first h a) (suc h)) + sum_of (holds_block x) z ≡ in_range x 0 c)
          moved_pieces
          (merge_covers c h a v p.order parts.lower parts.upper (other_pieces w r) parts.others
          parts.covers x),
      sum-append (holds_block x) files' (merge (section a h) (section v h) r w).after.free,
      sum-append (holds_block x) files' rest',
      free_sum (holds_block x),
    );
  }
    where
      moved-disk : Each (OnDisk c) (section (parent_first h a) (suc h) ∷ (files' ++ rest'))
      moved-disk =
          subst (λ z. Each (OnDisk c) (section (parent_first h a) (suc h) ∷ z)) moved_pieces
          (merge_on_disk c h a v p.order parts.lower parts.upper (other_pieces w r) parts.others
          parts.covers)

  merge_into_free : IntoFree w.files (merge (section a h) (section v h) r w).copies
  unfolding merge
  merge_into_free = record {
    into = among;
    each =
        each_imp (λ x q. (off_among x.source q.0, in_among x.target q.1))
        (merge-apart c h a v w r parts);
    vacant = empty;
  }
    where
      among : ℕ → Bool
      among x = leb v x && ltb x (v + 2 ^ h)

      off_among : (x : ℕ) → Apart x 1 v (2 ^ h) → among x ≡ false
      off_among x (inl q) = ap (λ t. t && ltb x (v + 2 ^ h)) (lt-leb v x (omega arith))
      off_among x (inr q) = false_and (leb v x) (le-ltb x (v + 2 ^ h) q)

      in_among : (x : ℕ) → (v ≤ x) × (x < v + 2 ^ h) → among x ≡ true
      in_among x (q, s) = ap₂ (λ y t. y && t) (le-leb v x q) (lt-ltb x (v + 2 ^ h) s)

      empty : (x : ℕ) → among x ≡ true → sum_of (holds_block x) (file_pieces w.files) ≡ 0
      empty x e =
          let q = and_true (leb v x) (ltb x (v + 2 ^ h)) e in
          omega (
            arith,
            parts.covers x,
            in_range-le-one x 0 c,
            sum-append (holds_block x) (file_pieces w.files) r,
            in_range_inside x v (2 ^ h) (leb-true v x q.0) (ltb-true x (v + 2 ^ h) q.1),
          )

  merge_keeps_at : MergeKeeps c h w (merge (section a h) (section v h) r w)
  unfolding merge
  merge_keeps_at = record {
    whole = merge_whole;
    blocks = refl;
    less = omega (
      arith,
      p.sum (of_height h),
      counted h,
      of_height_same h (section a h) refl,
      of_height_same h (section v h) refl,
      of_height_other h (section (parent_first h a) (suc h)) (λ e. omega arith),
    );
    plus = omega (
      arith,
      p.sum (of_height (suc h)),
      counted (suc h),
      of_height_same (suc h) (section (parent_first h a) (suc h)) refl,
      of_height_other (suc h) (section a h) (λ e. omega arith),
      of_height_other (suc h) (section v h) (λ e. omega arith),
    );
    same = λ j x y. omega (
      arith,
      p.sum (of_height j),
      counted j,
      of_height_other j (section (parent_first h a) (suc h)) (λ e. y (sym e)),
      of_height_other j (section a h) (λ e. x (sym e)),
      of_height_other j (section v h) (λ e. x (sym e)),
    );
    size = omega (
      arith,
      free_sum length_of,
      sum_moved (section (buddy_first h a) h) (section v h) (λ n. 2 ^ n) r,
      p.sum length_of,
      length_double h,
    );
    shorter = omega (
      arith,
      length-sum (merge (section a h) (section v h) r w).after.free,
      free_sum (λ _. 1),
      length-sum w.free,
      p.sum (λ _. 1),
      sum-map (λ _. 1) (moved_into (section (buddy_first h a) h) (section v h)) r,
    );
    few = copies-le (is_held w.files) h (buddy_first h a) v;
    reach = merge_reach c h a v w r parts;
    rise = merge_copies_rise c h a v w r parts;
    held = merge_sources_held c h a v w r parts;
    filled = merge_targets_held c h a v w r parts;
    apart = merge_into_free;
    files = merge-files c h a v w r parts;
  }

-- what a merge keeps, whichever two free sections of one height it takes
pub merge_keeps : (c h : ℕ) (w : Layout) (l u : Section) (r : List Section) → Whole c w
    → Mergeable h w.free l u r → MergeKeeps c h w (merge l u r w)
merge_keeps c h w l u r wh p =
    subst (λ x. MergeKeeps c h w (merge x u r w)) (sym (section_eta l h p.low))
    (subst (λ y. MergeKeeps c h w (merge (section l.first h) y r w)) (sym (section_eta u h p.high))
    (merge_keeps_at c h l.first u.first w r wh
    (subst (λ x. Mergeable h w.free x (section u.first h) r) (section_eta l h p.low)
    (subst (λ y. Mergeable h w.free l y r) (section_eta u h p.high) p))))

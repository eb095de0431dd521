-- The copies of one merge: where they bring each block of a file, and which blocks they read and write. Assumes
-- nothing.
use mathlib.Core.Bool.{true}
use mathlib.Core.List.{List, map}
use mathlib.Core.Logic.{inl, inr}
use mathlib.Core.Path.{◌∙◌, ◌≡◌, ap, sym}
use Prim.Native.Nat.{◌+◌, ◌<◌, ◌^◌, ◌≤◌, ℕ}
use native.Mathlib.Omega.{arith}
use lib.Dec.{ltb}
use borrow.Author.Tests.{lt-ltb}
use Rattle.layout.proofs.FilesMoved.{Goes, files-moved}
use Rattle.layout.proofs.Lists.{each_and, each_imp, each_left, sum_ge_all}
use Rattle.layout.proofs.MergeCopies.{MergeCopy, merge-origin, merge_within}
use Rattle.layout.proofs.MovedPieces.{pieces_moved}
use Rattle.layout.proofs.Moving.{carry, move_holds}
use Rattle.layout.proofs.Origins.{InRun}
use Rattle.layout.proofs.Ranges.{in_range_inside}
use Rattle.layout.proofs.Swaps.{swap, swap-first, swap-swap}
use Rattle.layout.specs.Layout.{File, Layout, file_pieces, holds_block}
use Rattle.layout.specs.Lists.{Each, Zipped, sum_of}
use Rattle.layout.specs.Merges.{InDisk, Moved, origin}
use Rattle.layout.specs.Moves.{MergeParts, Movable, SameOrApart, left, moving, right, run_or_none, same}
use Rattle.layout.specs.Removing.{Copy, is_held, moved_file}
use Rattle.section.proofs.Answers.{inside_iff}
use Rattle.section.proofs.Moves.{moved_apart_stays, moved_inside}
use Rattle.section.specs.Nesting.{Placed, after, before, inside}
use Rattle.section.specs.Sections.{Apart, buddy_first, length_of, section}
use Rattle.section.specs.declared.Section.{Section}

module _ (c h a v : ℕ) (w : Layout) (r : List Section) (q : MergeParts c w (section a h) (section v h) r) where
  abbrev copies : List Copy
  copies = run_or_none (is_held w.files) (2 ^ h) (buddy_first h a) v

  abbrev files' : List File
  files' = map (moved_file (section (buddy_first h a) h) (section v h)) w.files

  within : Each (MergeCopy (is_held w.files) h (buddy_first h a) v) copies
  within = merge_within (is_held w.files) h (buddy_first h a) v

  -- the pieces of files can be moved
  movable : Each (Movable h (buddy_first h a) v) (file_pieces w.files)
  movable = each_left (file_pieces w.files) r q.movable

  -- the copies bring every block of a file to its new place, and to no lower one
  pub merge-files : Zipped (Moved copies) w.files files'
  merge-files = files-moved (section (buddy_first h a) h) (section v h) copies w.files goes
    where
      off_one : (s : Section) (i : ℕ) → i < length_of s → Apart s.first (length_of s) v (2 ^ h)
          → Apart (s.first + i) 1 v (2 ^ h)
      off_one s i lt (inl p) = inl (omega arith)
      off_one s i lt (inr p) = inr (omega arith)

      stays : (s : Section) → Apart s.first (length_of s) (buddy_first h a) (2 ^ h)
          → s.first ≤ (moving h (buddy_first h a) v s).first
      stays s o = omega (
        arith,
        ap (λ (t : Section). t.first) (moved_apart_stays (section (buddy_first h a) h) (section v h) s o),
      )

      up : (s : Section) → Placed s.first (length_of s) (buddy_first h a) (2 ^ h)
          → s.first ≤ (moving h (buddy_first h a) v s).first
      up s (inside p e) =
          omega (
            arith,
            ap (λ (t : Section). t.first)
                (moved_inside (section (buddy_first h a) h) (section v h) s
                ((inside_iff s (section (buddy_first h a) h)).1 (p, e))),
            q.below,
          )
      up s (before p) = stays s (inl p)
      up s (after p) = stays s (inr p)

      -- a block of a file's piece is held
      held : (s : Section) → ((x : ℕ) → holds_block x s ≤ sum_of (holds_block x) (file_pieces w.files)) → (i : ℕ)
          → i < length_of s → is_held w.files (s.first + i) ≡ true
      held s g i lt =
          lt-ltb 0 (sum_of (holds_block (s.first + i)) (file_pieces w.files))
          (omega (
            arith,
            g (s.first + i),
            in_range_inside (s.first + i) s.first (length_of s) (omega arith) (omega arith),
          ))

      goes : Each (Goes copies (moving h (buddy_first h a) v)) (file_pieces w.files)
      goes =
          each_imp (λ s p. (
            (λ i lt. ap (origin copies) (carry h (buddy_first h a) v s p.1 i lt)
                ∙ merge-origin (is_held w.files) h (buddy_first h a) v q.place (s.first + i)
                (held s p.0 i lt) (off_one s i lt p.1.1)),
            up s p.1.0,
          ))
          (each_and (sum_ge_all holds_block (file_pieces w.files)) movable)

  pub merge_reach : Each (InDisk c) copies
  merge_reach =
      each_imp (λ x k. record {
        source = omega (arith, k.run.from, k.run.less, q.buddy.within);
        target = omega (arith, k.run.to, k.run.less, q.upper.within);
      })
      within

  -- every block that is copied is held by a file before the merge
  pub merge_sources_held : Each (λ (x : Copy). is_held w.files x.source ≡ true) copies
  merge_sources_held = each_imp (λ x k. k.held) within

  -- and the block that it is copied to after it: blocks that stay free are not written
  pub merge_targets_held : Each (λ (x : Copy). is_held files' x.target ≡ true) copies
  merge_targets_held = each_imp (λ x k. ap (λ n. ltb 0 n) (sums x k.run) ∙ k.held) within
    where
      back : (x : Copy) → InRun (buddy_first h a) v (2 ^ h) x
          → swap (buddy_first h a) v (2 ^ h) x.target ≡ x.source
      back x k =
          let to : swap (buddy_first h a) v (2 ^ h) x.source ≡ x.target =
          swap-first (buddy_first h a) v (2 ^ h) x.source (omega (arith, k.from))
          (omega (arith, k.from, k.less))
          ∙ omega (arith, k.from, k.to) in
          ap (swap (buddy_first h a) v (2 ^ h)) (sym to) ∙ swap-swap (buddy_first h a) v (2 ^ h) q.place x.source

      sums : (x : Copy) → InRun (buddy_first h a) v (2 ^ h) x
          → sum_of (holds_block x.target) (file_pieces files')
          ≡ sum_of (holds_block x.source) (file_pieces w.files)
      sums x k =
          ap (sum_of (holds_block x.target))
          (pieces_moved (section (buddy_first h a) h) (section v h) w.files)
          ∙ (move_holds h (buddy_first h a) v c q.place q.buddy.within q.upper.within movable x.target
          ∙ ap (λ y. sum_of (holds_block y) (file_pieces w.files)) (back x k))

  -- copies come from blocks outside the upper section and go to blocks inside it
  pub merge-apart :
      Each (λ x. Apart x.source 1 v (2 ^ h) × ((v ≤ x.target) × (x.target < v + 2 ^ h))) copies
  merge-apart =
      each_imp
      (λ x k. (
        off q.place x k.run k.other,
        (omega (arith, k.run.to), omega (arith, k.run.to, k.run.less)),
      ))
      within
    where
      off : SameOrApart (buddy_first h a) v (2 ^ h) → (x : Copy) → InRun (buddy_first h a) v (2 ^ h) x
          → (buddy_first h a ≡ v → ⊥) → Apart x.source 1 v (2 ^ h)
      off (same e) x k n = absurd (n e)
      off (left p) x k n = inl (omega (arith, k.from, k.less))
      off (right p) x k n = inr (omega (arith, k.from, k.less))

  -- and every copy goes to a higher block
  pub merge_copies_rise : Each (λ (x : Copy). x.source < x.target) copies
  merge_copies_rise =
      each_imp
      (λ x k. omega (
        arith,
        k.run.from,
        k.run.to,
        q.below,
        ne_lt (buddy_first h a) v q.below k.other,
      ))
      within
    where
      ne_lt : (x y : ℕ) → x ≤ y → (x ≡ y → ⊥) → x < y
      ne_lt x y l n = omega (arith, n)

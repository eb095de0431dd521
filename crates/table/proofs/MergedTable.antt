-- A table whose files and free pieces have moved stands for the layout after the merge. Assumes nothing.
use mathlib.Core.List.{List, map}
use mathlib.Core.Path.{◌∙◌, ◌≡◌, ap, ap₂, refl, subst, sym}
use Prim.Native.Nat.{◌+◌, ℕ}
use native.Mathlib.Omega.{arith}
use lib.ListN.{length, take}
use Rattle.layout.specs.Layout.{by_first}
use Rattle.layout.specs.Lists.{Each, insert_by, sort_by}
use Rattle.layout.specs.Removing.{merge, moved_file}
use Rattle.section.specs.Sections.{buddy_of, moved_into, parent_of, Addressable}
use Rattle.section.specs.declared.Section.{Section}
use Rattle.table.proofs.FileLists.{files_after}
use Rattle.table.proofs.MapFirst.{each_map_first}
use Rattle.table.specs.Moves.{map_first, moved_entry, PiecesServed}
use Rattle.free_pieces.specs.Free.{Lists, free_of}
use Rattle.table.specs.Merges.{Merged, Ready, free_after}
use Rattle.table.specs.Tables.{InPlaces, file_of, files_of, layout_of}
use Rattle.table.specs.declared.Entry.{Entry}
use Rattle.free_pieces.specs.declared.Pair.{Pair}
use Rattle.table.specs.declared.Table.{Table}

pub layout_merged : (t r : Table) (p : Pair) (b w : Section) → Addressable p.upper
    → Each PiecesServed (take t.count t.files) → r.count ≡ t.count → r.blocks ≡ t.blocks
    → b ≡ buddy_of p.lower → w ≡ parent_of p.lower
    → r.files ≡ map_first (moved_entry b p.upper) t.count t.files
    → free_of r.free ≡ insert_by by_first w (sort_by by_first (map (moved_into b p.upper) (free_of p.others)))
    → layout_of r ≡ (merge p.lower p.upper (free_of p.others) (layout_of t)).after
unfolding layout_of files_of merge
layout_merged t r p b w hu served n c eb ew fe fr = λ j. record { blocks = c j; files = files j; free = free j }
  where
    files : map file_of (take r.count r.files)
        ≡ map (moved_file (buddy_of p.lower) p.upper) (map file_of (take t.count t.files))
    files =
        ap₂ (λ k z. map file_of (take k z)) n fe
        ∙ (files_after b p.upper hu t.count t.files served
        ∙ ap (λ (x : Section). map (moved_file x p.upper) (map file_of (take t.count t.files))) eb)

    free : free_of r.free
        ≡ insert_by by_first (parent_of p.lower)
        (sort_by by_first (map (moved_into (buddy_of p.lower) p.upper) (free_of p.others)))
    free =
        fr
        ∙ ap₂
        (λ (x y : Section). insert_by by_first x (sort_by by_first (map (moved_into y p.upper) (free_of p.others))))
        ew eb

-- moving keeps the counts
pub counts_kept : (b u : Section) (m : ℕ) {l : List Entry} → Each InPlaces l
    → Each InPlaces (map_first (moved_entry b u) m l)
counts_kept b u m e = each_map_first (moved_entry b u) {P = InPlaces} m (λ a p. p) e

-- by parts: the files moved, and the free pieces after the merge
pub merged_by_parts : (t r : Table) (p : Pair) (b : Section) → Ready t p → b ≡ buddy_of p.lower
    → r.count ≡ t.count → r.blocks ≡ t.blocks
    → r.files ≡ map_first (moved_entry b p.upper) t.count t.files
    → Lists (p.others.count + 1) (free_after p) r.free
    → Merged t p r
merged_by_parts t r p b a eb n c f w =
    record {
      layout = layout_merged t r p (buddy_of p.lower) (parent_of p.lower) a.upper a.files n c refl refl
          (f ∙ ap (λ (x : Section). map_first (moved_entry x p.upper) t.count t.files) eb) w.list;
      sized = record {
        files = omega (arith, n, a.sized.files);
        free = omega (arith, w.count, a.few);
        each = subst (Each InPlaces) (sym f) (counts_kept b p.upper t.count a.sized.each);
      };
      blocks = c;
      count = n;
      free = w.count;
      exact = ap length w.list ∙ (w.exact ∙ sym w.count);
    }

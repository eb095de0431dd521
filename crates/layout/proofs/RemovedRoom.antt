-- What a removal gives back: its blocks are free, there is a file less, and the id is gone. Assumes nothing.
use mathlib.Core.Bool.{false}
use mathlib.Core.List.{List, [], ◌∷◌, map}
use mathlib.Core.Path.{◌∙◌, ◌≡◌, ap, ap₂, refl, sym}
use Prim.Native.Nat.{◌+◌, ◌^◌, suc, ℕ}
use native.Mathlib.Omega.{arith}
use lib.ListN.{length}
use borrow.Author.Tests.{ne_eqb}
use Rattle.section.specs.Sections.{length_of}
use Rattle.section.specs.declared.Section.{Section}
use Rattle.layout.proofs.FilesMoved.{moved_shapes}
use Rattle.layout.proofs.Finding.{find_length, find_sum}
use Rattle.layout.proofs.Lists.{each_imp}
use Rattle.layout.proofs.Removed.{removal_keeps}
use Rattle.layout.proofs.SoundSums.{free_size, pieces_size}
use Rattle.layout.specs.Layout.{File, Layout, file_blocks, find_file, free_blocks, has_file}
use Rattle.layout.specs.Lists.{Each, Zipped, both, ends, more, next, sum_of}
use Rattle.layout.specs.Merges.{Moved}
use Rattle.layout.specs.Removals.{Find, here, there}
use Rattle.layout.specs.Removing.{Copy, layout_after, release, removal}
use Rattle.layout.specs.Sums.{RisingIds, Shape, SoundSums, shape}

-- ---- files that were moved

heights_size : (l m : List Section)
    → map (λ (s : Section). s.height.value) m ≡ map (λ (s : Section). s.height.value) l
    → sum_of length_of m ≡ sum_of length_of l
heights_size l m e = sym (by m) ∙ (ap (sum_of (λ h. 2 ^ h)) e ∙ by l)
  where
    by : (k : List Section) → sum_of (λ h. 2 ^ h) (map (λ (s : Section). s.height.value) k) ≡ sum_of length_of k
    by [] = refl
    by (s ∷ k) = ap (λ n. 2 ^ s.height.value + n) (by k)

pub moved_total : {cs : List Copy} {fs gs : List File} → Zipped (Moved cs) fs gs
    → sum_of file_blocks gs ≡ sum_of file_blocks fs
moved_total ends = refl
moved_total (both {a = f} {b = g} p z) =
    ap₂ (λ x y. x + y) (heights_size f.pieces g.pieces p.heights) (moved_total z)

pub moved_count : {cs : List Copy} {fs gs : List File} → Zipped (Moved cs) fs gs → length gs ≡ length fs
moved_count ends = refl
moved_count (both p z) = ap suc (moved_count z)

-- ---- the id

none_missing : (i : ℕ) (l : List Shape) (fs : List File) → map shape fs ≡ l → Each (λ (s : Shape). s.id ≡ i → ⊥) l
    → has_file i fs ≡ false
unfolding find_file
none_missing i l [] e n = refl
none_missing i (s ∷ l) (f ∷ fs) e (more n r) =
    let same : f.id ≡ s.id = cc in
    let left : map shape fs ≡ l = cc in
    rw (ne_eqb f.id i (λ q. n (sym same ∙ q)), find_file) (none_missing i l fs left r)
none_missing i [] (f ∷ fs) e n = absurd (let z : ◌≡◌ {A = ℕ} 0 1 = cc in omega arith)

-- no other file has the id of one that was found
pub find_gone : {i : ℕ} {l r : List File} {f : File} → Find i l f r → RisingIds (map shape l)
    → Each (λ (s : Shape). s.id ≡ i → ⊥) (map shape r)
find_gone (here e) (next p q) = each_imp (λ s b h. omega (arith, b, e, h)) p
find_gone (there n x) (next p q) = more n (find_gone x q)

-- ---- the removal

-- the layout after the removal of f from l, with room for what f had
pub record RoomAfter (l : Layout) (i : ℕ) (f : File) (l' : Layout) : Type 0 where
  pub free : free_blocks l' ≡ free_blocks l + file_blocks f
  pub fewer : length l.files ≡ suc (length l'.files)
  pub gone : has_file i l'.files ≡ false

module _ (K i : ℕ) (l : Layout) (f : File) (r : List File) (g : SoundSums K l) (x : Find i l.files f r) where
  pub removal-room : RoomAfter l i f (layout_after (release f l) (removal K f l))
  removal-room =
      let k = removal_keeps K i l f r g x in record {
        free = omega (
          arith,
          k.blocks,
          free_size K l g,
          free_size K (layout_after (release f l) (removal K f l)) k.sound,
          moved_total k.files,
          pieces_size l.files,
          pieces_size r,
          find_sum length_of x,
        );
        fewer = find_length x ∙ ap suc (sym (moved_count k.files));
        gone =
            none_missing i (map shape r) (layout_after (release f l) (removal K f l)).files (moved_shapes k.files)
            (find_gone x g.ids);
      }

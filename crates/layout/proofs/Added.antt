-- What an add makes of a sound layout, and when it finds room. Assumes nothing.
use mathlib.Core.Bool.{Bool, false, true}
use mathlib.Core.List.{List, [], ◌∷◌, map}
use mathlib.Core.Path.{◌∙◌, ◌≡◌, ap, refl, subst, sym}
use Prim.Native.Nat.{◌%◌, ◌+◌, ◌<◌, ◌^◌, ◌≤◌, ℕ}
use native.Mathlib.Nat.{add-zero, mod-eq_of_lt}
use native.Mathlib.Omega.{arith}
use lib.Dec.{leb}
use lib.ListN.{length}
use borrow.Author.Tests.{leb-false, leb-true}
use Rattle.layout.proofs.Allocating.{AllocatesOf, allocate_is}
use Rattle.layout.proofs.Finding.{missing_none}
use Rattle.layout.proofs.Lists.{each_append, each_imp, each_insert, each_left, each_right, length_insert}
use Rattle.layout.proofs.Lists.{map_insert, sum-append, sum_insert}
use Rattle.layout.proofs.Ranges.{in_range-le-one}
use Rattle.layout.proofs.SoundSums.{falling_heights, free_is}
use Rattle.layout.specs.Adding.{Allocated, allocate, allocated, too_few, with_file}
use Rattle.layout.specs.Allocations.{Allocates, Stock}
use Rattle.layout.specs.Layout.{File, Layout, by_id, file_pieces, free_blocks, has_file, holds_block}
use Rattle.layout.specs.Lists.{Each, done, insert_by, more, next, none, sum_of}
use Rattle.layout.specs.Sound.{greatest_id}
use Rattle.layout.specs.Sums.{RisingIds, Shape, ShapeSound, SoundSums, shape}
use Rattle.section.specs.Limits.{most_files}
use Rattle.section.specs.Sections.{length_of}
use Rattle.section.specs.declared.Section.{Section}

abbrev by_shape : Shape → Shape → Bool
by_shape a b = leb a.id b.id

pub ids_insert : (a : Shape) {l : List Shape} → Each (λ (b : Shape). b.id ≡ a.id → ⊥) l → RisingIds l
    → RisingIds (insert_by by_shape a l)
unfolding insert_by
ids_insert a done none = next done none
ids_insert a (more {a = b} {l = l} n e) (next p q) = go (leb a.id b.id) refl (ids_insert a e q)
  where
    go : (t : Bool) → leb a.id b.id ≡ t → RisingIds (insert_by by_shape a l)
        → RisingIds (elim t as (λ _. List Shape) [ true ↦ a ∷ b ∷ l | false ↦ b ∷ insert_by by_shape a l ])
    go true h r =
        let x = leb-true a.id b.id h in
        let lt : a.id < b.id = omega (arith, n) in
        next (more lt (each_imp (λ c y. omega arith) p)) (next p q)
    go false h r = next (each_insert by_shape a (leb-false a.id b.id h) p) r

pub shapes_without : (i : ℕ) {l : List File} → Each (λ (f : File). f.id ≡ i → ⊥) l
    → Each (λ (s : Shape). s.id ≡ i → ⊥) (map shape l)
shapes_without i done = done
shapes_without i (more {a = f} p e) = more {a = shape f} p (shapes_without i e)

pub sum-with_file : (w : Section → ℕ) (f : File) (l : List File)
    → sum_of w (file_pieces (insert_by by_id f l)) ≡ sum_of w f.pieces + sum_of w (file_pieces l)
unfolding file_pieces
sum-with_file w f l =
    as_sum (insert_by by_id f l)
    ∙ (sum_insert (λ (g : File). sum_of w g.pieces) by_id f l ∙ ap (λ z. sum_of w f.pieces + z) (sym (as_sum l)))
  where
    as_sum : (l : List File) → sum_of w (file_pieces l) ≡ sum_of (λ (g : File). sum_of w g.pieces) l
    as_sum [] = refl
    as_sum (g ∷ l) = sum-append w g.pieces (file_pieces l) ∙ ap (λ z. sum_of w g.pieces + z) (as_sum l)

files_each : {P : Section → Type 0} (l : List File) → Each (λ (f : File). Each P f.pieces) l
    → Each P (file_pieces l)
unfolding file_pieces
files_each [] e = done
files_each (f ∷ l) (more p e) = each_append p (files_each l e)

each_files : {P : Section → Type 0} (l : List File) → Each P (file_pieces l)
    → Each (λ (f : File). Each P f.pieces) l
unfolding file_pieces
each_files [] e = done
each_files (f ∷ l) e =
    more {a = f} (each_left f.pieces (file_pieces l) e) (each_files l (each_right f.pieces (file_pieces l) e))

module _ (K i n : ℕ) (l : Layout) (g : SoundSums K l) where
  pages-mod : n ≤ free_blocks l → n % 2 ^ K ≡ n
  pages-mod room = mod-eq_of_lt (omega (arith, g.top))

  stock : Stock l.blocks l.free
  stock =
      record { disk = each_right (file_pieces l.files) l.free g.disk; rising = g.rising; thin = g.thin }

  outcome : AllocatesOf l.blocks K n l.free (allocate 0 K n l.free)
  outcome =
      allocate_is l.blocks n 0 K l.free (subst (λ z. l.blocks < 2 ^ z) (sym (add-zero K)) g.top) stock

  -- pieces are found if n is at most f
  pub allocate_fits : n ≤ free_blocks l
      → (s : List Section) × (r : List Section) × (allocate 0 K n l.free ≡ allocated s r)
      × Allocates l.blocks K n l.free s r
  allocate_fits room = go (allocate 0 K n l.free) refl outcome
    where
      go : (t : Allocated) → allocate 0 K n l.free ≡ t → AllocatesOf l.blocks K n l.free t
          → (s : List Section) × (r : List Section) × (allocate 0 K n l.free ≡ allocated s r)
          × Allocates l.blocks K n l.free s r
      go (allocated s r) e p = (s, r, e, p)
      go too_few e p = absurd (omega (arith, pages-mod room, free_is K l g))

  -- and only then, for an n that the heights can hold
  pub allocate_only : (s r : List Section) → n < 2 ^ K → allocate 0 K n l.free ≡ allocated s r → n ≤ free_blocks l
  allocate_only s r small e =
      let p = subst (AllocatesOf l.blocks K n l.free) e outcome in
      omega (arith, p.size, p.blocks, mod-eq_of_lt small, free_is K l g)

  -- the layout with the new file is sound
  module _ (s r : List Section) (p : Allocates l.blocks K n l.free s r) (fresh : has_file i l.files ≡ false)
      (least : 1 ≤ i) (most : i ≤ greatest_id)
      (some : 1 ≤ n) (room : n ≤ free_blocks l) (few : length l.files < most_files) where
    abbrev new : File
    new = record { id = i; pieces = s }

    shapes_inserted : map shape (insert_by by_id new l.files) ≡ insert_by by_shape (shape new) (map shape l.files)
    shapes_inserted = map_insert shape by_id by_shape (λ a b. refl) new l.files

    pub added_size : sum_of length_of s ≡ n
    added_size = p.blocks ∙ pages-mod room

    nonempty : (m : List Section) → sum_of length_of m ≡ n → 1 ≤ length (map (λ (x : Section). x.height.value) m)
    nonempty [] e = absurd (omega arith)
    nonempty (x ∷ m) e = omega arith

    new-shape : ShapeSound (shape new)
    new-shape =
        record { low = least; high = most; falling = falling_heights p.falling; some = nonempty s added_size }

    -- no block is in two of the new pieces, or in a new piece and another file's
    pub added_once : (x : ℕ) → sum_of (holds_block x) s + sum_of (holds_block x) (file_pieces l.files) ≤ 1
    added_once x = omega (
      arith,
      p.held x,
      sum-append (holds_block x) (file_pieces l.files) l.free,
      g.covers x,
      in_range-le-one x 0 l.blocks,
    )

    pub added_sound : SoundSums K (with_file i s r l)
    added_sound = record {
      some = g.some;
      top = g.top;
      cap = g.cap;
      disk =
          each_append
          (files_each (insert_by by_id new l.files)
          (each_insert by_id new p.on
          (each_files l.files (each_left (file_pieces l.files) l.free g.disk))))
          p.stock.disk;
      covers = λ x. omega (
        arith,
        sum-append (holds_block x) (file_pieces (insert_by by_id new l.files)) r,
        sum-with_file (holds_block x) new l.files,
        p.held x,
        sum-append (holds_block x) (file_pieces l.files) l.free,
        g.covers x,
      );
      rising = p.stock.rising;
      thin = p.stock.thin;
      shapes =
          subst (Each ShapeSound) (sym shapes_inserted) (each_insert by_shape (shape new) new-shape g.shapes);
      ids =
          subst RisingIds (sym shapes_inserted)
          (ids_insert (shape new) (shapes_without i (missing_none i l.files fresh)) g.ids);
      few = omega (arith, length_insert by_id new l.files);
    }

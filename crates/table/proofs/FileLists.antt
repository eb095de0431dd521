-- The files of a table: moved, without one, with one more. Assumes nothing.
use mathlib.Core.Bool.{Bool}
use mathlib.Core.List.{List, [], ◌++◌, ◌∷◌, map}
use mathlib.Core.Path.{◌∙◌, ◌≡◌, ap, ap₂, refl, sym}
use Prim.Native.Nat.{◌+◌, ◌-◌, suc, zero, ℕ}
use lib.Dec.{leb}
use lib.ListN.{drop, take}
use Rattle.piece_lists.specs.Few.{list_of}
use Rattle.layout.proofs.Lists.{map-append, map_insert}
use Rattle.layout.specs.Adding.{with_file}
use Rattle.layout.specs.Layout.{by_id}
use Rattle.layout.specs.Lists.{Each, insert_by, more}
use Rattle.layout.specs.Removing.{moved_file}
use Rattle.section.specs.Sections.{Addressable}
use Rattle.section.specs.declared.Section.{Section}
use Rattle.piece_lists.proofs.Arrays.{insert_with_at}
use Rattle.table.proofs.MapFirst.{pieces_moved}
use Rattle.table.specs.Moves.{PiecesServed, map_first, moved_entry}
use Rattle.piece_lists.specs.Places.{first_place, with_at, without_at}
use Rattle.free_pieces.specs.Free.{free_of}
use Rattle.table.specs.Tables.{file_of, files_of, layout_of, pieces_in}
use Rattle.table.specs.declared.Entry.{Entry}
use Rattle.table.specs.declared.Table.{Table}

-- where an entry of id i is put
abbrev pub no_lower_id : ℕ → Entry → Bool
no_lower_id i e = leb i e.id

map-take : {A B : Type 0} (f : A → B) (k : ℕ) (l : List A) → take k (map f l) ≡ map f (take k l)
map-take f zero l = refl
map-take f (suc k) [] = refl
map-take f (suc k) (x ∷ l) = ap (λ m. f x ∷ m) (map-take f k l)

map-drop : {A B : Type 0} (f : A → B) (k : ℕ) (l : List A) → drop k (map f l) ≡ map f (drop k l)
map-drop f zero l = refl
map-drop f (suc k) [] = refl
map-drop f (suc k) (x ∷ l) = map-drop f k l

map-without_at : {A B : Type 0} (f : A → B) (i : ℕ) (l : List A) → map f (without_at i l) ≡ without_at i (map f l)
unfolding without_at
map-without_at f i l =
    map-append f (take i l) (drop (suc i) l) ∙ ap₂ ◌++◌ (sym (map-take f i l)) (sym (map-drop f (suc i) l))

-- the files without the one at place i
pub files_released : (files rest : List Entry) (m i : ℕ) → take (m - 1) rest ≡ without_at i (take m files)
    → map file_of (take (m - 1) rest) ≡ without_at i (map file_of (take m files))
files_released files rest m i e = ap (map file_of) e ∙ map-without_at file_of i (take m files)

-- the files when their pieces have moved
module _ (b u : Section) (hu : Addressable u) where
  file-moved : (e : Entry) → PiecesServed e → file_of (moved_entry b u e) ≡ moved_file b u (file_of e)
  unfolding list_of
  file-moved e h =
      ap (λ (z : List Section). record { id = e.id; pieces = z })
      (pieces_moved b u e.pieces.count e.pieces.items hu h)

  pub files_after : (m : ℕ) (files : List Entry) → Each PiecesServed (take m files)
      → map file_of (take m (map_first (moved_entry b u) m files)) ≡ map (moved_file b u) (map file_of (take m files))
  files_after zero files a = refl
  files_after (suc m) [] a = refl
  files_after (suc m) (e ∷ l) (more h a) = ap₂ (λ x y. x ∷ y) (file-moved e h) (files_after m l a)

-- the files with one more
pub files_put : (files r : List Entry) (m i : ℕ) (e : Entry) → i ≡ first_place (no_lower_id e.id) (take m files)
    → take (m + 1) r ≡ with_at i e (take m files)
    → map file_of (take (m + 1) r) ≡ insert_by by_id (file_of e) (map file_of (take m files))
files_put files r m i e at p =
    ap (map file_of)
    (p ∙ (ap (λ k. with_at k e (take m files)) at ∙ insert_with_at (λ a b. leb a.id b.id) e (take m files)))
    ∙ map_insert file_of (λ a b. leb a.id b.id) by_id (λ a b. refl) e (take m files)

-- a table with a file more
pub layout-added : (t r : Table) (i : ℕ) (e : Entry)
    → i ≡ first_place (no_lower_id e.id) (take t.count t.files)
    → take (t.count + 1) r.files ≡ with_at i e (take t.count t.files) → r.count ≡ t.count + 1
    → r.blocks ≡ t.blocks → layout_of r ≡ with_file e.id (pieces_in e) (free_of r.free) (layout_of t)
unfolding layout_of files_of
layout-added t r i e at p n b =
    λ j. record { blocks = b j; files = files j; free = free_of r.free }
  where
    files : map file_of (take r.count r.files)
        ≡ insert_by by_id (file_of e) (map file_of (take t.count t.files))
    files = ap (λ k. map file_of (take k r.files)) n ∙ files_put t.files r.files t.count i e at p

-- The file of an id: the place where it stands, and the table without it. Assumes nothing.
use mathlib.Core.Bool.{Bool, false, true}
use mathlib.Core.List.{List, [], ◌++◌, ◌∷◌, map}
use mathlib.Core.Path.{◌∙◌, ◌≡◌, ap, refl, sym}
use Prim.Native.Nat.{◌-◌, ◌<◌, ◌≤◌, suc, ℕ}
use native.Mathlib.Omega.{arith}
use lib.Dec.{eqb}
use lib.ListN.{get_or-map, drop, get_or, length, length-map, take}
use lib.Seq.{get_or-take, length-take-le}
use Rattle.layout.proofs.Finding.{find_id, found_find}
use Rattle.layout.specs.Layout.{File, Found, find_file, found}
use Rattle.layout.specs.Removing.{insert_all, release, without_file}
use Rattle.table.proofs.FileLists.{files_released}
use Rattle.table.specs.Files.{entry_at, has_id, no_entry}
use Rattle.piece_lists.specs.Places.{first_place, without_at}
use Rattle.free_pieces.specs.Free.{free_of}
use Rattle.table.specs.Tables.{file_of, files_of, layout_of, pieces_in}
use Rattle.table.specs.declared.Table.{Table}

pub place_found : (i : ℕ) (d : File) (l : List File) → first_place (has_id i) l < length l
    → find_file i l ≡ found (get_or l (first_place (has_id i) l) d)
unfolding find_file first_place
place_found i d [] p = absurd (omega arith)
place_found i d (f ∷ l) p = go (eqb f.id i) p (λ q. place_found i d l q)
  where
    go : (t : Bool) → elim t as (λ _. ℕ) [ true ↦ 0 | false ↦ suc (first_place (has_id i) l) ] < suc (length l)
        → (first_place (has_id i) l < length l → find_file i l ≡ found (get_or l (first_place (has_id i) l) d))
        → elim t as (λ _. Found) [ true ↦ found f | false ↦ find_file i l ]
        ≡ found (get_or (f ∷ l) (elim t as (λ _. ℕ) [ true ↦ 0 | false ↦ suc (first_place (has_id i) l) ]) d)
    go true q k = refl
    go false q k = k (omega arith)

without_place : (i : ℕ) (l : List File) → without_at (first_place (has_id i) l) l ≡ without_file i l
unfolding without_file first_place without_at
without_place i [] = refl
without_place i (f ∷ l) = go (eqb f.id i) (without_place i l)
  where
    go : (t : Bool) → take (first_place (has_id i) l) l ++ drop (suc (first_place (has_id i) l)) l ≡ without_file i l
        → take (elim t as (λ _. ℕ) [ true ↦ 0 | false ↦ suc (first_place (has_id i) l) ]) (f ∷ l)
        ++ drop (suc (elim t as (λ _. ℕ) [ true ↦ 0 | false ↦ suc (first_place (has_id i) l) ])) (f ∷ l)
        ≡ elim t as (λ _. List File) [ true ↦ l | false ↦ f ∷ without_file i l ]
    go true e = refl
    go false e = ap (λ z. f ∷ z) e

-- there are as many files as the table counts
pub length-files : (t : Table) → t.count ≤ length t.files → length (files_of t) ≡ t.count
unfolding files_of
length-files t most =
    length-map (take t.count t.files) file_of ∙ length-take-le t.count t.files most

-- the file at a place
pub file-at : (t : Table) (i : ℕ) → i < t.count → get_or (files_of t) i (file_of no_entry) ≡ file_of (entry_at t i)
unfolding files_of
file-at t i lt =
    get_or-map file_of (take t.count t.files) i no_entry
    ∙ ap file_of (get_or-take t.count t.files i no_entry lt)

-- the place of the first file of an id
module _ (t : Table) (id i : ℕ) (most : t.count ≤ length t.files)
    (at : i ≡ first_place (has_id id) (files_of t)) where
  pub find_at : i < t.count → find_file id (files_of t) ≡ found (file_of (entry_at t i))
  find_at lt =
      place_found id (file_of no_entry) (files_of t) (omega (arith, length-files t most))
      ∙ ap found (ap (λ k. get_or (files_of t) k (file_of no_entry)) (sym at) ∙ file-at t i lt)

  pub id-at : i < t.count → (entry_at t i).id ≡ id
  id-at lt = find_id (found_find id (files_of t) (file_of (entry_at t i)) (find_at lt)).1

  -- the file there is the first of its id
  pub first-of-id : i < t.count → i ≡ first_place (has_id (entry_at t i).id) (files_of t)
  first-of-id lt = at ∙ ap (λ k. first_place (has_id k) (files_of t)) (sym (id-at lt))

pub layout_released : (t r : Table) (i : ℕ) → i ≡ first_place (has_id (entry_at t i).id) (files_of t)
    → take (t.count - 1) r.files ≡ without_at i (take t.count t.files) → r.count ≡ t.count - 1
    → r.blocks ≡ t.blocks → free_of r.free ≡ insert_all (pieces_in (entry_at t i)) (free_of t.free)
    → layout_of r ≡ release (file_of (entry_at t i)) (layout_of t)
unfolding layout_of files_of release
layout_released t r i at p n b f = λ j. record { blocks = b j; files = files j; free = f j }
  where
    files : map file_of (take r.count r.files)
        ≡ without_file (entry_at t i).id (map file_of (take t.count t.files))
    files =
        ap (λ k. map file_of (take k r.files)) n
        ∙ (files_released t.files r.files t.count i p
        ∙ (ap (λ k. without_at k (map file_of (take t.count t.files))) at
        ∙ without_place (entry_at t i).id (map file_of (take t.count t.files))))

-- Where a look-up ends: at the first id that is not below the one sought, or past the last one. Assumes nothing.
use mathlib.Core.Bool.{Bool, false, true}
use mathlib.Core.List.{List, [], ◌∷◌}
use mathlib.Core.Path.{◌∙◌, ◌≡◌, ap, ap₂, refl, subst, sym}
use Prim.Native.Nat.{◌+◌, ◌<◌, ◌≤◌, suc, ℕ}
use native.Mathlib.Omega.{arith}
use lib.Dec.{leb, ltb}
use lib.ListN.{get_or, length, take}
use lib.Seq.{get_or-take, length-take-le}
use borrow.Author.Tests.{eq-eqb, le-ltb, leb-false, leb-true, lt-ltb, ne_eqb}
use Rattle.std.specs.List.{position}
use Rattle.std.specs.Option.{unwrap_or}
use Rattle.std.specs.Prelude.{Option, Some, None}
use Rattle.std.proofs.lemmas.List.Quantifiers.{position-Some}
use Rattle.layout.proofs.Finding.{find_nil, find_past}
use Rattle.layout.proofs.Lists.{each_imp}
use Rattle.layout.proofs.LookingUp.{above_none_found, below_more, below_nil, below_none, look_up_finds}
use Rattle.layout.proofs.LookingUp.{look_up_reads, read_below}
use Rattle.layout.specs.Layout.{File, find_file, missing}
use Rattle.layout.specs.Lists.{indicator, more, next, none}
use Rattle.layout.specs.LookingUp.{ByRisingId, LookUp, ids_below, ids_read, look_up}
use Rattle.piece_lists.proofs.Arrays.{place_no, place_yes}
use Rattle.piece_lists.proofs.FoundPlaces.{first_place-found, first_place-mapped}
use Rattle.piece_lists.specs.Places.{first_place}
use Rattle.table.proofs.FileLists.{no_lower_id}
use Rattle.table.proofs.Released.{file-at, find_at, length-files}
use Rattle.table.specs.Files.{entry_at, has_id, no_entry}
use Rattle.table.specs.LookUps.{FirstOf, LooksUp, found_at, found_file, look_up_of, no_file}
use Rattle.table.specs.Tables.{file_of, files_of}
use Rattle.table.specs.declared.LookedUp.{LookedUp}
use Rattle.table.specs.declared.Table.{Table}

abbrev not_below : ℕ → File → Bool
not_below i f = leb i f.id

-- as many ids are below as stand before the first that is not
below_place : (i : ℕ) {l : List File} → ByRisingId l → ids_below i l ≡ first_place (not_below i) l
unfolding first_place
below_place i none = below_nil i
below_place i (next {a = f} {l = l} p q) = go (leb i f.id) refl (below_place i q)
  where
    go : (t : Bool) → leb i f.id ≡ t → ids_below i l ≡ first_place (not_below i) l
        → ids_below i (f ∷ l) ≡ elim t as (λ _. ℕ) [ true ↦ 0 | false ↦ suc (first_place (not_below i) l) ]
    go true e same = below_none i f l (leb-true i f.id e) p
    go false e same = below_more i f l (leb-false i f.id e) ∙ ap suc same

-- if it has the id sought, it is the first that has
first_here : (i : ℕ) (d : File) (l : List File) → first_place (not_below i) l < length l
    → (get_or l (first_place (not_below i) l) d).id ≡ i → first_place (has_id i) l ≡ first_place (not_below i) l
unfolding first_place
first_here i d [] lt e = refl
first_here i d (f ∷ l) lt e = go (leb i f.id) refl lt e (first_here i d l)
  where
    go : (t : Bool) → leb i f.id ≡ t
        → elim t as (λ _. ℕ) [ true ↦ 0 | false ↦ suc (first_place (not_below i) l) ] < suc (length l)
        → (get_or (f ∷ l) (elim t as (λ _. ℕ) [ true ↦ 0 | false ↦ suc (first_place (not_below i) l) ]) d).id ≡ i
        → (first_place (not_below i) l < length l → (get_or l (first_place (not_below i) l) d).id ≡ i
        → first_place (has_id i) l ≡ first_place (not_below i) l)
        → first_place (has_id i) (f ∷ l)
        ≡ elim t as (λ _. ℕ) [ true ↦ 0 | false ↦ suc (first_place (not_below i) l) ]
    go true q lt e k = place_yes (has_id i) f l (eq-eqb f.id i e)
    go false q lt e k =
        place_no (has_id i) f l (ne_eqb f.id i (omega (arith, leb-false i f.id q))) ∙ ap suc (k (omega arith) e)

-- if its id is larger, no file has the one sought
larger_missing : (i : ℕ) (d : File) {l : List File} → ByRisingId l → first_place (not_below i) l < length l
    → i < (get_or l (first_place (not_below i) l) d).id → find_file i l ≡ missing
unfolding first_place
larger_missing i d none lt h = absurd (omega arith)
larger_missing i d (next {a = f} {l = l} p q) lt h = go (leb i f.id) refl lt h (larger_missing i d q)
  where
    go : (t : Bool) → leb i f.id ≡ t
        → elim t as (λ _. ℕ) [ true ↦ 0 | false ↦ suc (first_place (not_below i) l) ] < suc (length l)
        → i < (get_or (f ∷ l) (elim t as (λ _. ℕ) [ true ↦ 0 | false ↦ suc (first_place (not_below i) l) ]) d).id
        → (first_place (not_below i) l < length l → i < (get_or l (first_place (not_below i) l) d).id
        → find_file i l ≡ missing)
        → find_file i (f ∷ l) ≡ missing
    go true e lt h k = above_none_found i (more {a = f} h (each_imp (λ g x. omega arith) p))
    go false e lt h k = find_past i f l (omega (arith, leb-false i f.id e)) ∙ k (omega arith) h

-- if there is none, no file has the one sought
end_missing : (i : ℕ) (l : List File) → length l ≤ first_place (not_below i) l → find_file i l ≡ missing
unfolding first_place
end_missing i [] le = find_nil i
end_missing i (f ∷ l) le = go (leb i f.id) refl le (end_missing i l)
  where
    go : (t : Bool) → leb i f.id ≡ t
        → suc (length l) ≤ elim t as (λ _. ℕ) [ true ↦ 0 | false ↦ suc (first_place (not_below i) l) ]
        → (length l ≤ first_place (not_below i) l → find_file i l ≡ missing) → find_file i (f ∷ l) ≡ missing
    go true e le k = absurd (omega arith)
    go false e le k = find_past i f l (omega (arith, leb-false i f.id e)) ∙ k (omega arith)

-- the ids read up to there, with its own if it is one of them
read_place : (i : ℕ) {l : List File} → ByRisingId l
    → ids_read i l ≡ first_place (not_below i) l + indicator (ltb (first_place (not_below i) l) (length l))
read_place i {l} rise = read_below i l ∙ ap (λ n. n + indicator (ltb n (length l))) (below_place i rise)

-- no place is given where there is none
none_looks : (t : Table) (id n : ℕ) → look_up_of t (no_file n) ≡ look_up id (files_of t) → LooksUp t id (no_file n)
none_looks t id n e = record { result = e; place = λ i q. absurd (let z : ◌≡◌ {A = ℕ} 0 1 = cc in omega arith) }

-- the one that is given is the first
found_looks : (t : Table) (id j n : ℕ) → look_up_of t (found_file j n) ≡ look_up id (files_of t) → FirstOf t id j
    → LooksUp t id (found_file j n)
found_looks t id j n e x =
    record { result = e; place = λ i q. let same : j ≡ i = cc in subst (FirstOf t id) same x }

-- a look-up in a table, by the place of the first file whose id is not below the one sought
module _ (t : Table) (id : ℕ) (most : t.count ≤ length t.files) (rise : ByRisingId (files_of t)) where
  -- the place, or how many files there are
  not_below_place : (o : Option ℕ) → position (no_lower_id id) (take t.count t.files) ≡ o
      → unwrap_or o t.count ≡ first_place (not_below id) (files_of t)
  unfolding files_of
  not_below_place o e =
      ap (λ x. unwrap_or x t.count) (sym e)
      ∙ first_place-found (no_lower_id id) (take t.count t.files) t.count (sym (length-take-le t.count t.files most))
      ∙ first_place-mapped file_of (not_below id) (take t.count t.files)

  gives : (j : ℕ) → j ≡ first_place (not_below id) (files_of t) → (x : Option ℕ) (n : ℕ)
      → found_at t x ≡ find_file id (files_of t)
      → n ≡ j + indicator (ltb j t.count) → look_up_of t (record { file = x; read = n }) ≡ look_up id (files_of t)
  gives j ends x n e k = λ z. record { file = (e ∙ sym (look_up_finds id rise)) z; ids_read = same z }
    where
      same : n ≡ (look_up id (files_of t)).ids_read
      same =
          k ∙ ap₂ (λ p m. p + indicator (ltb p m)) ends (sym (length-files t most))
          ∙ sym (look_up_reads id (files_of t) ∙ read_place id rise)

  -- where there is none
  pub all-below : position (no_lower_id id) (take t.count t.files) ≡ None → LooksUp t id (no_file t.count)
  all-below e =
      let ends : t.count ≡ first_place (not_below id) (files_of t) = not_below_place None e in
      none_looks t id t.count
      (gives t.count ends None t.count (sym (end_missing id (files_of t) (omega (arith, ends, length-files t most))))
      (omega (arith, ap indicator (le-ltb t.count t.count (omega arith)))))

  module _ (j : ℕ) (e : position (no_lower_id id) (take t.count t.files) ≡ Some j) where
    ends : j ≡ first_place (not_below id) (files_of t)
    ends = not_below_place (Some j) e

    here : (j < length (take t.count t.files)) × (no_lower_id id (get_or (take t.count t.files) j no_entry) ≡ true)
    here = let p = position-Some (no_lower_id id) (take t.count t.files) j no_entry e in (p.0, p.1)

    pub place_within : j < t.count
    place_within = omega (arith, here.0, length-take-le t.count t.files most)

    stands : get_or (files_of t) (first_place (not_below id) (files_of t)) (file_of no_entry) ≡ file_of (entry_at t j)
    stands = ap (λ k. get_or (files_of t) k (file_of no_entry)) (sym ends) ∙ file-at t j place_within

    within : first_place (not_below id) (files_of t) < length (files_of t)
    within = omega (arith, ends, place_within, length-files t most)

    counted : j + 1 ≡ j + indicator (ltb j t.count)
    counted = omega (arith, ap indicator (lt-ltb j t.count place_within))

    -- if its id is the one sought
    pub same_id-found : (entry_at t j).id ≡ id → LooksUp t id (found_file j (j + 1))
    same_id-found same =
        let at_first =
        ends
        ∙ sym (first_here id (file_of no_entry) (files_of t) within (ap (λ (f : File). f.id) stands ∙ same)) in
        found_looks t id j (j + 1)
        (gives j ends (Some j) (j + 1) (sym (find_at t id j most at_first place_within)) counted)
        (record { within = place_within; first = at_first })

    -- if it is another one
    pub other_id-missing : ((entry_at t j).id ≡ id → ⊥) → LooksUp t id (no_file (j + 1))
    other_id-missing other =
        let low : id ≤ (entry_at t j).id =
        leb-true id (entry_at t j).id
        (ap (no_lower_id id) (sym (get_or-take t.count t.files j no_entry place_within)) ∙ here.1) in
        let above : id < (entry_at t j).id = omega (arith, low, other) in
        none_looks t id (j + 1)
        (gives j ends None (j + 1)
        (sym (larger_missing id (file_of no_entry) rise within (omega (arith, above, ap (λ (f : File). f.id) stands))))
        counted)

-- the result of a look-up: what it finds in the files
pub look_up_file : (t : Table) (id : ℕ) (r : LookedUp) → ByRisingId (files_of t) → LooksUp t id r
    → found_at t r.file ≡ find_file id (files_of t)
look_up_file t id r rise x = ap (λ (y : LookUp). y.file) x.result ∙ look_up_finds id rise

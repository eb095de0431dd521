-- Finding a file by its id, and the files without it. Assumes nothing.
use mathlib.Core.Bool.{Bool, false, true}
use mathlib.Core.List.{List, [], ◌∷◌, map}
use mathlib.Core.Path.{◌≡◌, ap, refl, subst}
use Prim.Native.Nat.{◌+◌, suc, ℕ}
use native.Mathlib.Omega.{arith}
use lib.Dec.{eqb, leb}
use lib.ListN.{length}
use borrow.Author.Tests.{eq-eqb, eqb-false, eqb-true, ne_eqb}
use Rattle.layout.proofs.Lists.{each_append, each_left, each_right, sum-append}
use Rattle.layout.specs.Layout.{File, Found, by_id, file_pieces, find_file, found, has_file, is_found, missing}
use Rattle.layout.specs.Lists.{Each, done, insert_by, more, next, sum_of}
use Rattle.layout.specs.Removals.{Find, here, there}
use Rattle.layout.specs.Removing.{without_file}
use Rattle.layout.specs.Sums.{RisingIds, Shape, shape}
use Rattle.section.specs.declared.Section.{Section}

pub find : (i : ℕ) (l : List File) → has_file i l ≡ true → (f : File) × (r : List File) × Find i l f r
unfolding find_file
find i [] e = absurd (let z : ◌≡◌ {A = ℕ} 0 1 = cc in omega arith)
find i (f ∷ l) e = go (eqb f.id i) refl e (λ k. find i l k)
  where
    go : (t : Bool) → eqb f.id i ≡ t
        → is_found (elim t as (λ _. Found) [ true ↦ found f | false ↦ find_file i l ]) ≡ true
        → (has_file i l ≡ true → (g : File) × (r : List File) × Find i l g r)
        → (g : File) × (r : List File) × Find i (f ∷ l) g r
    go true q h k = (f, l, here (eqb-true f.id i q))
    go false q h k = let x = k h in (x.0, f ∷ x.1, there (eqb-false f.id i q) x.2)

pub find_found : {i : ℕ} {l r : List File} {f : File} → Find i l f r → find_file i l ≡ found f
unfolding find_file
find_found {i} (here {f = f} e) = rw (eq-eqb f.id i e, find_file)
find_found {i} (there {g = g} n p) = rw (ne_eqb g.id i n, find_file) (find_found p)

pub found_find : (i : ℕ) (l : List File) (f : File) → find_file i l ≡ found f → (r : List File) × Find i l f r
found_find i l f e =
    let x = find i l (ap is_found e) in
    let same : x.0 ≡ f = let p = find_found x.2 in cc in
    (x.1, subst (λ g. Find i l g x.1) same x.2)

-- among no files none is found; a file of the id is found, and one of another id passed
pub find_nil : (i : ℕ) → find_file i [] ≡ missing
unfolding find_file
find_nil i = refl

pub find_here : (i : ℕ) (f : File) (l : List File) → f.id ≡ i → find_file i (f ∷ l) ≡ found f
unfolding find_file
find_here i f l e = rw (eq-eqb f.id i e, find_file)

pub find_past : (i : ℕ) (f : File) (l : List File) → (f.id ≡ i → ⊥) → find_file i (f ∷ l) ≡ find_file i l
unfolding find_file
find_past i f l n = rw (ne_eqb f.id i n, find_file)

-- no file has an id that is not found
pub missing_none : (i : ℕ) (l : List File) → has_file i l ≡ false → Each (λ (f : File). f.id ≡ i → ⊥) l
unfolding find_file
missing_none i [] e = done
missing_none i (f ∷ l) e = go (eqb f.id i) refl e (λ k. missing_none i l k)
  where
    go : (t : Bool) → eqb f.id i ≡ t
        → is_found (elim t as (λ _. Found) [ true ↦ found f | false ↦ find_file i l ]) ≡ false
        → (has_file i l ≡ false → Each (λ (f : File). f.id ≡ i → ⊥) l) → Each (λ (f : File). f.id ≡ i → ⊥) (f ∷ l)
    go true q h k = absurd (let z : ◌≡◌ {A = ℕ} 0 1 = cc in omega arith)
    go false q h k = more {a = f} (eqb-false f.id i q) (k h)

pub find_without : {i : ℕ} {l r : List File} {f : File} → Find i l f r → without_file i l ≡ r
unfolding without_file
find_without {i} (here {f = f} e) = rw (eq-eqb f.id i e, without_file)
find_without {i} (there {g = g} n p) = rw (ne_eqb g.id i n, without_file) (ap (λ z. g ∷ z) (find_without p))

pub find_id : {i : ℕ} {l r : List File} {f : File} → Find i l f r → f.id ≡ i
find_id (here e) = e
find_id (there n p) = find_id p

pub find_sum : {i : ℕ} {l r : List File} {f : File} (w : Section → ℕ) → Find i l f r
    → sum_of w (file_pieces l) ≡ sum_of w f.pieces + sum_of w (file_pieces r)
unfolding file_pieces
find_sum w (here {f = f} {l = l} e) = sum-append w f.pieces (file_pieces l)
find_sum w (there {g = g} {l = l} {r = r} n p) =
    omega (arith, sum-append w g.pieces (file_pieces l), sum-append w g.pieces (file_pieces r), find_sum w p)

pub find_each : {i : ℕ} {l r : List File} {f : File} {P : Section → Type 0} → Find i l f r → Each P (file_pieces l)
    → Each P f.pieces × Each P (file_pieces r)
unfolding file_pieces
find_each (here {f = f} {l = l} e) p =
    (each_left f.pieces (file_pieces l) p, each_right f.pieces (file_pieces l) p)
find_each (there {g = g} {l = l} n q) p =
    let x = find_each q (each_right g.pieces (file_pieces l) p) in
    (x.0, each_append (each_left g.pieces (file_pieces l) p) x.1)

-- what every file has the found one has
pub find_file_lem : {i : ℕ} {l r : List File} {f : File} {P : File → Type 0} → Find i l f r → Each P l → P f
find_file_lem (here e) (more p q) = p
find_file_lem (there n x) (more p q) = find_file_lem x q

pub find_shapes : {i : ℕ} {l r : List File} {f : File} {P : Shape → Type 0} → Find i l f r → Each P (map shape l)
    → P (shape f) × Each P (map shape r)
find_shapes (here e) (more p q) = (p, q)
find_shapes (there n x) (more p q) = let y = find_shapes x q in (y.0, more p y.1)

pub find_ids : {i : ℕ} {l r : List File} {f : File} → Find i l f r → RisingIds (map shape l)
    → RisingIds (map shape r)
find_ids (here e) (next p q) = q
find_ids (there n x) (next p q) = next (find_shapes x p).1 (find_ids x q)

pub find_length : {i : ℕ} {l r : List File} {f : File} → Find i l f r → length l ≡ suc (length r)
find_length (here e) = refl
find_length (there n p) = ap suc (find_length p)

-- a file that is put in is found
pub found_inserted : (i : ℕ) (s : List Section) (l : List File) → has_file i l ≡ false
    → find_file i (insert_by by_id (record { id = i; pieces = s }) l) ≡ found (record { id = i; pieces = s })
unfolding find_file insert_by
found_inserted i s [] e = rw (eq-eqb i i refl, find_file)
found_inserted i s (g ∷ l) e = go (leb i g.id) (eqb g.id i) refl e (λ k. found_inserted i s l k)
  where
    here_first : (m : List File)
        → find_file i (record { id = i; pieces = s } ∷ m) ≡ found (record { id = i; pieces = s })
    here_first m = rw (eq-eqb i i refl, find_file)

    go : (t u : Bool) → eqb g.id i ≡ u
        → is_found (elim u as (λ _. Found) [ true ↦ found g | false ↦ find_file i l ]) ≡ false
        → (has_file i l ≡ false
        → find_file i (insert_by by_id (record { id = i; pieces = s }) l) ≡ found (record { id = i; pieces = s }))
        → find_file i (elim t as (λ _. List File) [
          | true ↦ record { id = i; pieces = s } ∷ g ∷ l
          | false ↦ g ∷ insert_by by_id (record { id = i; pieces = s }) l
        ])
        ≡ found (record { id = i; pieces = s })
    go true u q h k = here_first (g ∷ l)
    go false true q h k = absurd (let z : ◌≡◌ {A = ℕ} 0 1 = cc in omega arith)
    go false false q h k = rw (q, find_file) (k h)

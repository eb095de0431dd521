-- A list whose first i items have been replaced by g of them: what a loop that maps an array in place has after i
-- turns. Assumes nothing.
use Rattle.std.proofs.lemmas.List.{drop_all, length-drop, length-take, take_all}
use Rattle.std.specs.List.{position}
use Rattle.std.specs.Option.{unwrap_or}
use Rattle.std.specs.Prelude.{None}
use Rattle.piece_lists.specs.Few.{list_of}
use Rattle.piece_lists.proofs.EachItem.{each_get}
use Rattle.piece_lists.proofs.FoundPlaces.{first_place-found}
use Rattle.piece.specs.Packed.{seen, section_in, piece_of, FitsWord}
use Rattle.piece.proofs.Packing.{packed, repacked}
use Rattle.piece.specs.declared.Piece.{Piece}
use native.Mathlib.Nat.{div-add-mod'}
use mathlib.Core.Bool.{Bool, cond, false, true}
use mathlib.Core.List.{List, [], ◌++◌, ◌∷◌, append-nil, map}
use mathlib.Core.Path.{◌∙◌, ◌≡◌, ap, refl, sym, ap₂, subst}
use Prim.Native.Nat.{◌+◌, ◌-◌, ◌<◌, ◌≤◌, suc, zero, ℕ, ◌*◌, ◌/◌, ◌^◌}
use native.Mathlib.Numerals.{add-one}
use native.Mathlib.Omega.{arith}
use lib.ListN.{drop, get_or, length, length-append, length-map, set, take}
use Rattle.layout.specs.Lists.{Each, done, more}
use Rattle.section.specs.Sections.{is_inside, moved_into, section, Addressable, parent_of, parent_first}
use Rattle.section.specs.declared.Section.{Section}
use Rattle.table.specs.Moves.{lies_in, map_first, moved_entry, moved_piece}
use Rattle.piece_lists.specs.Places.{first_place}
use Rattle.table.specs.Tables.{pieces_in}
use Rattle.table.specs.declared.Entry.{Entry}

module _ {A : Type 0} (g : A → A) where
  pub length-map_first : (i : ℕ) (l : List A) → length (map_first g i l) ≡ length l
  length-map_first i l =
      length-append (map g (take i l)) (drop i l)
      ∙ omega (arith, length-map (take i l) g, length-take i l, length-drop i l)

  -- the item that is next
  pub map_first-at : (l : List A) (i : ℕ) (d : A) → get_or (map_first g i l) i d ≡ get_or l i d
  map_first-at l zero d = refl
  map_first-at [] (suc i) d = refl
  map_first-at (x ∷ l) (suc i) d = map_first-at l i d

  -- it has what each item had
  pub map_first-next : {P : A → Type 0} (l m : List A) (i : ℕ) (d : A) → m ≡ map_first g i l → Each P l → i < length l
      → P (get_or m i d)
  map_first-next {P = P} l m i d e a lt =
      subst P (sym (ap (λ x. get_or x i d) e ∙ map_first-at l i d)) (each_get {P = P} i d a lt)

  map_first-suc : (l : List A) (i : ℕ) (d : A) → set (map_first g i l) i (g (get_or l i d)) ≡ map_first g (suc i) l
  map_first-suc [] zero d = refl
  map_first-suc [] (suc i) d = refl
  map_first-suc (x ∷ l) zero d = refl
  map_first-suc (x ∷ l) (suc i) d = ap (λ m. g x ∷ m) (map_first-suc l i d)

  -- after one more turn
  pub map_first_more : (l m : List A) (i : ℕ) (d y : A) → m ≡ map_first g i l → y ≡ g (get_or m i d)
      → set m i y ≡ map_first g (i + 1) l
  map_first_more l m i d y p q =
      ap (λ a. set m i a) q ∙ ap (λ a. set a i (g (get_or a i d))) p
      ∙ ap (λ a. set (map_first g i l) i (g a)) (map_first-at l i d)
      ∙ map_first-suc l i d ∙ rw add-one refl

  -- all of them
  pub map_first_all : (n : ℕ) (l : List A) → length l ≤ n → map_first g n l ≡ map g l
  map_first_all n l h = ap₂ (λ a b. map g a ++ b) (take_all n l h) (drop_all n l h) ∙ append-nil (map g l)

  -- the first n of them
  pub take-map_first : (n : ℕ) (l : List A) → take n (map_first g n l) ≡ map g (take n l)
  take-map_first zero l = refl
  take-map_first (suc n) [] = refl
  take-map_first (suc n) (x ∷ l) = ap (λ m. g x ∷ m) (take-map_first n l)

  -- what g keeps, a turn keeps
  pub each_map_first : {P : A → Type 0} (n : ℕ) → ((a : A) → P a → P (g a)) → {l : List A} → Each P l
      → Each P (map_first g n l)
  each_map_first zero f e = e
  each_map_first (suc n) f done = done
  each_map_first (suc n) f (more {a = a} p e) = more {a = g a} (f a p) (each_map_first n f e)

-- ---- a file with no piece inside b stays as it is

pieces_stay : (b u : Section) (n : ℕ) (l : List Piece)
    → length (take n (seen l)) ≤ first_place (lies_in b) (take n (seen l))
    → map_first (moved_piece b u) n l ≡ l
unfolding first_place moved_into moved_piece seen
pieces_stay b u zero l h = refl
pieces_stay b u (suc n) [] h = refl
pieces_stay b u (suc n) (p ∷ l) h = go (is_inside (section_in p) b) h (λ k. pieces_stay b u n l k)
  where
    s : Section
    s = section_in p

    rest : List Section
    rest = take n (seen l)

    go : (t : Bool) → suc (length rest) ≤ elim t as (λ _. ℕ) [ true ↦ 0 | false ↦ suc (first_place (lies_in b) rest) ]
        → (length rest ≤ first_place (lies_in b) rest → map_first (moved_piece b u) n l ≡ l)
        → piece_of (cond t (section (u.first + (s.first - b.first)) s.height.value) s)
        ∷ map_first (moved_piece b u) n l
        ≡ p ∷ l
    go true k ih = absurd (omega arith)
    go false k ih = ap₂ (λ q m. q ∷ m) (repacked p) (ih (omega arith))

pub file_stays : (b u : Section) (e : Entry) → position (lies_in b) (pieces_in e) ≡ None → moved_entry b u e ≡ e
unfolding list_of
file_stays b u e h =
    let end : length (pieces_in e) ≡ first_place (lies_in b) (pieces_in e) =
    ap (λ o. unwrap_or o (length (pieces_in e))) (sym h)
    ∙ first_place-found (lies_in b) (pieces_in e) (length (pieces_in e)) refl in
    ap (λ (l : List Piece). record { id = e.id; pieces = record { count = e.pieces.count; items = l } })
    (pieces_stay b u e.pieces.count e.pieces.items (omega (arith, end)))

-- ---- what moves fits a word

moved_fits : (b u s : Section) → Addressable u → Addressable s → FitsWord (moved_into b u s)
unfolding moved_into
moved_fits b u s hu hs = go (is_inside s b)
  where
    go : (t : Bool) → FitsWord (cond t (section (u.first + (s.first - b.first)) s.height.value) s)
    go true = record { first = omega (arith, hu.1, hs.1); height = omega (arith, hs.0) }
    go false = record { first = omega (arith, hs.1); height = omega (arith, hs.0) }

moved_piece_lem : (b u : Section) (p : Piece) → Addressable u → Addressable (section_in p)
    → section_in (moved_piece b u p) ≡ moved_into b u (section_in p)
unfolding moved_piece
moved_piece_lem b u p hu hs = packed (moved_into b u (section_in p)) (moved_fits b u (section_in p) hu hs).height

pub can_pack : (b u s r : Section) → Addressable u → Addressable s → r ≡ moved_into b u s → FitsWord r
can_pack b u s r hu hs e = subst FitsWord (sym e) (moved_fits b u s hu hs)

pub parent_fits : (s : Section) → Addressable s → FitsWord (parent_of s)
unfolding parent_first
parent_fits s h =
    let low : s.first / 2 ^ suc s.height.value * 2 ^ suc s.height.value ≤ s.first =
    omega (arith, div-add-mod' s.first (2 ^ suc s.height.value)) in
    record { first = omega (arith, h.1); height = omega (arith, h.0) }

-- the pieces of a file, moved
pub pieces_moved : (b u : Section) (n : ℕ) (l : List Piece) → Addressable u → Each Addressable (take n (seen l))
    → take n (seen (map_first (moved_piece b u) n l)) ≡ map (moved_into b u) (take n (seen l))
unfolding seen
pieces_moved b u zero l hu a = refl
pieces_moved b u (suc n) [] hu a = refl
pieces_moved b u (suc n) (p ∷ l) hu (more h a) =
    ap₂ (λ q m. q ∷ m) (moved_piece_lem b u p hu h) (pieces_moved b u n l hu a)

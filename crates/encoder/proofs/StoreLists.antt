-- Lists that are written element by element. Assumes nothing.
use mathlib.Core.List.{List, [], ◌++◌, ◌∷◌, append-nil, append_assoc, map}
use mathlib.Core.Path.{◌∙◌, ◌≡◌, ap, subst, sym}
use Prim.Native.Nat.{◌+◌, ◌<◌, ◌≤◌, suc, ℕ}
use native.Mathlib.Numerals.{add-one}
use lib.ListN.{drop, get_or, length, take, take-append-drop}
use lib.Seq.{drop-cons, take_all, take-suc}
use Rattle.catalogue.proofs.Grouping.{entries_bytes-cons, entries_bytes_nil, pairs_bytes-cons, pairs_bytes_nil}
use Rattle.catalogue.specs.Encoding.{entries_bytes, entry_bytes, pair_bytes, pairs_bytes}
use Rattle.piece.specs.Packed.{section_in, seen}
use Rattle.piece.specs.declared.Piece.{Piece}
use Rattle.table.specs.Tables.{file_of}
use Rattle.table.specs.declared.Entry.{Entry}
use Rattle.encoder.specs.Store.{Room, Written}
use Rattle.encoder.proofs.StoreWritten.{room_left, room_right, written_more, written_none}

-- the list g l is made of the lists f a of its elements
pub record Joined {A : Type 0} (f : A → List ℕ) (g : List A → List ℕ) : Type 0 where
  pub nil : g [] ≡ []
  pub cons : (a : A) (l : List A) → g (a ∷ l) ≡ f a ++ g l

pub pairs_joined : (w : ℕ) → Joined (λ (p : Piece). pair_bytes w (section_in p)) (λ l. pairs_bytes w (seen l))
unfolding seen
pairs_joined w = record { nil = pairs_bytes_nil w; cons = λ p l. pairs_bytes-cons w (section_in p) (seen l) }

pub entries_joined : (w : ℕ)
    → Joined (λ (e : Entry). entry_bytes w (file_of e)) (λ l. entries_bytes w (map file_of l))
entries_joined w =
    record { nil = entries_bytes_nil w; cons = λ e l. entries_bytes-cons w (file_of e) (map file_of l) }

module _ {A : Type 0} {f : A → List ℕ} {g : List A → List ℕ} (j : Joined f g) where
  joined_append : (l m : List A) → g (l ++ m) ≡ g l ++ g m
  joined_append [] m = ap (λ l. l ++ g m) (sym j.nil)
  joined_append (a ∷ l) m =
      j.cons a (l ++ m)
      ∙ ap (λ r. f a ++ r) (joined_append l m)
      ∙ sym (append_assoc (f a) (g l) (g m))
      ∙ ap (λ r. r ++ g m) (sym (j.cons a l))

  -- nothing is written
  pub list_none : (p : List A) (cat : List ℕ) (at : ℕ) → Written cat at (g (take 0 p)) cat at
  list_none p cat at = subst (λ l. Written cat at l cat at) (sym j.nil) (written_none cat at)

  module _ (p : List A) (d : A) (i : ℕ) (h : i < length p) where
    joined_split : g p ≡ g (take i p) ++ (f (get_or p i d) ++ g (drop (suc i) p))
    joined_split =
        ap g (sym (take-append-drop i p))
        ∙ joined_append (take i p) (drop i p)
        ∙ ap (λ l. g (take i p) ++ g l) (drop-cons p i d h)
        ∙ ap (λ l. g (take i p) ++ l) (j.cons (get_or p i d) (drop (suc i) p))

    -- the next element has room
    pub list_room : {cat after : List ℕ} {at r : ℕ} → Room cat at (g p) → Written cat at (g (take i p)) after r
        → Room after r (f (get_or p i d))
    list_room {cat = cat} {after = after} {at = at} {r = r} room w =
        let rest = g (drop (suc i) p) in
        room_left after (f (get_or p i d)) rest r
        (room_right (g (take i p)) (f (get_or p i d) ++ rest) w (subst (Room cat at) joined_split room))

    -- one more is written
    pub list_more : {cat after last : List ℕ} {at r q : ℕ} → Written cat at (g (take i p)) after r
        → Written after r (f (get_or p i d)) last q → Written cat at (g (take (i + 1) p)) last q
    list_more {cat = cat} {last = last} {at = at} {q = q} w v =
        subst (λ l. Written cat at l last q) e (written_more w v)
      where
        e : g (take i p) ++ f (get_or p i d) ≡ g (take (i + 1) p)
        e =
            sym (ap (λ k. g (take k p)) (add-one i)
            ∙ ap g (take-suc p i d h)
            ∙ joined_append (take i p) (get_or p i d ∷ [])
            ∙ ap (λ l. g (take i p) ++ l) (j.cons (get_or p i d) [])
            ∙ ap (λ l. g (take i p) ++ (f (get_or p i d) ++ l)) j.nil
            ∙ ap (λ l. g (take i p) ++ l) (append-nil (f (get_or p i d))))

  -- all are written
  pub list_all : (p : List A) (i : ℕ) {cat after : List ℕ} {at r : ℕ} → length p ≤ i
      → Written cat at (g (take i p)) after r → Written cat at (g p) after r
  list_all p i {cat = cat} {after = after} {at = at} {r = r} h w =
      subst (λ l. Written cat at (g l) after r) (take_all i p h) w

-- The order of pieces: what the code tests, and that first blocks rise and lengths are distinct. Assumes nothing.
use mathlib.Core.Bool.{Bool, ◌&&◌, false, not, true}
use mathlib.Core.List.{List, [], ◌∷◌}
use mathlib.Core.Path.{◌∙◌, ◌≡◌, ap, ap₂, refl, sym}
use Prim.Native.Nat.{suc, ℕ, ◌+◌, ◌-◌, ◌<◌, ◌^◌, ◌≤◌}
use native.Mathlib.Decide.{ℕ_discrete}
use native.Mathlib.Numerals.{add-one}
use native.Mathlib.Omega.{arith}
use lib.Dec.{eqb, ltb}
use lib.ListN.{drop, drop_of_length-le, get_or, length, length-drop, take}
use lib.Seq.{drop-cons, take_all}
use Rattle.std.specs.List.{list_all}
use borrow.Author.Tests.{eq-eqb, le-ltb, lt-ltb, ne_eqb}
use Rattle.catalogue.proofs.Tests.{and_intro, pairs-pairwise, pairwise-pairs}
use Rattle.catalogue.specs.Reading.{every, pairwise}
use Rattle.layout.proofs.Lists.{each_and, pairwise_imp}
use Rattle.layout.specs.Lists.{Pairwise, next, none}
use Rattle.piece.proofs.Seen.{seen-drop, seen-length, seen_get}
use Rattle.piece.specs.Packed.{no_piece, section_in, seen}
use Rattle.piece.specs.declared.Piece.{Piece}
use Rattle.section.proofs.Booleans.{and_true}
use Rattle.section.proofs.Lengths.{length_unique}
use Rattle.section.specs.Sections.{length_of}
use Rattle.section.specs.declared.Section.{Section}
use Rattle.soundness.proofs.Points.{blank}
use Rattle.soundness.specs.Order.{in_order, in_turn}

-- ---- two pieces

pub turn_early : (a b : Section) → b.first ≤ a.first → in_turn a b ≡ false
unfolding in_turn
turn_early a b h = simp (le-ltb a.first b.first h)

same_length : (a b : Section) → eqb (length_of a) (length_of b) ≡ eqb a.height.value b.height.value
same_length a b =
    elim (ℕ_discrete a.height.value b.height.value) [
      | yes e ↦ eq-eqb (length_of a) (length_of b) (ap (λ h. 2 ^ h) e)
          ∙ sym (eq-eqb a.height.value b.height.value e)
      | no n ↦ ne_eqb (length_of a) (length_of b) (λ e. n (length_unique a.height.value b.height.value e))
          ∙ sym (ne_eqb a.height.value b.height.value n)
    ]

pub turn_late : (a b : Section) → a.first < b.first
    → not (eqb a.height.value b.height.value) ≡ in_turn a b
unfolding in_turn
turn_late a b h = simp (lt-ltb a.first b.first h) (sym (ap not (same_length a b)))

-- ---- the pieces of a list

every_seen : (p : Section → Bool) (l : List Piece) → list_all (λ b. p (section_in b)) l ≡ every p (seen l)
unfolding every seen
every_seen p [] = refl
every_seen p (b ∷ l) = ap (λ t. p (section_in b) && t) (every_seen p l)

-- those from the place i on: the first of them with each later one, and the later ones
pub order-next : (l : List Piece) (i : ℕ) → i < length l
    → in_order (drop i (seen l))
    ≡ list_all (λ b. in_turn (section_in (get_or l i no_piece)) (section_in b))
    (take (length l - (i + 1)) (drop (i + 1) l))
    && in_order (drop (i + 1) (seen l))
unfolding pairwise
order-next l i h =
    ap in_order (drop-cons (seen l) i blank (omega (arith, seen-length l)))
    ∙ ap₂ (λ x y. x && y)
    (ap₂ (λ s k. every (in_turn s) k) (seen_get l i) later
    ∙ sym (every_seen (in_turn (section_in (get_or l i no_piece))) (take (length l - (i + 1)) (drop (i + 1) l))))
    (ap (λ n. in_order (drop n (seen l))) (sym (add-one i)))
  where
    later : drop (suc i) (seen l) ≡ seen (take (length l - (i + 1)) (drop (i + 1) l))
    later =
        ap (λ n. drop n (seen l)) (sym (add-one i))
        ∙ (seen-drop (i + 1) l
        ∙ sym (ap seen (take_all (length l - (i + 1)) (drop (i + 1) l) (omega (arith, length-drop (i + 1) l)))))

pub order-none : (l : List Piece) → in_order (drop (length l) (seen l)) ≡ true
unfolding pairwise
order-none l = ap in_order (drop_of_length-le (seen l) {i = length l} (omega (arith, seen-length l)))

abbrev pub rising : List Section → Bool
rising l = pairwise (λ (s t : Section). ltb s.first t.first) l

abbrev pub distinct : List Section → Bool
distinct l = pairwise (λ (s t : Section). not (eqb (length_of s) (length_of t))) l

pub pairwise_and {ℓ κ ν} : {A : Type ℓ} {R : A → A → Type κ} {S : A → A → Type ν} {l : List A} → Pairwise R l
    → Pairwise S l
    → Pairwise (λ a b. R a b × S a b) l
pairwise_and none q = none
pairwise_and (next e p) (next f q) = next (each_and e f) (pairwise_and p q)

pub order_rises : (l : List Section) → in_order l ≡ true → rising l ≡ true
unfolding in_turn
order_rises l e =
    pairs-pairwise _
    (pairwise_imp (λ s t q. (and_true (ltb s.first t.first) (not (eqb (length_of s) (length_of t))) q).0)
    (pairwise-pairs in_turn l e))

pub order_distinct : (l : List Section) → in_order l ≡ true → distinct l ≡ true
unfolding in_turn
order_distinct l e =
    pairs-pairwise _
    (pairwise_imp (λ s t q. (and_true (ltb s.first t.first) (not (eqb (length_of s) (length_of t))) q).1)
    (pairwise-pairs in_turn l e))

pub order_both : (l : List Section) → rising l ≡ true → distinct l ≡ true → in_order l ≡ true
unfolding in_turn
order_both l p q =
    pairs-pairwise in_turn
    (pairwise_imp (λ s t w. and_intro w.0 w.1) (pairwise_and (pairwise-pairs _ l p) (pairwise-pairs _ l q)))

-- Allocating, as the code does it: from the greatest height down, with the pieces laid so far. Assumes nothing.
use Rattle.std.specs.Prelude.{None, Some}
use mathlib.Core.List.{List, [], ◌++◌, ◌∷◌}
use mathlib.Core.Path.{◌∙◌, ◌≡◌, ap, ap₂, refl, subst, sym}
use Prim.Native.Nat.{◌+◌, ◌-◌, ◌≤◌, suc, zero, ℕ}
use native.Mathlib.Numerals.{add-one}
use native.Mathlib.Omega.{arith}
use lib.ListN.{length, length-set, replicate, set}
use Rattle.piece_lists.specs.Few.{list_of, piece_places}
use Rattle.layout.specs.Adding.{Allocated, Taken, allocate, allocated, nothing, take_piece, taken, too_few}
use Rattle.layout.specs.Adding.{with_piece}
use Rattle.layout.specs.Layout.{digit}
use Rattle.section.specs.Limits.{greatest_height, height_count}
use Rattle.section.specs.declared.Section.{Section}
use Rattle.piece.specs.Packed.{no_piece, section_in}
use Rattle.free_pieces.proofs.LaidMore.{laid_more}
use Rattle.free_pieces.proofs.PieceTaken.{stocked_after}
use Rattle.free_pieces.specs.Allocating.{Allots, laid_pieces}
use Rattle.free_pieces.specs.Free.{free_of, taken_of}
use Rattle.free_pieces.specs.Taking.{Stocked, Yields}
use Rattle.free_pieces.specs.declared.Drawn.{Drawn}
use Rattle.free_pieces.specs.declared.Free.{Free}
use Rattle.free_pieces.specs.declared.Laid.{Laid}

-- ---- pieces in front

unfoldable pub with_pieces : List Section → Allocated → Allocated
with_pieces [] p = p
with_pieces (s ∷ l) p = with_piece s (with_pieces l p)

-- what becomes of p once n's ones below height h are allocated too
unfoldable pub onward : ℕ → ℕ → Laid → Allocated
onward n h p = with_pieces (laid_pieces p) (allocate (height_count - h) h n (free_of p.free))

with-last : (l : List Section) (s : Section) (p : Allocated)
    → with_pieces (l ++ (s ∷ [])) p ≡ with_pieces l (with_piece s p)
unfolding with_pieces
with-last [] s p = refl
with-last (a ∷ l) s p = ap (with_piece a) (with-last l s p)

with_too_few : (l : List Section) → with_pieces l too_few ≡ too_few
unfolding with_pieces
with_too_few [] = refl
with_too_few (a ∷ l) = ap (with_piece a) (with_too_few l)

with_none : (l r : List Section) → with_pieces l (allocated [] r) ≡ allocated l r
unfolding with_pieces
with_none [] r = refl
with_none (a ∷ l) r = ap (with_piece a) (with_none l r)

-- ---- one height

-- the ones of n below height h, once a piece was taken
after : ℕ → ℕ → Taken → Allocated
after n h t =
    elim t as (λ _. Allocated) [
      | taken s r ↦ with_piece s (allocate (height_count - h) h n r)
      | nothing ↦ too_few
    ]

module _ (n h : ℕ) (l : h ≤ greatest_height) (free : List Section) where
  -- by n's digit at h
  from : ℕ → Allocated
  from b =
      elim b as (λ _. Allocated) [
        | zero ↦ allocate (height_count - h) h n free
        | suc _ ↦ after n h (take_piece (greatest_height - h) h free)
      ]

  step : allocate (height_count - (h + 1)) (h + 1) n free ≡ from (digit h n)
  unfolding allocate from after
  step =
      let e : height_count - (h + 1) ≡ greatest_height - h = omega arith in
      let f : suc (greatest_height - h) ≡ height_count - h = omega arith in
      ap₂ (λ x y. allocate x y n free) e (add-one h) ∙ go f
    where
      go : suc (greatest_height - h) ≡ height_count - h
          → allocate (greatest_height - h) (suc h) n free ≡ from (digit h n)
      go f =
          ap (λ k. elim (digit h n) as (λ _. Allocated) [
            | zero ↦ allocate k h n free
            | suc _ ↦ elim (take_piece (greatest_height - h) h free) as (λ _. Allocated) [
              | taken s r ↦ with_piece s (allocate k h n r)
              | nothing ↦ too_few
            ]
          ]) f

  skip : digit h n ≡ 0
      → allocate (height_count - (h + 1)) (h + 1) n free ≡ allocate (height_count - h) h n free
  unfolding from
  skip e = step ∙ ap from e

  take-one : digit h n ≡ 1
      → allocate (height_count - (h + 1)) (h + 1) n free
      ≡ after n h (take_piece (greatest_height - h) h free)
  unfolding from
  take-one e = step ∙ ap from e

-- with what is taken, or nothing
onward-taken : (n h : ℕ) (p : Laid) (t : Taken) → h ≤ greatest_height → digit h n ≡ 1
    → t ≡ take_piece (greatest_height - h) h (free_of p.free)
    → with_pieces (laid_pieces p) (after n h t) ≡ onward n (h + 1) p
unfolding onward
onward-taken n h p t l b m =
    ap (λ z. with_pieces (laid_pieces p) (after n h z)) m
    ∙ ap (with_pieces (laid_pieces p)) (sym (take-one n h l (free_of p.free) b))

-- ---- from the first height to the last

-- p is laid from the free pieces f for n's ones from height h up, and there is room for those below
pub record Laying (n h : ℕ) (f : Free) (p : Laid) : Type 0 where
  pub room : p.pieces.count + h ≤ piece_places
  pub places : length p.pieces.items ≡ piece_places
  pub stocked : Stocked p.free
  pub same : onward n h p ≡ allocate 0 height_count n (free_of f)

pub laying_at : {n h k : ℕ} {f : Free} {p : Laid} → Laying n h f p → k ≡ h → Laying n k f p
laying_at {n} {f = f} {p = p} a e = subst (λ i. Laying n i f p) (sym e) a

pub laying_start : (n : ℕ) (f : Free) → Stocked f
    → Laying n height_count f
    (record { pieces = record { count = 0; items = replicate piece_places no_piece }; free = f })
unfolding onward with_pieces list_of
laying_start n f s = record { room = omega arith; places = refl; stocked = s; same = refl }

module _ (n h : ℕ) (f : Free) (p : Laid) (a : Laying n (h + 1) f p) where
  low : h ≤ greatest_height
  low = omega (arith, a.room)

  pub laying_skip : digit h n ≡ 0 → Laying n h f p
  unfolding onward
  laying_skip b = record {
    room = omega (arith, a.room);
    places = a.places;
    stocked = a.stocked;
    same = ap (with_pieces (laid_pieces p)) (sym (skip n h low (free_of p.free) b)) ∙ a.same;
  }

  pub laying_more : (d : Drawn) → digit h n ≡ 1
      → Yields (take_piece (greatest_height - h) h (free_of p.free)) (Some d)
      → Laying n h f (record {
        pieces = record { count = p.pieces.count + 1; items = set p.pieces.items p.pieces.count d.piece };
        free = d.rest;
      })
  unfolding after onward
  laying_more d b y = record {
    room = omega (arith, a.room);
    places = length-set p.pieces.items p.pieces.count d.piece ∙ a.places;
    stocked = stocked_after (greatest_height - h) h p.free d a.stocked y;
    same =
        ap (λ l. with_pieces l (allocate (height_count - h) h n (free_of d.rest)))
        (laid_more p.pieces d.piece (omega (arith, a.room, a.places)))
        ∙ with-last (laid_pieces p) (section_in d.piece) (allocate (height_count - h) h n (free_of d.rest))
        ∙ onward-taken n h p (taken_of (Some d)) low b y.meaning
        ∙ a.same;
  }

  -- nothing is allocated once a piece was not found
  pub laying_failed : digit h n ≡ 1 → Yields (take_piece (greatest_height - h) h (free_of p.free)) None
      → too_few ≡ allocate 0 height_count n (free_of f)
  unfolding after
  laying_failed b y = sym (with_too_few (laid_pieces p)) ∙ onward-taken n h p nothing low b y.meaning ∙ a.same

pub laying_end : (n : ℕ) (f : Free) (p : Laid) → Laying n 0 f p
    → Allots (allocate 0 height_count n (free_of f)) (Some p)
unfolding onward allocate
laying_end n f p a = record {
  meaning = sym (with_none (laid_pieces p) (free_of p.free)) ∙ a.same;
  count = omega (arith, a.room);
  stocked = a.stocked;
}

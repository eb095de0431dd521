-- Taking a piece and splitting, as the code does them: take or split, then halve. Assumes nothing.
use Rattle.std.specs.Prelude.{Some}
use mathlib.Core.List.{List}
use mathlib.Core.Path.{◌∙◌, ◌≡◌, ap, refl, subst, sym}
use Prim.Native.Nat.{◌+◌, ◌-◌, ◌<◌, ◌^◌, ◌≤◌, suc, zero, ℕ}
use native.Mathlib.Numerals.{add-one}
use native.Mathlib.Omega.{arith}
use lib.Count.{ones-le}
use lib.ListN.{length}
use Rattle.layout.proofs.Allocating.{height-lt}
use Rattle.layout.proofs.Lists.{each_imp}
use Rattle.layout.proofs.Ones.{at_most_one_ones}
use Rattle.layout.proofs.Splitting.{TakesPiece, TakesPieceOf, at_most_one_small, take_piece_is}
use Rattle.layout.proofs.Taking.{take_piece_highest, take_piece_or_split}
use Rattle.layout.specs.Adding.{Taken, nothing, or_else, split_at, take_of_height, take_piece, taken}
use Rattle.layout.specs.Allocations.{Stock}
use Rattle.layout.specs.Lists.{sum_of}
use Rattle.section.specs.Limits.{greatest_disk, greatest_height, height_count}
use Rattle.section.specs.Sections.{length_of}
use Rattle.section.specs.declared.Section.{Section}
use Rattle.piece.specs.Packed.{section_in}
use Rattle.free_pieces.specs.Free.{free_of, taken_of}
use Rattle.free_pieces.specs.Taking.{Stocked, ToHalve, Yields, split_piece}
use Rattle.free_pieces.specs.declared.Drawn.{Drawn}
use Rattle.free_pieces.specs.declared.Free.{Free}

-- with no height above h nothing is split
split_piece_highest : (h : ℕ) (free : List Section) → split_piece 0 h free ≡ nothing
unfolding split_piece
split_piece_highest h free = refl

-- else what is taken a height up
split_piece_below : (k h : ℕ) (free : List Section)
    → split_piece (suc k) h free ≡ split_at h (take_piece k (suc h) free)
unfolding split_piece
split_piece_below k h free = refl

-- ---- take, or else split

take_piece-or : (k h : ℕ) (free : List Section)
    → take_piece k h free ≡ or_else (take_of_height h free) (split_piece k h free)
take_piece-or zero h free =
    take_piece_highest h free
    ∙ (go (take_of_height h free) ∙ ap (or_else (take_of_height h free)) (sym (split_piece_highest h free)))
  where
    go : (t : Taken) → t ≡ or_else t nothing
    go (taken s r) = refl
    go nothing = refl
take_piece-or (suc k) h free =
    take_piece_or_split k h free ∙ ap (or_else (take_of_height h free)) (sym (split_piece_below k h free))

pub taken_here : (k h : ℕ) (free : List Section) (d : Drawn) → taken_of (Some d) ≡ take_of_height h free
    → taken_of (Some d) ≡ take_piece k h free
taken_here k h free d e = ap (λ t. or_else t (split_piece k h free)) e ∙ sym (take_piece-or k h free)

pub taken_split : (k h : ℕ) (free : List Section) (q : Taken) → nothing ≡ take_of_height h free
    → q ≡ split_piece k h free → q ≡ take_piece k h free
taken_split k h free q e s = s ∙ ap (λ t. or_else t (split_piece k h free)) e ∙ sym (take_piece-or k h free)

-- ---- split, at the greatest height and below

pub split_top : (h : ℕ) (free : List Section) → h ≡ greatest_height
    → nothing ≡ split_piece (greatest_height - h) h free
split_top h free e =
    let z : greatest_height - h ≡ 0 = omega arith in
    sym (split_piece_highest h free) ∙ ap (λ k. split_piece k h free) (sym z)

split_on : (h : ℕ) (free : List Section) → h < greatest_height
    → split_at h (take_piece (greatest_height - (h + 1)) (h + 1) free) ≡ split_piece (greatest_height - h) h free
split_on h free l =
    let z : greatest_height - h ≡ suc (greatest_height - (h + 1)) = omega arith in
    ap (λ j. split_at h (take_piece (greatest_height - (h + 1)) j free)) (add-one h)
    ∙ (sym (split_piece_below (greatest_height - (h + 1)) h free) ∙ ap (λ k. split_piece k h free) (sym z))

pub split_same : (h : ℕ) (free : List Section) (t q : Taken) → h < greatest_height
    → t ≡ take_piece (greatest_height - (h + 1)) (h + 1) free → q ≡ split_at h t
    → q ≡ split_piece (greatest_height - h) h free
split_same h free t q l e f = f ∙ ap (split_at h) e ∙ split_on h free l

-- ---- what is left

pub stock_of : {f : Free} → Stocked f → Stock greatest_disk (free_of f)
stock_of s = record { disk = s.disk; rising = s.rising; thin = s.distinct }

-- free pieces of distinct lengths are at most as many as there are heights
pub stock_few : {l : List Section} → Stock greatest_disk l → length l ≤ height_count
stock_few {l} s =
    let low : sum_of length_of l < 2 ^ height_count =
    at_most_one_small greatest_disk height_count
    (each_imp (λ a d. height-lt greatest_disk height_count (omega arith) a d) s.disk) s.thin in
    omega (arith, at_most_one_ones l s.thin, ones-le height_count (sum_of length_of l) low)

-- what was taken is on the disk, and what is left is stock
pub took : (k h : ℕ) (free : Free) (d : Drawn) → Stocked free → taken_of (Some d) ≡ take_piece k h (free_of free)
    → TakesPiece greatest_disk h (free_of free) (section_in d.piece) (free_of d.rest)
took k h free d s e =
    subst (TakesPieceOf greatest_disk k h (free_of free)) (sym e)
    (take_piece_is greatest_disk k h (free_of free) (stock_of s))

pub to_halve : (k h : ℕ) (free : Free) (d : Drawn) → h < greatest_height → Stocked free
    → taken_of (Some d) ≡ take_piece k (h + 1) (free_of free) → length (free_of d.rest) ≡ d.rest.count → ToHalve h d
to_halve k h free d l s e x =
    let t = took k (h + 1) free d s e in
    let p : length_of (section_in d.piece) ≡ 2 ^ suc h = ap (λ z. 2 ^ z) (t.height ∙ add-one h) in
    record {
      low = omega arith;
      fits = omega (arith, t.fits.within, p);
      most = omega (arith, stock_few t.stock);
    }

pub stocked_after : (k h : ℕ) (free : Free) (d : Drawn) → Stocked free
    → Yields (take_piece k h (free_of free)) (Some d) → Stocked d.rest
stocked_after k h free d s y =
    let t = took k h free d s y.meaning in
    record {
      disk = t.stock.disk;
      rising = t.stock.rising;
      distinct = t.stock.thin;
      most = y.most;
      exact = y.exact;
    }

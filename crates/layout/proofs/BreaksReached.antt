-- The limit on the breaks of a file is reached: for each n from 1 to 2 ^ k a sound layout has a file of n blocks with
-- one break less than n has ones. Assumes nothing.
use mathlib.Core.List.{List, [], ◌∷◌, map}
use mathlib.Core.Logic.{inl, inr}
use mathlib.Core.Path.{◌∙◌, ◌≡◌, ap, refl}
use Prim.Native.Nat.{◌+◌, ◌-◌, ◌<◌, ◌^◌, ◌≤◌, suc, zero, ℕ}
use native.Mathlib.Nat.{mod_self, zero-mod}
use native.Mathlib.Omega.{arith}
use lib.Count.{ones}
use lib.ListN.{length}
use lib.Pow.{pow-lt, pow_mono, pow_pos}
use Rattle.layout.proofs.Allocating.{falling_thin}
use Rattle.layout.proofs.Breaks.{break_apart, breaks-next, breaks-none, breaks-one}
use Rattle.layout.proofs.Lists.{each_append, each_imp, each_sort, sum-append, sum_ge, sum_sort}
use Rattle.layout.proofs.Ones.{falling-ones}
use Rattle.layout.proofs.Ranges.{in_range-halves}
use Rattle.layout.proofs.SoundSums.{falling_heights}
use Rattle.layout.proofs.Soundness.{sums_sound}
use Rattle.layout.proofs.Taking.{sort_rising}
use Rattle.layout.specs.BreakLimit.{LimitReached}
use Rattle.layout.specs.Cases.{disk, file}
use Rattle.layout.specs.Covering.{Falling}
use Rattle.layout.specs.Layout.{File, Layout, OnDisk, block_count, breaks_of, by_first, file_pieces, find_file}
use Rattle.layout.specs.Layout.{holds_block, in_range, of_height}
use Rattle.layout.specs.Lists.{Each, done, more, next, none, sort_by, sum_of}
use Rattle.layout.specs.Sums.{SoundSums, shape}
use Rattle.section.proofs.Lengths.{pow_lt_inv}
use Rattle.section.proofs.Multiples.{below_or_not}
use Rattle.section.specs.Sections.{length_of, section}
use Rattle.section.specs.declared.Section.{Section}

-- ---- pieces with a break at each but the first

-- no piece starts further on than its own length
abbrev Early : List Section → Type 0
Early l = Each (λ (s : Section). s.first ≤ length_of s) l

-- early pieces, longest first: none starts where the one before it ends, so there is a break at each but the first
early_breaks : {l : List Section} → Falling l → Early l → breaks_of l ≡ length l - 1
early_breaks none done = breaks-none
early_breaks (next {a = s} done none) (more q done) = breaks-one s
early_breaks (next {a = s} (more {a = t} {l = l} p e) f) (more q (more r d)) = omega (
  arith,
  breaks-next s t l,
  break_apart s t (λ z. omega (arith, pow-lt p)),
  early_breaks f (more r d),
)

-- ---- disks of which n blocks are held

-- early pieces of a disk of c blocks, longest first, of n blocks in all
record Lot (c n : ℕ) : Type 0 where
  pieces : List Section
  disk : Each (OnDisk c) pieces
  falling : Falling pieces
  early : Early pieces
  size : block_count pieces ≡ n

-- the 2 ^ k blocks after the first 2 ^ k
abbrev second : ℕ → Section
second k = section (2 ^ k) k

-- a lot of fewer than 2 ^ k blocks, with that section put first, is a lot of 2 ^ k blocks more
abbrev lot_with_second : {c m n : ℕ} (k : ℕ) → 2 ^ suc k ≤ c → m < 2 ^ k → n ≡ 2 ^ k + m → Lot c m → Lot c n
lot_with_second {c} {m} {n} k fits p e q = record {
  pieces = second k ∷ q.pieces;
  disk = more {a = second k} (record { aligned = mod_self (2 ^ k); within = omega arith }) q.disk;
  falling =
      next {a = second k}
      (each_imp (λ s z. pow_lt_inv s.height.value k (omega (arith, q.size))) (sum_ge length_of q.pieces))
      q.falling;
  early = more {a = second k} (omega arith) q.early;
  size = omega (arith, q.size);
}

-- the first 2 ^ k blocks of a disk of c: n are held, by one piece or more, and m are free
record Tiled (c k n m : ℕ) : Type 0 where
  held : Lot c n
  free : Lot c m
  some : 1 ≤ length (map (λ (s : Section). s.height.value) held.pieces)
  covers : (x : ℕ) → sum_of (holds_block x) held.pieces + sum_of (holds_block x) free.pieces ≡ in_range x 0 (2 ^ k)

-- one piece holds them all
tiled_by_one : (c k n m : ℕ) → 2 ^ k ≤ c → n ≡ 2 ^ k → m ≡ 0 → Tiled c k n m
tiled_by_one c k n m fits p q = record {
  held = record {
    pieces = section 0 k ∷ [];
    disk = more {a = section 0 k} (record { aligned = zero-mod (2 ^ k); within = omega arith }) done;
    falling = next done none;
    early = more {a = section 0 k} (omega arith) done;
    size = omega arith;
  };
  free = record { pieces = []; disk = done; falling = none; early = done; size = omega arith };
  some = omega arith;
  covers = λ x. omega arith;
}

-- any n from 1 on can be held: the upper half is free if n is at most a half, else held, and so on in the lower half
tiled : (c k n m : ℕ) → 2 ^ k ≤ c → 1 ≤ n → n + m ≡ 2 ^ k → Tiled c k n m
tiled c zero n m fits low sum = tiled_by_one c 0 n m fits (omega arith) (omega arith)
tiled c (suc k) n m fits low sum =
    elim (below_or_not (2 ^ k) n) [
      | inr p ↦ (let t = tiled c k n (m - 2 ^ k) (omega arith) low (omega arith) in record {
        held = t.held;
        free = lot_with_second k fits (omega arith) (omega arith) t.free;
        some = t.some;
        covers = λ x. omega (arith, t.covers x, halves x);
      })
      | inl p ↦ elim (below_or_not 0 m) [
        | inr q ↦ tiled_by_one c (suc k) n m fits (omega arith) (omega arith)
        | inl q ↦ (let t = tiled c k (n - 2 ^ k) m (omega arith) (omega arith) (omega arith) in record {
          held = lot_with_second k fits (omega arith) (omega arith) t.held;
          free = t.free;
          some = omega arith;
          covers = λ x. omega (arith, t.covers x, halves x);
        })
      ]
    ]
  where
    halves : (x : ℕ) → in_range x 0 (2 ^ suc k) ≡ in_range x 0 (2 ^ k) + holds_block x (second k)
    halves x =
        ap (in_range x 0) (omega arith)
        ∙ (in_range-halves x 0 (2 ^ k) (2 ^ k) ∙ ap (λ a. in_range x 0 (2 ^ k) + in_range x a (2 ^ k)) (omega arith))

-- ---- as a layout

module _ {k n m : ℕ} (t : Tiled (2 ^ k) k n m) where
  -- file 1 has the held blocks
  abbrev holder : File
  holder = file 1 t.held.pieces

  -- and no other file is there
  abbrev tiled_layout : Layout
  tiled_layout = disk (2 ^ k) (holder ∷ []) (sort_by by_first t.free.pieces)

  -- it keeps the rules
  tiled_sound : SoundSums (suc k) tiled_layout
  unfolding file_pieces
  tiled_sound = record {
    some = pow_pos k;
    top = pow-lt {i = k} {j = suc k} (omega arith);
    cap = pow_mono {i = k} {j = suc k - 1} (omega arith);
    disk = each_append (each_append t.held.disk done) (each_sort by_first t.free.disk);
    covers = λ x. omega (
      arith,
      t.covers x,
      sum-append (holds_block x) (file_pieces (holder ∷ [])) tiled_layout.free,
      sum-append (holds_block x) t.held.pieces [],
      sum_sort (holds_block x) by_first t.free.pieces,
    );
    rising = sort_rising t.free.pieces;
    thin = λ h. omega (arith, falling_thin t.free.falling h, sum_sort (of_height h) by_first t.free.pieces);
    shapes = more {a = shape holder} (record {
      low = omega arith;
      high = omega arith;
      falling = falling_heights t.held.falling;
      some = t.some;
    }) done;
    ids = next done none;
    few = omega arith;
  }

-- for every n that the greatest disk can hold, the limit is reached
pub limit_reached : (k n : ℕ) → 1 ≤ n → n ≤ 2 ^ k → LimitReached (suc k) n
unfolding find_file
limit_reached k n low most =
    let t = tiled (2 ^ k) k n (2 ^ k - n) (omega arith) low (omega arith) in
    let q = t.held in
    record {
      layout = tiled_layout t;
      rules = sums_sound (suc k) (tiled_layout t) (tiled_sound t);
      file = holder t;
      there = refl;
      blocks = q.size;
      breaks = early_breaks q.falling q.early ∙ ap (λ z. z - 1) (falling-ones q.falling ∙ ap ones q.size);
    }

-- ---- in literal numbers

-- with the heights of version 1, for every n from 1 to 4,096
pub limit_reached_small : (n : ℕ) → 1 ≤ n → n ≤ 4096 → LimitReached 13 n
limit_reached_small = limit_reached 12

-- and with those of version 2, for every n from 1 to 1,048,576
pub limit_reached_large : (n : ℕ) → 1 ≤ n → n ≤ 1048576 → LimitReached 21 n
limit_reached_large = limit_reached 20

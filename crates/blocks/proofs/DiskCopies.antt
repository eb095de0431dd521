-- The copies of a run and of a merge: what is left of them, and how many they are. Assumes nothing.
use mathlib.Core.Bool.{true}
use mathlib.Core.List.{List, [], ◌++◌, ◌∷◌}
use mathlib.Core.Path.{◌∙◌, ◌≡◌, ap, ap₂, refl, subst, sym}
use Prim.Native.Nat.{◌*◌, ◌+◌, ◌-◌, ◌<◌, ◌≤◌, suc, ℕ}
use native.Mathlib.Omega.{arith}
use lib.ListN.{get_or, length, length-take, take}
use lib.Seq.{get_or-take}
use Rattle.blocks.specs.DiskCode.{Copied, HasRun, MergeFits}
use Rattle.free_pieces.specs.Gaps.{Gaps, PairFits, gap_copies}
use Rattle.free_pieces.specs.declared.Gap.{Gap}
use Rattle.free_pieces.specs.declared.Pair.{Pair}
use Rattle.free_pieces.proofs.GapSteps.{Counting, counting_end, counting_gap, counting_more, counting_start, gap_bounds}
use Rattle.free_pieces.proofs.GapSteps.{gap_last, gap_more, later}
use Rattle.layout.specs.Removing.{Copy, copy_run}
use Rattle.piece.specs.Packed.{no_piece, section_in, seen}
use Rattle.piece.specs.declared.Piece.{Piece}
use Rattle.manager.specs.Disk.{block, run_copies, store_block}
use Rattle.section.specs.Limits.{block_size, greatest_disk}
use Rattle.section.specs.Sections.{Addressable, buddy_of, end_of, is_inside, length_of}
use Rattle.section.specs.declared.Section.{Section}

pub copies_start : (d : List ℕ) (a b n : ℕ)
    → run_copies d (copy_run (a + 0) (b + 0) (n - 0)) ≡ run_copies d (copy_run a b n)
copies_start d a b n =
    let x : a + 0 ≡ a = omega arith in
    let y : b + 0 ≡ b = omega arith in
    let z : n - 0 ≡ n = omega arith in
    ap₂ (λ p q. run_copies d (copy_run p q (n - 0))) x y ∙ ap (λ p. run_copies d (copy_run a b p)) z

-- one copy more
pub copies_more : (d : List ℕ) (a b n i : ℕ) → i < n
    → run_copies (store_block d (b + i) (block d (a + i))) (copy_run (a + (i + 1)) (b + (i + 1)) (n - (i + 1)))
    ≡ run_copies d (copy_run (a + i) (b + i) (n - i))
unfolding run_copies copy_run
copies_more d a b n i l =
    let e : n - i ≡ suc (n - (i + 1)) = omega arith in
    let x : a + (i + 1) ≡ suc (a + i) = omega arith in
    let y : b + (i + 1) ≡ suc (b + i) = omega arith in
    ap₂ (λ p q. run_copies (store_block d (b + i) (block d (a + i))) (copy_run p q (n - (i + 1)))) x y
    ∙ ap (λ z. run_copies d (copy_run (a + i) (b + i) z)) (sym e)

pub copies-end : (d : List ℕ) (a b n i : ℕ) → n ≤ i → d ≡ run_copies d (copy_run (a + i) (b + i) (n - i))
unfolding run_copies copy_run
copies-end d a b n i l =
    let e : n - i ≡ 0 = omega arith in ap (λ z. run_copies d (copy_run (a + i) (b + i) z)) (sym e)

pub run_append : (a b : List Copy) (d : List ℕ) → run_copies d (a ++ b) ≡ run_copies (run_copies d a) b
unfolding run_copies
run_append [] b d = refl
run_append (c ∷ a) b d = run_append a b (store_block d c.target (block d c.source))

-- no copy
pub copied_none : (d : List ℕ) (l : List Copy) → l ≡ [] → Copied d d l greatest_disk 0
unfolding run_copies
copied_none d l e = subst (λ x. Copied d d x greatest_disk 0) (sym e)
    (record { disk = refl; count = refl; most = omega arith; same = refl })

-- a disk of n bytes has the blocks of b and as many from u on
pub record Room (b : Section) (u n : ℕ) : Type 0 where
  pub buddy : block_size * end_of b ≤ n
  pub upper : block_size * (u + length_of b) ≤ n
  pub disk : n ≤ block_size * greatest_disk

pub room_of : (p : Pair) (b : Section) (n : ℕ) → b ≡ buddy_of p.lower → MergeFits n p.lower p.upper
    → Room b p.upper.first n
room_of p b n e f =
    subst (λ s. Room s p.upper.first n) (sym e)
    (record { buddy = f.buddy; upper = f.upper; disk = f.disk })

-- the copies of the gaps before the first j of m pieces are made, so many as `copied`
pub record Copying (b : Section) (u : ℕ) (items : List Piece) (m at copied j : ℕ) (d₀ d : List ℕ) : Type 0 where
  pub counting : Counting b items m at copied j
  pub disk :
      run_copies d (gap_copies b u at (later items m j)) ≡ run_copies d₀ (gap_copies b u b.first (take m (seen items)))
  pub same : length d ≡ length d₀
  pub room : Room b u (length d)

pub copying_start : (p : Pair) (b : Section) (d : List ℕ) → PairFits p
    → MergeFits (length d) p.lower p.upper → b ≡ buddy_of p.lower
    → Copying b p.upper.first p.others.items p.others.count b.first 0 0 d d
copying_start p b d f g e = record {
  counting = counting_start p b f e;
  disk = refl;
  same = refl;
  room = room_of p b (length d) e g;
}

module _ (b : Section) (u : ℕ) (items : List Piece) (m at copied j : ℕ) (d₀ d : List ℕ)
    (k : Copying b u items m at copied j d₀ d) where
  -- the place of the next block in the upper section
  pub copying_place : u + (at - b.first) ≤ greatest_disk
  copying_place = omega (arith, k.counting.left.high, k.room.upper, k.room.disk)

  -- the next piece, in the word s
  module _ (s : Section) (here : j < length (take m items))
      (word : s ≡ section_in (get_or (take m items) j no_piece)) where
    lt : j < m
    lt = omega (arith, length-take m items)

    is : s ≡ section_in (get_or items j no_piece)
    is = word ∙ ap section_in (get_or-take m items j no_piece lt)

    pub copying_gap : (Addressable b × Addressable s) × (is_inside s b ≡ true → at ≤ s.first)
    copying_gap = counting_gap b items m at copied j k.counting s lt is

    module _ (r : Gap) (e : Gaps b at s r) where
      -- a gap has room
      pub copying_run : HasRun (length d) at r.count × HasRun (length d) (u + (at - b.first)) r.count
      copying_run =
          let w = gap_bounds b items m j at s k.counting.within lt is k.counting.left r e in
          (omega (arith, w, k.room.buddy), omega (arith, w, k.room.upper, k.counting.left.low))

      -- the copies that are made are no more than the disk's blocks
      pub copying_most : copied + r.count ≤ greatest_disk
      copying_most =
          let w = gap_bounds b items m j at s k.counting.within lt is k.counting.left r e in
          omega (arith, w, k.counting.bounded, k.room.buddy, k.room.disk)

      pub copying_more : (d' : List ℕ) (n : ℕ)
          → Copied d d' (copy_run at (u + (at - b.first)) r.count) r.count n → n ≡ r.count
          → Copying b u items m r.past (copied + n) (j + 1) d₀ d'
      copying_more d' n c all = record {
        counting =
            subst (λ x. Counting b items m r.past (copied + x) (j + 1)) (sym all)
            (counting_more b items m at copied j k.counting s lt is r e);
        disk =
            ap (λ x. run_copies x (gap_copies b u r.past (later items m (j + 1)))) c.disk
            ∙ (sym (run_append (copy_run at (u + (at - b.first)) r.count)
            (gap_copies b u r.past (later items m (j + 1))) d)
            ∙ (ap (run_copies d)
            (sym (gap_more b items m j at s k.counting.within lt is k.counting.left r e u)) ∙ k.disk));
        same = c.same ∙ k.same;
        room = subst (Room b u) (sym c.same) k.room;
      }

  -- what is left after the last piece has room
  pub copying_rest : (e : ℕ) → e ≡ end_of b - at
      → HasRun (length d) at e × HasRun (length d) (u + (at - b.first)) e × (copied + e ≤ greatest_disk)
  copying_rest e q = (
    omega (arith, k.counting.left.high, k.room.buddy),
    omega (arith, k.counting.left.low, k.counting.left.high, k.room.upper),
    omega (arith, k.counting.bounded, k.counting.left.high, k.room.buddy, k.room.disk),
  )

  pub copying_end : length (take m items) ≤ j → (e : ℕ) → e ≡ end_of b - at → (d' : List ℕ) (n : ℕ)
      → Copied d d' (copy_run at (u + (at - b.first)) e) e n → n ≡ e
      → Copied d₀ d' (gap_copies b u b.first (take m (seen items))) greatest_disk (copied + n)
  copying_end past e q d' n c all =
      let le : m ≤ j = omega (arith, k.counting.within, length-take m items) in record {
        disk =
            c.disk
            ∙ (ap (λ x. run_copies d (copy_run at (u + (at - b.first)) x)) q
            ∙ (ap (run_copies d) (sym (gap_last b u at items m j k.counting.within le)) ∙ k.disk));
        count = omega (arith, counting_end b items m at copied j k.counting le u);
        most = omega (arith, (copying_rest e q).2);
        same = c.same ∙ k.same;
      }

-- The two forms of soundness say the same: the rules of document 01, and their form by sums. Assumes nothing.
use mathlib.Core.List.{List, [], ◌∷◌, map}
use mathlib.Core.Path.{◌∙◌, ◌≡◌, ap, sym}
use Prim.Native.Nat.{◌-◌, ◌<◌, ◌^◌, ◌≤◌, ℕ}
use native.Mathlib.Decide.{ℕ_discrete}
use native.Mathlib.Nat.{le_of_lt}
use native.Mathlib.Omega.{arith}
use lib.Count.{ones, ones-le}
use lib.ListN.{length}
use lib.Pow.{pow-lt, pow_pos}
use Rattle.layout.proofs.Allocating.{height-lt}
use Rattle.layout.proofs.Cover.{disjoint_covers}
use Rattle.layout.proofs.Lists.{each_and, each_imp, each_unmap, pairwise_imp, pairwise_map, pairwise_unmap}
use Rattle.layout.proofs.Lists.{sum-append, sum_ge_all}
use Rattle.layout.proofs.Ones.{at_most_one_distinct, at_most_one_ones, distinct_at_most_one, falling-ones}
use Rattle.layout.proofs.Ranges.{in_range-apart, in_range_inside, in_range-le-one}
use Rattle.layout.proofs.SoundSums.{falling_heights, falling-of, free_is, free_size, pieces_size}
use Rattle.layout.specs.Covering.{Falling, Rising}
use Rattle.layout.specs.Layout.{File, Layout, all_pieces, block_count, file_blocks, file_pieces, free_blocks}
use Rattle.layout.specs.Layout.{holds_block}
use Rattle.layout.specs.Lists.{Each, Pairwise, done, more, next, none, sum_of}
use Rattle.layout.specs.Sound.{Sound, greatest_id}
use Rattle.layout.specs.Sums.{ShapeSound, SoundSums, shape}
use Rattle.section.proofs.Lengths.{pow_lt_inv}
use Rattle.section.specs.Sections.{Apart, length_of}
use Rattle.section.specs.declared.Section.{Section}

-- pieces that hold no block twice are apart, and their firsts differ
pub apart_each : (m : List Section) → ((x : ℕ) → sum_of (holds_block x) m ≤ 1)
    → Pairwise (λ (s t : Section). Apart s.first (length_of s) t.first (length_of t)) m
apart_each [] once = none
apart_each (s ∷ m) once =
    next
    (each_imp
    (λ t share. in_range-apart s.first (length_of s) t.first (length_of t) (pow_pos s.height.value)
    (pow_pos t.height.value) (λ x. omega (arith, once x, share x)))
    (sum_ge_all holds_block m))
    (apart_each m (λ x. omega (arith, once x)))

pub rising_strict : (m : List Section) → Rising m → ((x : ℕ) → sum_of (holds_block x) m ≤ 1)
    → Pairwise (λ (s t : Section). s.first < t.first) m
rising_strict [] r once = none
rising_strict (s ∷ m) (next e r) once =
    next (each_imp (λ t p. strict t p.0 p.1) (each_and e (sum_ge_all holds_block m)))
    (rising_strict m r (λ x. omega (arith, once x)))
  where
    strict : (t : Section) → s.first ≤ t.first → ((x : ℕ) → holds_block x t ≤ sum_of (holds_block x) m)
        → s.first < t.first
    strict t p share = go (ℕ_discrete s.first t.first)
      where
        go : Dec (s.first ≡ t.first) → s.first < t.first
        go (yes e) = absurd (omega (
          arith,
          once s.first,
          share s.first,
          in_range_inside s.first s.first (length_of s) (omega arith)
              (omega (arith, pow_pos s.height.value)),
          in_range_inside s.first t.first (length_of t) (omega arith)
              (omega (arith, pow_pos t.height.value)),
        ))
        go (no n) = omega (arith, n)

module _ (k : ℕ) (l : Layout) where
  -- ---- from the rules to sums

  sound_shapes : (fs : List File) → Each (λ (f : File). 1 ≤ f.id) fs → Each (λ (f : File). f.id ≤ greatest_id) fs
      → Each (λ (f : File). 1 ≤ file_blocks f) fs
      → Each (λ (f : File). Pairwise (λ (s t : Section). length_of t < length_of s) f.pieces) fs
      → Each ShapeSound (map shape fs)
  sound_shapes [] a b c d = done
  sound_shapes (f ∷ fs) (more p a) (more q b) (more r c) (more o d) =
      more {a = shape f}
      (record {
        low = p;
        high = q;
        falling = falling_heights (pairwise_imp (λ s t z. pow_lt_inv t.height.value s.height.value z) o);
        some = nonempty f.pieces r;
      })
      (sound_shapes fs a b c d)
    where
      nonempty : (m : List Section) → 1 ≤ block_count m → 1 ≤ length (map (λ (s : Section). s.height.value) m)
      nonempty [] z = absurd (omega arith)
      nonempty (s ∷ m) z = omega arith

  pub sound_sums : 1 ≤ k → Sound k l → SoundSums k l
  sound_sums pos s = record {
    some = s.some_blocks;
    top = omega (arith, s.most_blocks, pow-lt {i = k - 1} {j = k} (omega arith));
    cap = s.most_blocks;
    disk = s.on_disk;
    covers = disjoint_covers l.blocks s.on_disk s.apart (omega (
      arith,
      sum-append length_of (file_pieces l.files) l.free,
      pieces_size l.files,
      s.free_sum,
      s.pages_fit,
    ));
    rising = pairwise_imp (λ a b p. le_of_lt p) s.free_rise;
    thin = distinct_at_most_one s.free_distinct;
    shapes = sound_shapes l.files s.least_id s.most_id s.some_pages s.page_order;
    ids = pairwise_map shape s.ids_rise;
    few = s.most_files;
  }

  -- a sound layout has at most as many free pieces as heights
  pub free-few : 1 ≤ k → l.blocks ≤ 2 ^ (k - 1) → length l.free ≡ ones (free_blocks l) → length l.free ≤ k
  free-few pos most count =
      omega (arith, ones-le k (free_blocks l) (omega (arith, pow-lt {i = k - 1} {j = k} (omega arith))))

  -- ---- from sums to the rules

  shape-file : (fs : List File) → Each ShapeSound (map shape fs) → Each (λ (f : File). ShapeSound (shape f)) fs
  shape-file fs e = each_unmap shape fs e

  some_size : (m : List Section) → 1 ≤ length (map (λ (s : Section). s.height.value) m) → 1 ≤ block_count m
  some_size [] p = absurd (omega arith)
  some_size (s ∷ m) p = omega (arith, pow_pos s.height.value)

  pub sums_sound : SoundSums k l → Sound k l
  sums_sound g =
      let shapes = shape-file l.files g.shapes in
      let falling : (f : File) → ShapeSound (shape f) → Falling f.pieces =
      λ f p. falling-of f.pieces p.falling in
      let once : (x : ℕ) → sum_of (holds_block x) (all_pieces l) ≤ 1 =
      λ x. omega (arith, g.covers x, in_range-le-one x 0 l.blocks) in
      record {
        some_blocks = g.some;
        most_blocks = g.cap;
        most_files = g.few;
        least_id = each_imp (λ f p. p.low) shapes;
        most_id = each_imp (λ f p. p.high) shapes;
        ids_rise = pairwise_unmap shape l.files g.ids;
        some_pages = each_imp (λ f p. some_size f.pieces p.some) shapes;
        pages_fit = omega (arith, free_size k l g);
        on_disk = g.disk;
        heights = each_imp (λ s d. height-lt l.blocks k g.top s d) g.disk;
        page_order = each_imp (λ f p. pairwise_imp (λ s t q. pow-lt q) (falling f p)) shapes;
        file_count = each_imp (λ f p. falling-ones (falling f p)) shapes;
        free_rise =
            rising_strict l.free g.rising
            (λ x. omega (arith, once x, sum-append (holds_block x) (file_pieces l.files) l.free));
        free_distinct = at_most_one_distinct l.free g.thin;
        free_sum = sym (free_is k l g);
        free_count = at_most_one_ones l.free g.thin ∙ ap ones (sym (free_is k l g));
        apart = apart_each (all_pieces l) once;
      }

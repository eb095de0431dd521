-- The order of merges: a removal merges at most once at each height, from low to high. Assumes nothing.
use mathlib.Core.List.{List}
use mathlib.Core.Path.{◌≡◌, subst, sym}
use Prim.Native.Nat.{◌/◌, ◌<◌, ◌^◌, ◌≤◌, suc, ℕ}
use native.Mathlib.Decide.{dec_lt, ℕ_discrete}
use native.Mathlib.Nat.{mod-lt}
use native.Mathlib.Omega.{arith}
use Rattle.layout.proofs.Lists.{each_imp}
use Rattle.layout.proofs.Removed.{release_counts, removal_keeps}
use Rattle.layout.specs.Layout.{File, Layout, file_blocks, free_blocks}
use Rattle.layout.specs.Lists.{Each, Pairwise, done, more, next, none}
use Rattle.layout.specs.Removing.{Merge, release}
use Rattle.layout.specs.Merges.{MergeKeeps, MergedAll, merge_heights, rest, step}
use Rattle.layout.specs.Removals.{Find}
use Rattle.layout.specs.Sums.{SoundSums}
use Rattle.layout.specs.Covering.{count_of}

-- a merge has one height: the only one that loses free pieces
pub merge_height_unique : {c h j : ℕ} {w : Layout} {m : Merge} → MergeKeeps c h w m → MergeKeeps c j w m → j ≡ h
merge_height_unique {c} {h} {j} {w} {m} p q = go (ℕ_discrete j h) (ℕ_discrete j (suc h))
  where
    go : Dec (j ≡ h) → Dec (j ≡ suc h) → j ≡ h
    go (yes e) d = e
    go (no n) (yes e) = absurd (omega (
      arith,
      q.less,
      subst (λ z. count_of z m.after.free ≡ suc (count_of z w.free)) (sym e) p.plus,
    ))
    go (no n) (no o) = absurd (omega (arith, q.less, p.same j n o))

-- the counts of free pieces when the heights below h are done: what is carried into h may make three there
pub record AtMostFrom (h : ℕ) (w : Layout) : Type 0 where
  pub low : (j : ℕ) → j < h → count_of j w.free ≤ 1
  pub carried : count_of h w.free ≤ 3
  pub high : (j : ℕ) → h < j → count_of j w.free ≤ 2

-- the next merge is at no lower height, and its height is then done
pub carry_on : {c i h : ℕ} {w : Layout} {m : Merge} → ((j : ℕ) → j < h → count_of j w.free ≤ 1)
    → MergeKeeps c h w m → AtMostFrom i w → (i ≤ h) × AtMostFrom (suc h) m.after
carry_on {c} {i} {h} {w} {m} low st p = (
  above (dec_lt h i),
  record {
    low = λ j q. below j q (ℕ_discrete j h);
    carried = omega (arith, st.plus, p.high (suc h) (omega (arith, above (dec_lt h i))));
    high = λ j q. omega (
      arith,
      st.same j (λ e. omega arith) (λ e. omega arith),
      p.high j (omega (arith, above (dec_lt h i))),
    );
  },
)
  where
    above : Dec (h < i) → i ≤ h
    above (yes q) = absurd (omega (arith, p.low h q, st.less))
    above (no q) = omega arith

    at : Dec (h ≡ i) → count_of h w.free ≤ 3
    at (yes e) = subst (λ z. count_of z w.free ≤ 3) (sym e) p.carried
    at (no n) = omega (arith, p.high h (omega (arith, n, above (dec_lt h i))))

    below : (j : ℕ) → j < suc h → Dec (j ≡ h) → count_of j m.after.free ≤ 1
    below j q (yes e) =
        subst (λ z. count_of z m.after.free ≤ 1) (sym e) (omega (arith, st.less, at (ℕ_discrete h i)))
    below j q (no n) = omega (arith, st.same j n (λ e. omega arith), low j (omega (arith, n)))

-- with the heights below i done, the merges start at i or above and rise
heights_from : {c K i : ℕ} {w : Layout} {ms : List Merge} (s : MergedAll c K w ms) → AtMostFrom i w
    → Each (λ j. i ≤ j) (merge_heights s) × Pairwise (λ h j. h < j) (merge_heights s)
unfolding merge_heights
heights_from (rest wh t) p = (done, none)
heights_from (step h lt wh low st s) p =
    let q = carry_on low st p in
    let r = heights_from s q.1 in
    (more q.0 (each_imp (λ j e. omega (arith, q.0)) r.0), next r.0 r.1)

-- where no height has more than two free pieces, the merges go from low to high, none twice at one height
pub merge_heights_rise : {c K : ℕ} {w : Layout} {ms : List Merge} (s : MergedAll c K w ms)
    → ((j : ℕ) → count_of j w.free ≤ 2) → Pairwise (λ h j. h < j) (merge_heights s)
merge_heights_rise s two =
    (heights_from {i = 0} s
    (record { low = λ j q. absurd (omega arith); carried = omega (arith, two 0); high = λ j q. two j })).1

module _ (K i : ℕ) (l : Layout) (f : File) (r : List File) (g : SoundSums K l) (x : Find i l.files f r) where
  -- after the release a height has at most two free pieces: one of the file, and one that was free
  pub released_two : (j : ℕ) → count_of j (release f l).free ≤ 2
  released_two j = omega (
    arith,
    release_counts K i l f r g x j,
    mod-lt (free_blocks l / 2 ^ j) {m = 2} (omega arith),
    mod-lt (file_blocks f / 2 ^ j) {m = 2} (omega arith),
  )

  -- the heights of a removal's merges rise, so at most one merge happens at each height
  pub one_merge_a_height : Pairwise (λ h j. h < j) (merge_heights (removal_keeps K i l f r g x).steps)
  one_merge_a_height = merge_heights_rise (removal_keeps K i l f r g x).steps released_two

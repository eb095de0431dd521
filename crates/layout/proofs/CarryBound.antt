-- Merges to the end copy at most the sum of the place values at which f + n carries. What counts of free pieces come
-- to is a word of this file only: every law that others see speaks of `carries`. Assumes nothing.
use mathlib.Core.List.{List}
use mathlib.Core.Logic.{◌⊎◌, inl, inr}
use mathlib.Core.Path.{◌∙◌, ◌≡◌, ap, refl, subst, sym}
use Prim.Native.Nat.{◌%◌, ◌*◌, ◌+◌, ◌/◌, ◌<◌, ◌^◌, ◌≤◌, suc, zero, ℕ}
use native.Mathlib.Decide.{ℕ_discrete}
use native.Mathlib.Nat.{add-mul, div-div-eq-div-mul, div-eq_of_lt, div-eq_of_lt-le, mod-lt, mul-add-div_right}
use native.Mathlib.Nat.{mul-suc, pow-suc, zero-add}
use native.Mathlib.Omega.{arith}
use lib.ListN.{length, length-append}
use lib.Pow.{pow_pos}
use Rattle.layout.proofs.Allocating.{mod-digit}
use Rattle.layout.proofs.Carries.{carries-at, carries-none, carries-not-at}
use Rattle.layout.specs.Carries.{carries}
use Rattle.layout.specs.Layout.{Layout, digit}
use Rattle.layout.specs.Removing.{Merge, copies_of}
use Rattle.section.proofs.Multiples.{below_or_not}
use Rattle.layout.specs.Merges.{MergedAll, rest, step}
use Rattle.layout.specs.Covering.{count_of}

-- ---- counts by places

-- the place values of the carries from height h up, for counts c and r carried into h, over m heights
unfoldable bound : ℕ → ℕ → ℕ → (ℕ → ℕ) → ℕ
bound zero h r c = 0
bound (suc m) h r c = 2 ^ h * ((c h + r) / 2) + bound m (suc h) ((c h + r) / 2) c

bound_cong : (m h r : ℕ) (c d : ℕ → ℕ) → ((j : ℕ) → h ≤ j → c j ≡ d j) → bound m h r c ≡ bound m h r d
unfolding bound
bound_cong zero h r c d e = refl
bound_cong (suc m) h r c d e =
    ap (λ z. 2 ^ h * ((z + r) / 2) + bound m (suc h) ((z + r) / 2) c) (e h (omega arith))
    ∙ ap (λ z. 2 ^ h * ((d h + r) / 2) + z) (bound_cong m (suc h) ((d h + r) / 2) c d (λ j p. e j (omega arith)))

-- what is carried in counts like what is there
bound_carry : (m h q : ℕ) (c d : ℕ → ℕ) → d h ≡ suc (c h) → ((j : ℕ) → h < j → c j ≡ d j)
    → bound m h (suc q) c ≡ bound m h q d
unfolding bound
bound_carry zero h q c d e f = refl
bound_carry (suc m) h q c d e f =
    let s : c h + suc q ≡ d h + q = omega arith in
    ap (λ z. 2 ^ h * (z / 2) + bound m (suc h) (z / 2) c) s
    ∙ ap (λ z. 2 ^ h * ((d h + q) / 2) + z) (bound_cong m (suc h) ((d h + q) / 2) c d f)

-- a merge at j, wherever that is: the bound falls by the place value
bound-merge : (m h r j : ℕ) (c d : ℕ → ℕ) → h ≤ j → j < h + m → c j ≡ 2 + d j → d (suc j) ≡ suc (c (suc j))
    → ((i : ℕ) → (i ≡ j → ⊥) → (i ≡ suc j → ⊥) → c i ≡ d i)
    → bound m h r c ≡ 2 ^ j + bound m h r d
unfolding bound
bound-merge zero h r j c d p q e f g = absurd (omega arith)
bound-merge (suc m) h r j c d p q e f g =
    go (ℕ_discrete j h) (λ r' x. bound-merge m (suc h) r' j c d x (omega arith) e f g)
  where
    go : Dec (j ≡ h) → ((r' : ℕ) → suc h ≤ j → bound m (suc h) r' c ≡ 2 ^ j + bound m (suc h) r' d)
        → 2 ^ h * ((c h + r) / 2) + bound m (suc h) ((c h + r) / 2) c
        ≡ 2 ^ j + (2 ^ h * ((d h + r) / 2) + bound m (suc h) ((d h + r) / 2) d)
    go (yes z) ih =
        let ch : c h ≡ c j = ap c (sym z) in
        let dh : d h ≡ d j = ap d (sym z) in
        let s : (c h + r) / 2 ≡ suc ((d h + r) / 2) = omega arith in
        let f' : d (suc h) ≡ suc (c (suc h)) = subst (λ y. d (suc y) ≡ suc (c (suc y))) z f in
        let t : bound m (suc h) (suc ((d h + r) / 2)) c ≡ bound m (suc h) ((d h + r) / 2) d =
        bound_carry m (suc h) ((d h + r) / 2) c d f' (λ i y. g i (λ w. omega arith) (λ w. omega arith)) in
        ap (λ y. 2 ^ h * y + bound m (suc h) y c) s
        ∙ omega (arith, t, mul-suc (2 ^ h) ((d h + r) / 2), ap (λ y. 2 ^ y) z)
    go (no z) ih =
        let ch : c h ≡ d h = g h (λ w. z (sym w)) (λ w. omega arith) in
        ap (λ y. 2 ^ h * ((y + r) / 2) + bound m (suc h) ((y + r) / 2) c) ch
        ∙ omega (arith, ih ((d h + r) / 2) (omega arith))

-- ---- carries

module _ (f n : ℕ) where
  -- what is carried into place h
  into : ℕ → ℕ
  into h = (f % 2 ^ h + n % 2 ^ h) / 2 ^ h

  -- the ones of f and of n at place h
  unfoldable digit_sum : ℕ → ℕ
  digit_sum h = digit h f + digit h n

  into_suc : (h : ℕ) → (digit_sum h + into h) / 2 ≡ into (suc h)
  unfolding into digit_sum
  into_suc h =
      sym (ap (λ z. z / 2 ^ suc h) sum ∙ (ap (λ z. (digit_sum h * 2 ^ h + (f % 2 ^ h + n % 2 ^ h)) / z) (pow-suc 2 h)
      ∙ (sym (div-div-eq-div-mul (digit_sum h * 2 ^ h + (f % 2 ^ h + n % 2 ^ h)) (2 ^ h) 2)
      ∙ ap (λ z. z / 2) (mul-add-div_right (pow_pos h) (digit_sum h) (f % 2 ^ h + n % 2 ^ h)))))
    where
      sum : f % 2 ^ suc h + n % 2 ^ suc h ≡ digit_sum h * 2 ^ h + (f % 2 ^ h + n % 2 ^ h)
      sum = omega (arith, mod-digit f h, mod-digit n h, add-mul (f / 2 ^ h % 2) (n / 2 ^ h % 2) (2 ^ h))

  carries-suc : (h : ℕ) → carries (suc h) f n ≡ carries h f n + 2 ^ h * into (suc h)
  unfolding into
  carries-suc h = go (below_or_not (f % 2 ^ suc h + n % 2 ^ suc h) (2 ^ suc h))
    where
      small : f % 2 ^ suc h + n % 2 ^ suc h < 2 ^ suc h + 2 ^ suc h
      small = omega (arith, mod-lt f (pow_pos (suc h)), mod-lt n (pow_pos (suc h)))

      go : (f % 2 ^ suc h + n % 2 ^ suc h < 2 ^ suc h) ⊎ (2 ^ suc h ≤ f % 2 ^ suc h + n % 2 ^ suc h)
          → carries (suc h) f n ≡ carries h f n + 2 ^ h * ((f % 2 ^ suc h + n % 2 ^ suc h) / 2 ^ suc h)
      go (inr p) =
          let q : (f % 2 ^ suc h + n % 2 ^ suc h) / 2 ^ suc h ≡ 1 =
          div-eq_of_lt-le (2 ^ suc h) (omega (arith, p)) (omega (arith, small)) in
          omega (arith, ap (λ z. 2 ^ h * z) q, carries-at h f n p)
      go (inl p) =
          let q : (f % 2 ^ suc h + n % 2 ^ suc h) / 2 ^ suc h ≡ 0 = div-eq_of_lt p in
          omega (arith, ap (λ z. 2 ^ h * z) q, carries-not-at h f n p)

  bound_is : (m h : ℕ) → carries (h + m) f n ≡ carries h f n + bound m h (into h) digit_sum
  unfolding bound
  bound_is zero h = let e : h + 0 ≡ h = omega arith in omega (arith, ap (λ z. carries z f n) e)
  bound_is (suc m) h =
      let e : h + suc m ≡ suc h + m = omega arith in
      ap (λ z. carries z f n) e ∙ (bound_is m (suc h)
      ∙ omega (arith, carries-suc h, ap (λ z. 2 ^ h * z + bound m (suc h) z digit_sum) (into_suc h)))

  bound_is_carries : (K : ℕ) → bound K 0 0 digit_sum ≡ carries K f n
  unfolding into
  bound_is_carries K =
      omega (
        arith,
        bound_is K 0,
        carries-none f n,
        ap (λ z. carries z f n) (zero-add K),
        ap (λ z. bound K 0 z digit_sum) none,
      )
    where
      none : into 0 ≡ 0
      none = omega arith

-- ---- copies

merged_bound : {c K : ℕ} {w : Layout} {ms : List Merge} → MergedAll c K w ms
    → length (copies_of ms) ≤ bound K 0 0 (λ j. count_of j w.free)
unfolding copies_of
merged_bound (rest wh t) = omega arith
merged_bound {K = K} (step {w = w} {m = m} {ms = ms} h lt wh low st s) =
    omega (
      arith,
      length-append m.copies (copies_of ms),
      st.few,
      merged_bound s,
      bound-merge K 0 0 h (λ j. count_of j w.free) (λ j. count_of j m.after.free) (omega arith) (omega arith)
          st.less st.plus (λ j x y. sym (st.same j x y)),
    )

-- where the free pieces of each height are the ones of f and of n there, what is copied is within the carries of f + n
pub copies_within_carries : {c K : ℕ} {w : Layout} {ms : List Merge} (f n : ℕ) → MergedAll c K w ms
    → ((j : ℕ) → count_of j w.free ≡ digit j f + digit j n) → length (copies_of ms) ≤ carries K f n
unfolding digit_sum
copies_within_carries {K = K} {w = w} f n s counts =
    omega (
      arith,
      merged_bound s,
      bound_cong K 0 0 (λ j. count_of j w.free) (digit_sum f n) (λ j p. counts j),
      bound_is_carries f n K,
    )

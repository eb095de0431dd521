-- Pieces of which fewer than the base have one length: their counts are the digits of the sum, in any base, and no
-- pieces of that sum are fewer. Assumes nothing.
use mathlib.Core.List.{List}
use mathlib.Core.Path.{◌∙◌, ◌≡◌, ap, ap₂, refl, sym}
use Prim.Native.Nat.{◌%◌, ◌*◌, ◌+◌, ◌/◌, ◌<◌, ◌^◌, ◌≤◌, max, suc, zero, ℕ}
use native.Mathlib.Nat.{add-mul-div_left, add-mul-mod_self_left, div-div-eq-div-mul, div-eq_of_lt, div-one}
use native.Mathlib.Nat.{le-mul_of_pos_right, mod-eq_of_lt, mul-add, mul_comm, mul-le-mul_left, mul-suc, mul-zero}
use native.Mathlib.Nat.{pow-succ', pow-zero, zero-add}
use native.Mathlib.Omega.{arith}
use lib.Dec.{eqb, eqb-suc-suc, eqb-suc-zero, eqb-zero-suc}
use lib.ListN.{length}
use borrow.Author.Tests.{eq-eqb}
use Rattle.layout.proofs.Lists.{each_all, each_imp, length-sum, sum_cong, sum_ge}
use Rattle.layout.specs.Layout.{of_height}
use Rattle.layout.specs.Lists.{Each, done, indicator, more, sum_of}
use Rattle.section.specs.declared.Section.{Section}

module _ (β : ℕ) where
  -- the number with k digits c 0, c 1, .., lowest first
  pub val : (ℕ → ℕ) → ℕ → ℕ
  val c zero = 0
  val c (suc k) = c 0 + β * val (λ h. c (suc h)) k

  pub val_add : (c d : ℕ → ℕ) (k : ℕ) → val (λ h. c h + d h) k ≡ val c k + val d k
  unfolding val
  val_add c d zero = refl
  val_add c d (suc k) = omega (
    arith,
    ap (λ z. β * z) (val_add (λ h. c (suc h)) (λ h. d (suc h)) k),
    mul-add β (val (λ h. c (suc h)) k) (val (λ h. d (suc h)) k),
  )

  pub val_zero : (k : ℕ) → val (λ _. 0) k ≡ 0
  unfolding val
  val_zero zero = refl
  val_zero (suc k) = omega (arith, ap (λ z. β * z) (val_zero k), mul-zero β)

  pub val_cong : (c d : ℕ → ℕ) (k : ℕ) → ((h : ℕ) → c h ≡ d h) → val c k ≡ val d k
  unfolding val
  val_cong c d zero e = refl
  val_cong c d (suc k) e =
      ap₂ (λ y z. y + β * z) (e 0) (val_cong (λ h. c (suc h)) (λ h. d (suc h)) k (λ h. e (suc h)))

  -- the one val_digit 1 at m
  pub val_one : (m k : ℕ) → m < k → val (λ h. indicator (eqb m h)) k ≡ β ^ m
  unfolding val
  val_one m zero p = absurd (omega arith)
  val_one zero (suc k) p = omega (
    arith,
    ap (λ z. β * z)
        (val_cong (λ h. indicator (eqb 0 (suc h))) (λ _. 0) k (λ h. ap indicator (eqb-zero-suc h)) ∙ val_zero k),
    mul-zero β,
    pow-zero β,
    ap indicator (eq-eqb 0 0 refl),
  )
  val_one (suc m) (suc k) p = omega (
    arith,
    ap (λ z. β * z)
        (val_cong (λ h. indicator (eqb (suc m) (suc h))) (λ h. indicator (eqb m h)) k
        (λ h. ap indicator (eqb-suc-suc m h))
        ∙ val_one m k (omega arith)),
    pow-succ' β m,
    ap indicator (eqb-suc-zero m),
  )

  pub val_digit : 0 < β → (c : ℕ → ℕ) (k h : ℕ) → ((j : ℕ) → c j < β) → h < k → val c k / β ^ h % β ≡ c h
  unfolding val
  val_digit pos c zero h small p = absurd (omega arith)
  val_digit pos c (suc k) zero small p =
      ap (λ z. (c 0 + β * val (λ h. c (suc h)) k) / z % β) (pow-zero β)
      ∙ (ap (λ z. z % β) (div-one (c 0 + β * val (λ h. c (suc h)) k))
      ∙ (add-mul-mod_self_left (c 0) β (val (λ h. c (suc h)) k) ∙ mod-eq_of_lt (small 0)))
  val_digit pos c (suc k) (suc h) small p =
      ap (λ z. (c 0 + β * val (λ h. c (suc h)) k) / z % β) (pow-succ' β h)
      ∙ (ap (λ z. z % β) (sym (div-div-eq-div-mul (c 0 + β * val (λ h. c (suc h)) k) β (β ^ h)))
      ∙ (ap (λ z. z / β ^ h % β)
      (add-mul-div_left (c 0) (val (λ h. c (suc h)) k) pos
      ∙ (ap (λ z. z + val (λ h. c (suc h)) k) (div-eq_of_lt (small 0)) ∙ zero-add (val (λ h. c (suc h)) k)))
      ∙ val_digit pos (λ h. c (suc h)) k h (λ j. small (suc j)) (omega arith)))

  pub val_lt : 0 < β → (c : ℕ → ℕ) (k : ℕ) → ((j : ℕ) → c j < β) → val c k < β ^ k
  unfolding val
  val_lt pos c zero small = omega (arith, pow-zero β)
  val_lt pos c (suc k) small =
      let ih : suc (val (λ h. c (suc h)) k) ≤ β ^ k = val_lt pos (λ h. c (suc h)) k (λ j. small (suc j)) in
      omega (arith, small 0, mul-le-mul_left β ih, pow-succ' β k, mul-suc β (val (λ h. c (suc h)) k))

  -- the sum of the lengths, by counts
  pub val_size : (k : ℕ) {l : List Section} → Each (λ (s : Section). s.height.value < k) l
      → sum_of (λ (s : Section). β ^ s.height.value) l ≡ val (λ h. sum_of (of_height h) l) k
  unfolding of_height
  val_size k done = sym (val_zero k)
  val_size k (more {a = a} {l = l} p e) = omega (
    arith,
    val_add (λ h. of_height h a) (λ h. sum_of (of_height h) l) k,
    val_one a.height.value k p,
    val_size k e,
  )

  -- fewer than β of each height: the counts are the digits of the sum
  pub counts_are_digits : 0 < β → (k : ℕ) {l : List Section} → Each (λ (s : Section). s.height.value < k) l
      → ((h : ℕ) → sum_of (of_height h) l < β)
      → (h : ℕ) → sum_of (of_height h) l ≡ sum_of (λ (s : Section). β ^ s.height.value) l / β ^ h % β
  counts_are_digits pos k {l} e small h =
      sym (ap (λ z. z / β ^ h % β) (val_size (max k (suc h)) (each_imp (λ s p. omega arith) e))
      ∙ val_digit pos (λ j. sum_of (of_height j) l) (max k (suc h)) h small (omega arith))

-- ---- the fewest

-- digits below β add up to the least of all that have one value; q is what is carried in, and what the lowest place
-- has beyond its digit is carried on, β for one
val_fewest : (β k q : ℕ) (c d : ℕ → ℕ) → ((j : ℕ) → c j < β) → val β c k ≡ q + val β d k → val 1 c k ≤ q + val 1 d k
unfolding val
val_fewest β zero q c d small e = omega arith
val_fewest β (suc k) q c d small e =
    let pos : 0 < β = omega (arith, small 0) in
    let high : ℕ = val β (λ h. c (suc h)) k in
    let rest : ℕ = val β (λ h. d (suc h)) k in
    let carry : ℕ = (q + d 0) / β in
    let same : c 0 + β * high ≡ (q + d 0) + β * rest = omega (arith, e) in
    let carried : high ≡ carry + rest = omega (
      arith,
      ap (λ z. z / β) same,
      add-mul-div_left (c 0) high pos,
      add-mul-div_left (q + d 0) rest pos,
      div-eq_of_lt (small 0),
    ) in
    omega (
      arith,
      same,
      ap (λ z. β * z) carried,
      mul-add β carry rest,
      le-mul_of_pos_right carry pos,
      mul_comm carry β,
      val_fewest β k carry (λ h. c (suc h)) (λ h. d (suc h)) (λ j. small (suc j)) carried,
    )

one_power : (h : ℕ) → 1 ^ h ≡ 1
one_power zero = pow-zero 1
one_power (suc h) = omega (arith, pow-succ' 1 h, one_power h)

-- pieces are as many as their counts add up to
length_counts : (k : ℕ) {l : List Section} → Each (λ (s : Section). s.height.value < k) l
    → length l ≡ val 1 (λ h. sum_of (of_height h) l) k
length_counts k {l} e =
    length-sum l
    ∙ (sym (sum_cong (λ (s : Section). 1 ^ s.height.value) (λ _. 1) (each_all l (λ s. one_power s.height.value)))
    ∙ val_size 1 k e)

-- no height is above the sum of all
pub heights_below : (k : ℕ) (l : List Section) → sum_of (λ (s : Section). s.height.value) l < k
    → Each (λ (s : Section). s.height.value < k) l
heights_below k l p = each_imp (λ s q. omega arith) (sum_ge (λ (s : Section). s.height.value) l)

-- fewer than β of each height: no others, of as many blocks in all, are fewer
pub counts_fewest : (β : ℕ) (l m : List Section) → ((h : ℕ) → sum_of (of_height h) l < β)
    → sum_of (λ (s : Section). β ^ s.height.value) l ≡ sum_of (λ (s : Section). β ^ s.height.value) m
    → length l ≤ length m
counts_fewest β l m small e =
    let k : ℕ = suc (sum_of (λ (s : Section). s.height.value) l + sum_of (λ (s : Section). s.height.value) m) in
    let below-l = heights_below k l (omega arith) in
    let below-m = heights_below k m (omega arith) in
    let same = sym (val_size β k below-l) ∙ (e ∙ val_size β k below-m) in
    omega (
      arith,
      length_counts k below-l,
      length_counts k below-m,
      val_fewest β k 0 (λ h. sum_of (of_height h) l) (λ h. sum_of (of_height h) m) small (omega (arith, same)),
    )

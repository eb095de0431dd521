-- What each test on a table says. Assumes nothing.
use Rattle.section.specs.Limits.{height_count, greatest_disk}
use mathlib.Core.Bool.{Bool, ◌&&◌, false, true}
use mathlib.Core.List.{List, [], ◌∷◌, map}
use mathlib.Core.Logic.{◌⊎◌, inl, inr}
use mathlib.Core.Path.{◌∙◌, ◌≡◌, ap, ap₂, refl, subst, sym}
use Prim.Native.Nat.{◌+◌, ◌-◌, ◌<◌, ◌≤◌, ℕ}
use native.Mathlib.Decide.{ℕ_discrete}
use native.Mathlib.Omega.{arith}
use lib.Dec.{eqb, leb, ltb}
use lib.ListN.{get_or, length}
use borrow.Author.Count.{below_more}
use borrow.Author.Tests.{le-leb, le-ltb, leb-true, lt-leb, lt-ltb, ltb-true}
use Rattle.catalogue.specs.Reading.{every, pairwise, sound_file, sound_piece}
use Rattle.soundness.proofs.Joined.{blank_entry}
use Rattle.soundness.proofs.Points.{every_at, pair_fails, pairwise_points}
use Rattle.soundness.specs.Checking.{ids_rise, sums_agree}
use Rattle.layout.specs.Layout.{File}
use Rattle.section.proofs.Booleans.{and_true}
use Rattle.section.specs.Heights.{NoHigher}
use Rattle.section.specs.Sections.{end_of, is_aligned, is_on_disk}
use Rattle.section.specs.declared.Section.{Section}
use Rattle.table.specs.Tables.{file_of}
use Rattle.table.specs.declared.Entry.{Entry}

-- ---- sums

module _ (c pages free : ℕ) where
  pub no_disk_lem : c < 1 → sums_agree c pages free ≡ false
  unfolding sums_agree
  no_disk_lem h = simp (lt-leb 1 c h)

  pub large-disk : greatest_disk < c → sums_agree c pages free ≡ false
  unfolding sums_agree
  large-disk h = simp (le-leb 1 c (omega arith), lt-leb c greatest_disk h)

  pub many_pages : 1 ≤ c → c ≤ greatest_disk → c < pages → sums_agree c pages free ≡ false
  unfolding sums_agree
  many_pages p q h = simp (le-leb 1 c p, le-leb c greatest_disk q, lt-leb pages c h)

  pub sums_left : 1 ≤ c → c ≤ greatest_disk → pages ≤ c → sums_agree c pages free ≡ eqb free (c - pages)
  unfolding sums_agree
  sums_left p q h = simp (le-leb 1 c p, le-leb c greatest_disk q, le-leb pages c h)

-- ---- ids

every_map {ℓ κ} : {A : Type ℓ} {B : Type κ} (p : B → Bool) (f : A → B) (l : List A)
    → every p (map f l) ≡ every (λ a. p (f a)) l
unfolding every
every_map p f [] = refl
every_map p f (a ∷ l) = ap (λ t. p (f a) && t) (every_map p f l)

pairwise-over {ℓ κ} : {A : Type ℓ} {B : Type κ} (r : B → B → Bool) (f : A → B) (l : List A)
    → pairwise r (map f l) ≡ pairwise (λ a b. r (f a) (f b)) l
unfolding pairwise
pairwise-over r f [] = refl
pairwise-over r f (a ∷ l) = ap₂ (λ x y. x && y) (every_map (r (f a)) f l) (pairwise-over r f l)

abbrev id_before : Entry → Entry → Bool
id_before a b = ltb a.id b.id

-- ids rise over the places before i
abbrev Climbs : List Entry → ℕ → Type 0
Climbs l i = (a b : ℕ) → a < b → b < i → (get_or l a blank_entry).id < (get_or l b blank_entry).id

climbs_more : (l : List Entry) (i : ℕ) → 1 ≤ i → Climbs l i
    → (get_or l (i - 1) blank_entry).id < (get_or l i blank_entry).id
    → Climbs l (i + 1)
climbs_more l i h f e a b p q =
    below_more (λ b. a < b → (get_or l a blank_entry).id < (get_or l b blank_entry).id) i (λ b q p. f a b p q)
    (λ p. last p) b q p
  where
    last : a < i → (get_or l a blank_entry).id < (get_or l i blank_entry).id
    last p =
        elim (ℕ_discrete a (i - 1)) [
          | yes z ↦ subst (λ k. (get_or l k blank_entry).id < (get_or l i blank_entry).id) (sym z) e
          | no n ↦ omega (arith, f a (i - 1) (omega (arith, n)) (omega arith))
        ]

-- ids rise over the places before i, and `last` is the one before i, or 0 where there is none
abbrev pub Rising : List Entry → ℕ → ℕ → Type 0
Rising l i last =
    Climbs l i × (((i ≡ 0) × (last ≡ 0)) ⊎ ((1 ≤ i) × (last ≡ (get_or l (i - 1) blank_entry).id)))

pub rising_start : (l : List Entry) → Rising l 0 0
rising_start l = (λ a b p q. absurd (omega arith), inl (refl, refl))

module _ (l : List Entry) (i last : ℕ) (f : Climbs l i) where
  now_last : (get_or l i blank_entry).id ≡ (get_or l (i + 1 - 1) blank_entry).id
  now_last = let e : i ≡ i + 1 - 1 = omega arith in ap (λ k. (get_or l k blank_entry).id) e

  rising-next : ((i ≡ 0) × (last ≡ 0)) ⊎ ((1 ≤ i) × (last ≡ (get_or l (i - 1) blank_entry).id))
      → last < (get_or l i blank_entry).id
      → Rising l (i + 1) (get_or l i blank_entry).id
  rising-next (inl w) e = (λ a b p q. absurd (omega (arith, w.0)), inr (omega arith, now_last))
  rising-next (inr w) e =
      (climbs_more l i w.0 f (subst (λ n. n < (get_or l i blank_entry).id) w.1 e), inr (omega arith, now_last))

pub rising_more : (l : List Entry) (i last : ℕ) → Rising l i last → last < (get_or l i blank_entry).id
    → Rising l (i + 1) (get_or l i blank_entry).id
rising_more l i last r = rising-next l i last r.0 r.1

module _ (l : List Entry) where
  pub ids_hold : (i last : ℕ) → length l ≤ i → Rising l i last → ids_rise (map file_of l) ≡ true
  ids_hold i last q r =
      pairwise-over (λ (x y : File). ltb x.id y.id) file_of l
      ∙ pairwise_points id_before l blank_entry
      (λ a b p k. lt-ltb (get_or l a blank_entry).id (get_or l b blank_entry).id (r.0 a b p (omega arith)))

  pub ids_fail : (i last : ℕ) → i < length l → Rising l i last → 1 ≤ (get_or l i blank_entry).id
      → (get_or l i blank_entry).id ≤ last
      → ids_rise (map file_of l) ≡ false
  ids_fail i last q r some e = go r.1
    where
      go : ((i ≡ 0) × (last ≡ 0)) ⊎ ((1 ≤ i) × (last ≡ (get_or l (i - 1) blank_entry).id))
          → ids_rise (map file_of l) ≡ false
      go (inl w) = absurd (omega (arith, w.1))
      go (inr w) =
          pairwise-over (λ (x y : File). ltb x.id y.id) file_of l
          ∙ pair_fails id_before l blank_entry (i - 1) i (omega (arith, w.0)) q
          (le-ltb (get_or l (i - 1) blank_entry).id (get_or l i blank_entry).id
          (subst (λ n. (get_or l i blank_entry).id ≤ n) w.1 e))

  -- no file of those that are sound has the id 0
  pub sound_id : every sound_file (map file_of l) ≡ true → (i : ℕ) → i < length l → 1 ≤ (get_or l i blank_entry).id
  sound_id e i q =
      let all = sym (every_map sound_file file_of l) ∙ e in
      let one = every_at (λ x. sound_file (file_of x)) l blank_entry all i q in
      leb-true 1 (get_or l i blank_entry).id (and_true (leb 1 (get_or l i blank_entry).id) _ one).0

-- ---- pieces of the disk

pub piece_aligned : (c : ℕ) (s : Section) → sound_piece height_count c s ≡ true → is_aligned s ≡ true
unfolding is_on_disk
piece_aligned c s e =
    (and_true (is_aligned s) (leb (end_of s) c) (and_true (is_on_disk c s) (ltb s.height.value height_count) e).0).0

pub piece_low : (c : ℕ) (s : Section) → sound_piece height_count c s ≡ true → NoHigher s.height
piece_low c s e =
    omega (
      arith,
      ltb-true s.height.value height_count (and_true (is_on_disk c s)
          (ltb s.height.value height_count) e).1,
    )

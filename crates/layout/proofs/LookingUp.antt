-- Looking up in files by rising id: the ids below the one sought stand first, and what is found among the ids read is
-- what is found among all. Assumes nothing.
use mathlib.Core.Bool.{Bool, false, true}
use mathlib.Core.List.{List, [], ◌∷◌}
use mathlib.Core.Path.{◌∙◌, ◌≡◌, ap, refl, subst, sym}
use Prim.Native.Nat.{◌+◌, ◌<◌, ◌≤◌, suc, ℕ}
use native.Mathlib.Omega.{arith}
use lib.Dec.{eqb, ltb}
use lib.ListN.{length, take}
use borrow.Author.Tests.{eqb-false, eqb-true, le-ltb, lt-ltb, ltb-false, ltb-true}
use Rattle.layout.proofs.Finding.{find_here, find_nil, find_past}
use Rattle.layout.proofs.Lists.{each_and, each_imp}
use Rattle.layout.specs.Layout.{File, Layout, find_file, found, missing}
use Rattle.layout.specs.Lists.{Each, done, indicator, more, next, none}
use Rattle.layout.specs.Sound.{Sound}
use Rattle.layout.specs.LookingUp.{ByRisingId, FirstBelow, ids_below, ids_read, look_up}

-- the files of a sound layout stand by rising id
pub sound_rises : {k : ℕ} {l : Layout} → Sound k l → ByRisingId l.files
sound_rises s = s.ids_rise

-- among files by rising id each is found by its own
pub rising_found : {l : List File} → ByRisingId l → Each (λ (f : File). find_file f.id l ≡ found f) l
rising_found none = done
rising_found (next {a = f} {l = l} p q) = more (find_here f.id f l refl)
    (each_imp (λ g h. find_past g.id f l (λ e. omega (arith, h.0)) ∙ h.1) (each_and p (rising_found q)))

-- the ids read are those below, and one more exactly if there are others
pub read_below : (i : ℕ) (l : List File) → ids_read i l ≡ ids_below i l + indicator (ltb (ids_below i l) (length l))
unfolding ids_read
read_below i l = refl

-- among no files no id is below the one sought
pub below_nil : (i : ℕ) → ids_below i [] ≡ 0
unfolding ids_below
below_nil i = refl

-- an id below it is one more below
pub below_more : (i : ℕ) (f : File) (l : List File) → f.id < i → ids_below i (f ∷ l) ≡ suc (ids_below i l)
unfolding ids_below
below_more i f l low = omega (arith, ap indicator (lt-ltb f.id i low))

less_suc : (m n : ℕ) → ltb (suc m) (suc n) ≡ ltb m n
less_suc m n = go (ltb m n) refl
  where
    go : (t : Bool) → ltb m n ≡ t → ltb (suc m) (suc n) ≡ t
    go true e = lt-ltb (suc m) (suc n) (omega (arith, ltb-true m n e))
    go false e = le-ltb (suc m) (suc n) (omega (arith, ltb-false m n e))

-- and one more that is read
pub read_more : (i : ℕ) (f : File) (l : List File) → f.id < i → ids_read i (f ∷ l) ≡ suc (ids_read i l)
unfolding ids_read
read_more i f l low =
    let b = below_more i f l low in
    omega (
      arith,
      b,
      ap (λ n. indicator (ltb n (suc (length l)))) b ∙ ap indicator (less_suc (ids_below i l) (length l)),
    )

-- every id is above the one sought: none is below it, and none is the one sought
module _ (i : ℕ) where
  pub above_none_below : {l : List File} → Each (λ (f : File). i < f.id) l → ids_below i l ≡ 0
  unfolding ids_below
  above_none_below done = refl
  above_none_below (more {a = f} {l = l} h e) =
      omega (arith, ap indicator (le-ltb f.id i (omega arith)), above_none_below e)

  pub above_none_found : {l : List File} → Each (λ (f : File). i < f.id) l → find_file i l ≡ missing
  above_none_found done = find_nil i
  above_none_found (more {a = f} {l = l} h e) = find_past i f l (omega arith) ∙ above_none_found e

-- the first id is not below the one sought: no other is, and it is the only one read
module _ (i : ℕ) (f : File) (l : List File) (high : i ≤ f.id) (rise : Each (λ (g : File). f.id < g.id) l) where
  above : Each (λ (g : File). i < g.id) l
  above = each_imp (λ g h. omega arith) rise

  pub below_none : ids_below i (f ∷ l) ≡ 0
  unfolding ids_below
  below_none = omega (arith, ap indicator (le-ltb f.id i high), above_none_below i above)

  pub read_one : ids_read i (f ∷ l) ≡ 1
  unfolding ids_read
  read_one =
      omega (
        arith,
        below_none,
        ap (λ n. indicator (ltb n (suc (length l)))) below_none
            ∙ ap indicator (lt-ltb 0 (suc (length l)) (omega arith)),
      )

  pub first_decides : find_file i (f ∷ []) ≡ find_file i (f ∷ l)
  first_decides = go (eqb f.id i) refl
    where
      go : (t : Bool) → eqb f.id i ≡ t → find_file i (f ∷ []) ≡ find_file i (f ∷ l)
      go true e = let same = eqb-true f.id i e in find_here i f [] same ∙ sym (find_here i f l same)
      go false e =
          let other = eqb-false f.id i e in
          find_past i f [] other ∙ (find_nil i ∙ sym (find_past i f l other ∙ above_none_found i above))

-- what is found among the ids read is what is found among all
pub read_finds : (i : ℕ) {l : List File} → ByRisingId l → find_file i (take (ids_read i l) l) ≡ find_file i l
unfolding ids_read ids_below
read_finds i none = refl
read_finds i (next {a = f} {l = l} p q) = go (ltb f.id i) refl (read_finds i q)
  where
    go : (t : Bool) → ltb f.id i ≡ t → find_file i (take (ids_read i l) l) ≡ find_file i l
        → find_file i (take (ids_read i (f ∷ l)) (f ∷ l)) ≡ find_file i (f ∷ l)
    go true e same =
        let low = ltb-true f.id i e in
        ap (λ n. find_file i (take n (f ∷ l))) (read_more i f l low)
        ∙ (find_past i f (take (ids_read i l) l) (omega arith) ∙ (same ∙ sym (find_past i f l (omega arith))))
    go false e same =
        let high = ltb-false f.id i e in
        ap (λ n. find_file i (take n (f ∷ l))) (read_one i f l high p) ∙ first_decides i f l high p

-- the look-up finds what is found among all
pub look_up_finds : (i : ℕ) {l : List File} → ByRisingId l → (look_up i l).file ≡ find_file i l
unfolding look_up
look_up_finds i rise = read_finds i rise

-- and reads so many
pub look_up_reads : (i : ℕ) (l : List File) → (look_up i l).ids_read ≡ ids_read i l
unfolding look_up
look_up_reads i l = refl

-- the ids below the one sought stand first: the one read after them is the one sought or the first larger one
pub below_first : (i : ℕ) {l : List File} → ByRisingId l → FirstBelow i (ids_below i l) l
unfolding ids_below
below_first i none = record { first = done; others = done }
below_first i (next {a = f} {l = l} p q) = go (ltb f.id i) refl (below_first i q)
  where
    go : (t : Bool) → ltb f.id i ≡ t → FirstBelow i (ids_below i l) l
        → FirstBelow i (ids_below i (f ∷ l)) (f ∷ l)
    go true e x =
        let low = ltb-true f.id i e in
        subst (λ n. FirstBelow i n (f ∷ l)) (sym (below_more i f l low))
        (record { first = more low x.first; others = x.others })
    go false e x =
        let high = ltb-false f.id i e in
        subst (λ n. FirstBelow i n (f ∷ l)) (sym (below_none i f l high p))
        (record { first = done; others = more high (each_imp (λ g h. omega arith) p) })

-- What the list of helping ids is: the id of each file that lets n blocks in, once, and no other, fewest copied blocks
-- first, equal counts by lower id; and only that list is so. Assumes nothing.
use mathlib.Core.Bool.{Bool, false, true}
use mathlib.Core.List.{List, Memᴰ, [], ◌∷◌, map}
use mathlib.Core.Logic.{◌⊎◌, inl, inr}
use mathlib.Core.Path.{◌∙◌, ◌≡◌, ap, refl, subst, sym}
use Prim.Native.Nat.{◌+◌, ◌<◌, ◌≤◌, ℕ}
use native.Mathlib.Omega.{arith}
use lib.Dec.{eqb, ltb}
use borrow.Author.Tests.{eqb-false, eqb-true, ltb-false, ltb-true, ne_eqb}
use Rattle.layout.proofs.HelpingOrder.{NotAfter, order_fails, order_holds, order_trans}
use Rattle.layout.proofs.Finding.{find_here, find_nil, find_past}
use Rattle.layout.proofs.Helping.{candidates_each, candidates_nil, candidates_no, candidates_yes, helping_times}
use Rattle.layout.proofs.Helping.{lets_in_lem}
use Rattle.layout.proofs.Lists.{each_imp, each_map, each_sort, pairwise_imp, pairwise_map, sort_sorted}
use Rattle.layout.proofs.LookingUp.{rising_found}
use Rattle.layout.proofs.Sorted.{pairwise_and, pairwise_each, pairwise_sort, sorted_same}
use Rattle.layout.specs.Helping.{Candidate, CopiesFirst, Helping, LetsIn, by_copies, candidate, candidates_of}
use Rattle.layout.specs.Helping.{copies_for, helping_ids, lets_in}
use Rattle.layout.specs.Layout.{File, Layout, file_blocks, find_file, found, free_blocks}
use Rattle.layout.specs.Lists.{Each, Pairwise, done, indicator, more, next, none, times_in}
use Rattle.layout.specs.LookingUp.{ByRisingId}

module _ (k n : ℕ) (l : Layout) where
  -- a candidate is a file that lets n in, with the copies of its removal
  abbrev Known : Candidate → Type 0
  Known a = LetsIn n l a.id × ((f : File) → find_file a.id l.files ≡ found f → a.copies ≡ copies_for k l f)

  known : ByRisingId l.files → Each Known (candidates_of k n l l.files)
  known rise = candidates_each k n l (each_imp known_file (rising_found rise))
    where
      known_file : (f : File) → find_file f.id l.files ≡ found f → n ≤ file_blocks f + free_blocks l
          → Known (candidate k l f)
      known_file f e h =
          ((f, e, h), λ g x. let same : f ≡ g = cc in ap (copies_for k l) same)

  -- no two have one id
  differ : {fs : List File} → ByRisingId fs
      → Pairwise (λ (a b : Candidate). a.id ≡ b.id → ⊥) (candidates_of k n l fs)
  differ none = rw (candidates_nil k n l) none
  differ (next {a = f} {l = fs} p q) = go (lets_in n l f) refl (differ q)
    where
      go : (t : Bool) → lets_in n l f ≡ t → Pairwise (λ (a b : Candidate). a.id ≡ b.id → ⊥) (candidates_of k n l fs)
          → Pairwise (λ (a b : Candidate). a.id ≡ b.id → ⊥) (candidates_of k n l (f ∷ fs))
      go true h r =
          rw (candidates_yes k n l f fs h)
          (next {a = candidate k l f} (candidates_each k n l (each_imp (λ g x _ e. omega (arith, x, e)) p)) r)
      go false h r = rw (candidates_no k n l f fs h) r

  -- sorted by copies and id: one before the other, with another id, is first in the copy order
  copies-first : (a b : Candidate) → (Known a × Known b) × (NotAfter a b × (a.id ≡ b.id → ⊥))
      → CopiesFirst k l a.id b.id
  copies-first a b ((p, q), (r, d)) f g x y = go (ltb a.copies b.copies) refl
    where
      go : (t : Bool) → ltb a.copies b.copies ≡ t
          → (copies_for k l f < copies_for k l g) ⊎ ((copies_for k l f ≡ copies_for k l g) × (a.id < b.id))
      go true e = inl (omega (arith, ltb-true a.copies b.copies e, p.1 f x, q.1 g y))
      go false e =
          let s : a.copies ≡ b.copies = omega (arith, ltb-false a.copies b.copies e, r.fewer) in
          let i : a.id ≤ b.id = r.equal s in
          inr (omega (arith, p.1 f x, q.1 g y), omega (arith, d))

  -- ---- how often an id is among the candidates

  abbrev ids_of : List File → List ℕ
  ids_of fs = map (λ (a : Candidate). a.id) (candidates_of k n l fs)

  -- a file of another id adds none
  times_past : (i : ℕ) (f : File) (fs : List File) → (f.id ≡ i → ⊥)
      → times_in i (ids_of (f ∷ fs)) ≡ times_in i (ids_of fs)
  times_past i f fs d = go (lets_in n l f) refl
    where
      go : (t : Bool) → lets_in n l f ≡ t → times_in i (ids_of (f ∷ fs)) ≡ times_in i (ids_of fs)
      go true h = rw (candidates_yes k n l f fs h) (omega (arith, ap indicator (ne_eqb f.id i d)))
      go false h = rw (candidates_no k n l f fs h)

  times_none : (i : ℕ) {fs : List File} → Each (λ (f : File). i < f.id) fs → times_in i (ids_of fs) ≡ 0
  times_none i done = rw (candidates_nil k n l)
  times_none i (more {a = f} {l = fs} h e) = times_past i f fs (λ s. omega (arith, h)) ∙ times_none i e

  -- the file found for an id adds one if it lets n in
  times_one : (i : ℕ) (f : File) {fs : List File} → ByRisingId fs → find_file i fs ≡ found f
      → n ≤ file_blocks f + free_blocks l → times_in i (ids_of fs) ≡ 1
  times_one i f none e h = absurd (let x = find_nil i in let z : ◌≡◌ {A = ℕ} 0 1 = cc in omega arith)
  times_one i f (next {a = g} {l = fs} p q) e h = go (eqb g.id i) refl (λ x. times_one i f q x h)
    where
      go : (t : Bool) → eqb g.id i ≡ t → (find_file i fs ≡ found f → times_in i (ids_of fs) ≡ 1)
          → times_in i (ids_of (g ∷ fs)) ≡ 1
      go true s r =
          let x = eqb-true g.id i s in
          let y = find_here i g fs x in
          let same : f ≡ g = cc in
          let h' = subst (λ (z : File). n ≤ file_blocks z + free_blocks l) same h in
          rw (candidates_yes k n l g fs (lets_in_lem n l g h'))
          (omega (arith, ap indicator s, times_none i (each_imp (λ z w. omega (arith, w, x)) p)))
      go false s r =
          let x = eqb-false g.id i s in
          times_past i g fs x ∙ r (sym (find_past i g fs x) ∙ e)

  -- ---- the list

  -- the list is what document 02 says
  pub helping_ids_lem : ByRisingId l.files → Helping k n l (helping_ids k n l)
  unfolding helping_ids
  helping_ids_lem rise =
      let c = candidates_of k n l l.files in
      let e = each_sort by_copies (known rise) in
      record {
        all = λ i x. helping_times k n l i ∙ times_one i x.0 rise x.1 x.2;
        only = each_map (λ (a : Candidate). a.id) (each_imp (λ a x. x.0) e);
        sorted = pairwise_map (λ (a : Candidate). a.id)
            (pairwise_imp copies-first
            (pairwise_and (pairwise_each e)
            (pairwise_and (sort_sorted by_copies NotAfter order_holds order_fails order_trans c)
            (pairwise_sort (λ a b d s. d (sym s)) by_copies (differ rise)))));
      }

-- ---- no other list is so

-- a number that stands in a list is a member
times_member : (i : ℕ) (l : List ℕ) → 1 ≤ times_in i l → Memᴰ i l
times_member i [] h = absurd (omega arith)
times_member i (x ∷ l) h = go (eqb x i) refl (λ r. times_member i l r)
  where
    go : (t : Bool) → eqb x i ≡ t → (1 ≤ times_in i l → Memᴰ i l) → Memᴰ i (x ∷ l)
    go true e r = Memᴰ.head (sym (eqb-true x i e))
    go false e r = Memᴰ.tail (r (omega (arith, ap indicator e)))

module _ (k n : ℕ) (l : Layout) where
  abbrev Before : ℕ → ℕ → Type 0
  Before i j = (LetsIn n l i × LetsIn n l j) × CopiesFirst k l i j

  before_strict : (i j : ℕ) → Before i j → Before j i → ⊥
  before_strict i j ((x, y), p) (_, q) = go (p x.0 y.0 x.1 y.1) (q y.0 x.0 y.1 x.1)
    where
      go : {a b : ℕ} → (a < b) ⊎ ((a ≡ b) × (i < j)) → (b < a) ⊎ ((b ≡ a) × (j < i)) → ⊥
      go (inl u) (inl v) = omega arith
      go (inl u) (inr v) = omega (arith, v.0)
      go (inr u) (inl v) = omega (arith, u.0)
      go (inr u) (inr v) = omega (arith, u.1, v.1)

  -- what is said of the list pins it
  pub helping_pinned : (ids : List ℕ) → ByRisingId l.files → Helping k n l ids → ids ≡ helping_ids k n l
  helping_pinned ids rise h =
      let x = helping_ids_lem k n l rise in
      sorted_same Before before_strict (order h) (order x) (members h x) (members x h)
    where
      order : {ids : List ℕ} → Helping k n l ids → Pairwise Before ids
      order y = pairwise_and (pairwise_each y.only) y.sorted

      members : {ids others : List ℕ} → Helping k n l ids → Helping k n l others → Each (λ i. Memᴰ i others) ids
      members {others} y z = each_imp (λ i w. times_member i others (omega (arith, z.all i w))) y.only

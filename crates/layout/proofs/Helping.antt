-- The files that let n blocks in and the list of their ids: which files are candidates, and that sorting keeps how
-- often an id is there and how many there are. Assumes nothing.
use mathlib.Core.Bool.{Bool, false, true}
use mathlib.Core.List.{List, [], ◌∷◌, map}
use mathlib.Core.Path.{◌∙◌, ◌≡◌, ap, refl, sym}
use Prim.Native.Nat.{◌+◌, ◌≤◌, suc, ℕ}
use native.Mathlib.Omega.{arith}
use lib.Dec.{eqb}
use lib.ListN.{length, length-map}
use borrow.Author.Tests.{leb-false, leb-true}
use Rattle.layout.proofs.Lists.{length_sort, sum-map, sum_sort}
use Rattle.layout.specs.Helping.{Candidate, by_copies, candidate, candidates_of, helping_ids, lets_in}
use Rattle.layout.specs.Layout.{File, Layout, file_blocks, free_blocks}
use Rattle.layout.specs.Lists.{Each, done, indicator, more, sort_by, times_in}

-- ---- the candidates

-- a file whose length plus f is at least n passes the test
pub lets_in_lem : (n : ℕ) (l : Layout) (f : File) → n ≤ file_blocks f + free_blocks l → lets_in n l f ≡ true
lets_in_lem n l f h = go (lets_in n l f) refl
  where
    go : (t : Bool) → lets_in n l f ≡ t → t ≡ true
    go true e = refl
    go false e = absurd (omega (arith, leb-false))

module _ (k n : ℕ) (l : Layout) where
  -- of no files there is none
  pub candidates_nil : candidates_of k n l [] ≡ []
  unfolding candidates_of
  candidates_nil = refl

  -- a file that passes the test is one, and another is passed over
  pub candidates_yes : (f : File) (fs : List File) → lets_in n l f ≡ true
      → candidates_of k n l (f ∷ fs) ≡ candidate k l f ∷ candidates_of k n l fs
  unfolding candidates_of
  candidates_yes f fs e = rw (e, candidates_of)

  pub candidates_no : (f : File) (fs : List File) → lets_in n l f ≡ false
      → candidates_of k n l (f ∷ fs) ≡ candidates_of k n l fs
  unfolding candidates_of
  candidates_no f fs e = rw (e, candidates_of)

  -- what each file that lets n in gives each candidate has
  pub candidates_each : {P : Candidate → Type 0} {fs : List File}
      → Each (λ (f : File). n ≤ file_blocks f + free_blocks l → P (candidate k l f)) fs → Each P (candidates_of k n l fs)
  candidates_each done = rw candidates_nil done
  candidates_each {P} (more {a = f} {l = fs} p e) = go (lets_in n l f) refl (candidates_each e)
    where
      go : (t : Bool) → lets_in n l f ≡ t → Each P (candidates_of k n l fs) → Each P (candidates_of k n l (f ∷ fs))
      go true h r = rw (candidates_yes f fs h) (more (p (omega (arith, leb-true))) r)
      go false h r = rw (candidates_no f fs h) r

-- ---- the list

-- the ids of the candidates, sorted
pub helping_sorted : (k n : ℕ) (l : Layout)
    → helping_ids k n l ≡ map (λ (a : Candidate). a.id) (sort_by by_copies (candidates_of k n l l.files))
unfolding helping_ids
helping_sorted k n l = refl

-- ---- how often an id is there, and how many there are

abbrev id_of : Candidate → ℕ
id_of a = a.id

abbrev is_one : ℕ → ℕ → ℕ
is_one i x = indicator (eqb x i)

-- an id is as often in the list as among the candidates
pub helping_times : (k n : ℕ) (l : Layout) (i : ℕ)
    → times_in i (helping_ids k n l) ≡ times_in i (map (λ (a : Candidate). a.id) (candidates_of k n l l.files))
helping_times k n l i =
    let c = candidates_of k n l l.files in
    ap (times_in i) (helping_sorted k n l)
    ∙ (sum-map (is_one i) id_of (sort_by by_copies c)
    ∙ (sum_sort (λ a. is_one i (id_of a)) by_copies c ∙ sym (sum-map (is_one i) id_of c)))

-- the list is as long as there are candidates
pub helping_count : (k n : ℕ) (l : Layout) → length (helping_ids k n l) ≡ length (candidates_of k n l l.files)
helping_count k n l =
    let c = candidates_of k n l l.files in
    ap length (helping_sorted k n l) ∙ (length-map (sort_by by_copies c) id_of ∙ length_sort by_copies c)

-- no more than there are files
pub helping_length : (k n : ℕ) (l : Layout) → length (helping_ids k n l) ≤ length l.files
helping_length k n l = omega (arith, helping_count k n l, few l.files)
  where
    step : (f : File) (fs : List File) (t : Bool) → lets_in n l f ≡ t
        → length (candidates_of k n l fs) ≤ length fs → length (candidates_of k n l (f ∷ fs)) ≤ suc (length fs)
    step f fs true h r = rw (candidates_yes k n l f fs h) (omega arith)
    step f fs false h r = rw (candidates_no k n l f fs h) (omega arith)

    few : (fs : List File) → length (candidates_of k n l fs) ≤ length fs
    few [] = rw (candidates_nil k n l) (omega arith)
    few (f ∷ fs) = step f fs (lets_in n l f) refl (few fs)

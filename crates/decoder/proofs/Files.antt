-- The pairs that make a file: what the code tests is what the definition reads and what soundness asks. Assumes
-- nothing.
use mathlib.Core.Bool.{Bool, ◌&&◌, false, not, true}
use mathlib.Core.List.{List}
use mathlib.Core.Path.{◌∙◌, ◌≡◌, ap, refl, sym}
use Prim.Native.Nat.{◌<◌, ◌^◌, ◌≤◌, ℕ}
use native.Mathlib.Nat.{le_of_lt, le_trans}
use native.Mathlib.Omega.{arith}
use lib.Count.{ones}
use lib.Dec.{eqb, leb, ltb}
use lib.ListN.{length}
use lib.Pow.{pow_mono}
use borrow.Author.Tests.{eq-eqb, eqb-false, eqb-true, le-leb, leb-false, leb-true, lt-ltb, ltb-true, ne_eqb}
use borrow.Author.Tests.{not-true}
use Rattle.catalogue.proofs.Tests.{and_intro, pairs-pairwise, pairwise-pairs}
use Rattle.catalogue.specs.Reading.{Read, bad, file_read, got, pairwise}
use Rattle.layout.specs.Covering.{AtMostOne}
use Rattle.soundness.proofs.Ordered.{distinct, order_both, order_distinct, order_rises, pairwise_and, rising}
use Rattle.soundness.proofs.Points.{false_true, is_false}
use Rattle.soundness.specs.Order.{in_order}
use Rattle.decoder.specs.Entries.{acceptable, accepted, is_file}
use Rattle.catalogue.specs.Encoding.{byte_values}
use Rattle.piece_lists.specs.Few.{piece_places}
use Rattle.layout.proofs.Lists.{length_sort, pairwise_imp, sort_sorted, sum_sort}
use Rattle.layout.proofs.Ones.{at_most_one_distinct, distinct_at_most_one}
use Rattle.layout.specs.Layout.{File, block_count, by_length, file_blocks, of_height}
use Rattle.layout.specs.Lists.{Pairwise, sort_by}
use Rattle.layout.specs.Sound.{greatest_id}
use Rattle.section.proofs.Booleans.{and_true}
use Rattle.section.specs.Sections.{length_of}
use Rattle.section.specs.declared.Section.{Section}

-- ---- page order

abbrev falling : List Section → Bool
falling l = pairwise (λ (s t : Section). ltb (length_of t) (length_of s)) l

abbrev Unlike : Section → Section → Type 0
Unlike s t = length_of s ≡ length_of t → ⊥

by_length-sorted : (l : List Section)
    → Pairwise (λ (s t : Section). t.height.value ≤ s.height.value) (sort_by by_length l)
by_length-sorted =
    sort_sorted by_length (λ s t. t.height.value ≤ s.height.value)
    (λ s t. leb-true t.height.value s.height.value)
    (λ s t e. le_of_lt (leb-false t.height.value s.height.value e)) (λ s t u p q. le_trans q p)

unlike_of : (l : List Section) → distinct l ≡ true → Pairwise Unlike l
unlike_of l e =
    pairwise_imp (λ s t q. eqb-false (length_of s) (length_of t) (not-true (eqb (length_of s) (length_of t)) q))
    (pairwise-pairs _ l e)

distinct_of : (l : List Section) → Pairwise Unlike l → distinct l ≡ true
distinct_of l p =
    pairs-pairwise _ (pairwise_imp (λ s t q. ap not (ne_eqb (length_of s) (length_of t) q)) p)

-- pairs of distinct lengths fall strictly in page order
distinct_falls : (l : List Section) → distinct l ≡ true → falling (sort_by by_length l) ≡ true
distinct_falls l e =
    pairs-pairwise _
    (pairwise_imp
    (λ s t w. lt-ltb (length_of t) (length_of s)
    (omega (arith, pow_mono {i = t.height.value} {j = s.height.value} w.0, w.1)))
    (pairwise_and (by_length-sorted l) (at_most_one_distinct (sort_by by_length l) thin)))
  where
    thin : AtMostOne (sort_by by_length l)
    thin h = omega (arith, distinct_at_most_one (unlike_of l e) h, sum_sort (of_height h) by_length l)

falls_distinct : (l : List Section) → falling (sort_by by_length l) ≡ true → distinct l ≡ true
falls_distinct l e = distinct_of l (at_most_one_distinct l thin)
  where
    unlike : Pairwise Unlike (sort_by by_length l)
    unlike =
        pairwise_imp (λ s t q z. omega (arith, ltb-true (length_of t) (length_of s) q, z))
        (pairwise-pairs _ (sort_by by_length l) e)

    thin : AtMostOne l
    thin h = omega (arith, distinct_at_most_one unlike h, sum_sort (of_height h) by_length l)

-- ---- a file

pub file_parts : (i n : ℕ) (l : List Section) → is_file i n l ≡ true → (block_count l ≡ n) × (in_order l ≡ true)
unfolding is_file
file_parts i n l e =
    let b = and_true (leb 1 i) _ e in
    let c = and_true (leb 1 n) _ b.1 in
    let d = and_true (eqb (block_count l) n) _ c.1 in
    (eqb-true (block_count l) n d.0, d.1)

module _ (i n : ℕ) (l : List Section) (r : List ℕ) where
  abbrev made : File
  made = record { id = i; pieces = sort_by by_length l }

  blocks-made : file_blocks made ≡ block_count l
  blocks-made = sum_sort length_of by_length l

  size_made : length (sort_by by_length l) ≡ length l
  size_made = length_sort by_length l

  acceptable-few : acceptable made ≡ true → length l ≤ piece_places
  unfolding acceptable
  acceptable-few e =
      let a = and_true (leb (length made.pieces) piece_places) _ e in
      omega (arith, size_made, leb-true (length made.pieces) piece_places a.0)

  acceptable_is : eqb (block_count l) n && rising l ≡ true → acceptable made ≡ true → is_file i n l ≡ true
  unfolding is_file acceptable
  acceptable_is t e =
      let s = and_true _ _ t in
      let a = and_true (leb (length made.pieces) piece_places) _ e in
      let b = and_true (leb 1 i) _ a.1 in
      let c = and_true (leb i greatest_id) _ b.1 in
      let d = and_true _ _ c.1 in
      let f = and_true (falling made.pieces) (eqb (length made.pieces) (ones (file_blocks made))) d.1 in
      let sum = eqb-true (block_count l) n s.0 in
      let some : 1 ≤ file_blocks made = leb-true 1 (file_blocks made) d.0 in
      and_intro b.0
      (and_intro (le-leb 1 n (omega (arith, blocks-made)))
      (and_intro s.0 (order_both l s.1 (falls_distinct l f.0))))

  -- no file is read where the one that the pairs make is not acceptable
  file_bad : (eqb (block_count l) n && rising l ≡ true → acceptable made ≡ true → ⊥)
      → accepted (file_read i n l r) ≡ bad
  unfolding file_read accepted
  file_bad x = go (eqb (block_count l) n && rising l) refl
    where
      go : (t : Bool) → eqb (block_count l) n && rising l ≡ t
          → accepted (elim t as (λ _. Read File) [ true ↦ got made r | false ↦ bad ]) ≡ bad
      go true q =
          ap (λ u. elim u as (λ _. Read File) [ true ↦ got made r | false ↦ bad ])
          (is_false (acceptable made) (x q))
      go false q = refl

  pub file_refused : is_file i n l ≡ false → accepted (file_read i n l r) ≡ bad
  file_refused e = file_bad (λ q u. false_true (sym e ∙ acceptable_is q u))

  pub file_many : piece_places < length l → accepted (file_read i n l r) ≡ bad
  file_many h = file_bad (λ q u. omega (arith, acceptable-few u))

  module _ (counted : length l ≡ ones n) (small : i < byte_values ^ 2) (few : length l ≤ piece_places) where
    is_acceptable : is_file i n l ≡ true → acceptable made ≡ true
    unfolding is_file acceptable
    is_acceptable e =
        let b = and_true (leb 1 i) _ e in
        let c = and_true _ _ b.1 in
        let d = and_true _ _ c.1 in
        let sum = eqb-true (block_count l) n d.0 in
        let all : file_blocks made ≡ n = blocks-made ∙ sum in
        let some : 1 ≤ n = leb-true 1 n c.0 in
        and_intro (le-leb (length made.pieces) piece_places (omega (arith, size_made)))
        (and_intro b.0
        (and_intro (le-leb i 65535 (omega arith))
        (and_intro (le-leb 1 (file_blocks made) (omega arith))
        (and_intro (distinct_falls l (order_distinct l d.1))
        (eq-eqb (length made.pieces) (ones (file_blocks made)) (size_made ∙ (counted ∙ sym (ap ones all))))))))

    pub file-read : is_file i n l ≡ true → accepted (file_read i n l r) ≡ got made r
    unfolding file_read accepted
    file-read e =
        let d = file_parts i n l e in
        ap (λ t. accepted (elim t as (λ _. Read File) [ true ↦ got made r | false ↦ bad ]))
        (and_intro (eq-eqb (block_count l) n d.0) (order_rises l d.1))
        ∙ ap (λ t. elim t as (λ _. Read File) [ true ↦ got made r | false ↦ bad ]) (is_acceptable e)

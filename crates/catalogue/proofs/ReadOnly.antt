-- What is read from bytes was encoded: the bytes are the encoding of the layout that is read. Assumes nothing.
use mathlib.Core.Bool.{Bool, ◌&&◌, cond, false, true}
use mathlib.Core.List.{List, [], ◌++◌, ◌∷◌}
use mathlib.Core.Path.{◌∙◌, ◌≡◌, ap, ap₂, refl, subst, sym}
use Prim.Native.Nat.{◌-◌, suc, zero, ℕ}
use native.Mathlib.Omega.{arith}
use lib.Count.{ones}
use lib.Dec.{eqb, ltb}
use lib.ListN.{length}
use borrow.Author.Tests.{eqb-true, ltb-true}
use Rattle.catalogue.proofs.Fields.{field_inv}
use Rattle.catalogue.proofs.Grouping.{entries-cons, entries_bytes_nil, entry_fields, pairs-cons, pairs_bytes_nil}
use Rattle.catalogue.proofs.Sorting.{firsts_back}
use Rattle.catalogue.proofs.Tests.{pairwise-pairs}
use Rattle.catalogue.specs.Encoding.{Bytes, big_endian, entries_bytes, entry_bytes, pairs_bytes}
use Rattle.catalogue.specs.Version.{short_field}
use Rattle.catalogue.specs.Reading.{Read, bad, file_read, got, pairwise, read_entries, read_entry, read_field}
use Rattle.catalogue.specs.Reading.{read_pair, read_pairs, section_read, then}
use Rattle.layout.proofs.Lists.{pairwise_imp, sum_sort}
use Rattle.layout.specs.Layout.{File, block_count, by_length}
use Rattle.layout.specs.Lists.{sort_by}
use Rattle.layout.specs.Moves.{same}
use Rattle.section.proofs.Lengths.{length-of-height}
use Rattle.section.specs.Heights.{height_of}
use Rattle.section.specs.Limits.{greatest_disk}
use Rattle.section.specs.Sections.{length_of}
use Rattle.section.specs.declared.Height.{Height}
use Rattle.section.specs.declared.Section.{Section}
use Rattle.std.specs.Prelude.{Option, Some, None}

pub got_value : {A : Type 0} (a b : A) (r s : List ℕ) → got a r ≡ got b s → a ≡ b
got_value a b r s e = cc

pub got_rest : {A : Type 0} (a b : A) (r s : List ℕ) → got a r ≡ got b s → r ≡ s
got_rest a b r s e = cc

pub then_inv : {A B : Type 0} (m : Read A) (k : A → List ℕ → Read B) (b : B) (r : List ℕ) → then m k ≡ got b r
    → (a : A) × (r' : List ℕ) × (m ≡ got a r') × (k a r' ≡ got b r)
then_inv (got a r') k b r e = (a, r', refl, e)
then_inv bad k b r e = absurd (let z : ◌≡◌ {A = ℕ} 0 1 = cc in omega arith)

section_inv : (x : ℕ) (m : Option Height) (r : List ℕ) (s : Section) (r' : List ℕ) → section_read x m r ≡ got s r'
    → (x ≡ s.first) × (m ≡ Some s.height) × (r ≡ r')
section_inv x (Some h) r s r' e = go (ltb x greatest_disk) e
  where
    go : (t : Bool) → cond t (got (record { first = x; height = h }) r) bad ≡ got s r'
        → (x ≡ s.first) × (Some h ≡ Some s.height) × (r ≡ r')
    go true e =
        let same = got_value (record { first = x; height = h }) s r r' e in (
          ap (λ (z : Section). z.first) same,
          ap (λ (z : Section). Some z.height) same,
          got_rest (record { first = x; height = h }) s r r' e,
        )
    go false e = absurd (let z : ◌≡◌ {A = ℕ} 0 1 = cc in omega arith)
section_inv x None r s r' e = absurd (let z : ◌≡◌ {A = ℕ} 0 1 = cc in omega arith)

module _ (w : ℕ) where
  pair_inv : (bs : List ℕ) (s : Section) (r : List ℕ) → Bytes bs → read_pair w bs ≡ got s r
      → (bs ≡ big_endian w s.first ++ (big_endian w (length_of s) ++ r)) × Bytes r
  unfolding read_pair
  pair_inv bs s r b e =
      let x = then_inv (read_field w bs)
      (λ x r. then (read_field w r) λ n r'. section_read x (height_of n) r') s r e in
      let n1 = field_inv w bs x.0 x.1 b x.2 in
      let y = then_inv (read_field w x.1) (λ n r'. section_read x.0 (height_of n) r') s r x.3 in
      let n2 = field_inv w x.1 y.0 y.1 n1.1 y.2 in
      let z = section_inv x.0 (height_of y.0) y.1 s r y.3 in
      let hh = (length-of-height y.0 s.height z.1).1 in (
        n1.0 ∙ ap₂ (λ a q. big_endian w a ++ q) z.0 (n2.0 ∙ ap₂ (λ a q. big_endian w a ++ q) hh z.2),
        subst Bytes z.2 n2.1,
      )

  pub pairs_inv : (c : ℕ) (bs : List ℕ) (l : List Section) (r : List ℕ) → Bytes bs → read_pairs c w bs ≡ got l r
      → (bs ≡ pairs_bytes w l ++ r) × Bytes r
  unfolding read_pairs
  pairs_inv zero bs l r b e =
      let p = got_value [] l bs r e in
      let q = got_rest [] l bs r e in
      let o : bs ≡ pairs_bytes w [] ++ r = q ∙ sym (ap (λ z. z ++ r) (pairs_bytes_nil w)) in
      (subst (λ z. bs ≡ pairs_bytes w z ++ r) p o, subst Bytes q b)
  pairs_inv (suc c) bs l r b e =
      let x = then_inv (read_pair w bs) (λ s r. then (read_pairs c w r) λ l r'. got (s ∷ l) r') l r e in
      let p = pair_inv bs x.0 x.1 b x.2 in
      let y = then_inv (read_pairs c w x.1) (λ l r'. got (x.0 ∷ l) r') l r x.3 in
      let q = pairs_inv c x.1 y.0 y.1 p.1 y.2 in
      fin x.0 y.0 y.1
      (p.0 ∙ ap (λ z. big_endian w x.0.first ++ (big_endian w (length_of x.0) ++ z)) q.0) q.1
      (got_value (x.0 ∷ y.0) l y.1 r y.3) (got_rest (x.0 ∷ y.0) l y.1 r y.3)
    where
      fin : (s : Section) (m : List Section) (r' : List ℕ)
          → bs ≡ big_endian w s.first ++ (big_endian w (length_of s) ++ (pairs_bytes w m ++ r')) → Bytes r'
          → s ∷ m ≡ l → r' ≡ r → (bs ≡ pairs_bytes w l ++ r) × Bytes r
      fin s m r' eq br p q = (
        subst (λ z. bs ≡ pairs_bytes w z ++ r) p
            (subst (λ z. bs ≡ pairs_bytes w (s ∷ m) ++ z) q (eq ∙ sym (pairs-cons w s m r'))),
        subst Bytes q br,
      )

  file_inv : (i n : ℕ) (l : List Section) (r : List ℕ) (f : File) (r' : List ℕ) → file_read i n l r ≡ got f r'
      → (block_count l ≡ n) × (pairwise (λ (s t : Section). ltb s.first t.first) l ≡ true)
      × (◌≡◌ {A = File} (record { id = i; pieces = sort_by by_length l }) f) × (r ≡ r')
  unfolding file_read
  file_inv i n l r f r' e =
      go (eqb (block_count l) n) refl (pairwise (λ (s t : Section). ltb s.first t.first) l) refl e
    where
      go : (s : Bool) → eqb (block_count l) n ≡ s → (t : Bool)
          → pairwise (λ (s t : Section). ltb s.first t.first) l ≡ t
          → elim (s && t) as (λ _. Read File)
          [ true ↦ got (record { id = i; pieces = sort_by by_length l }) r | false ↦ bad ]
          ≡ got f r'
          → (block_count l ≡ n) × (pairwise (λ (s t : Section). ltb s.first t.first) l ≡ true)
          × (◌≡◌ {A = File} (record { id = i; pieces = sort_by by_length l }) f) × (r ≡ r')
      go true p true q x = (
        eqb-true (block_count l) n p,
        q,
        got_value (record { id = i; pieces = sort_by by_length l }) f r r' x,
        got_rest (record { id = i; pieces = sort_by by_length l }) f r r' x,
      )
      go true p false q x = absurd (let z : ◌≡◌ {A = ℕ} 0 1 = cc in omega arith)
      go false p t q x = absurd (let z : ◌≡◌ {A = ℕ} 0 1 = cc in omega arith)

  entry_inv : (bs : List ℕ) (f : File) (r : List ℕ) → Bytes bs → read_entry w bs ≡ got f r
      → (bs ≡ entry_bytes w f ++ r) × Bytes r
  unfolding read_entry
  entry_inv bs f r b e =
      let x = then_inv (read_field short_field bs)
      (λ i r. then (read_field w r) λ n r'. then (read_pairs (ones n) w r') λ l r''. file_read i n l r'') f r e in
      let n1 = field_inv short_field bs x.0 x.1 b x.2 in
      let y = then_inv (read_field w x.1)
      (λ n r'. then (read_pairs (ones n) w r') λ l r''. file_read x.0 n l r'') f r x.3 in
      let n2 = field_inv w x.1 y.0 y.1 n1.1 y.2 in
      let z = then_inv (read_pairs (ones y.0) w y.1) (λ l r''. file_read x.0 y.0 l r'') f r y.3 in
      let n3 = pairs_inv (ones y.0) y.1 z.0 z.1 n2.1 z.2 in
      let q = file_inv x.0 y.0 z.0 z.1 f r z.3 in
      fin x.0 y.0 z.0 z.1
      (n1.0 ∙ ap (λ t. big_endian short_field x.0 ++ t) (n2.0 ∙ ap (λ t. big_endian w y.0 ++ t) n3.0))
      n3.1 q
    where
      fin : (i n : ℕ) (l : List Section) (r' : List ℕ)
          → bs ≡ big_endian short_field i ++ (big_endian w n ++ (pairs_bytes w l ++ r')) → Bytes r'
          → (block_count l ≡ n) × (pairwise (λ (s t : Section). ltb s.first t.first) l ≡ true)
          × (◌≡◌ {A = File} (record { id = i; pieces = sort_by by_length l }) f) × (r' ≡ r)
          → (bs ≡ entry_bytes w f ++ r) × Bytes r
      fin i n l r' eq br (sz, ri, ff, rr) =
          let back = firsts_back (pairwise_imp (λ s t. ltb-true s.first t.first) (pairwise-pairs _ l ri)) in
          let same : bs ≡ entry_bytes w (record { id = i; pieces = sort_by by_length l }) ++ r' =
          eq
          ∙ (ap₂ (λ a c. big_endian short_field i ++ (big_endian w a ++ (pairs_bytes w c ++ r')))
          (sym (sum_sort length_of by_length l ∙ sz)) (sym back)
          ∙ sym (entry_fields w (record { id = i; pieces = sort_by by_length l }) r')) in (
            subst (λ (g : File). bs ≡ entry_bytes w g ++ r) ff
                (subst (λ t. bs ≡ entry_bytes w (record { id = i; pieces = sort_by by_length l }) ++ t) rr same),
            subst Bytes rr br,
          )

  pub entries_inv : (c : ℕ) (bs : List ℕ) (fs : List File) (r : List ℕ) → Bytes bs → read_entries c w bs ≡ got fs r
      → (bs ≡ entries_bytes w fs ++ r) × (length fs ≡ c) × Bytes r
  unfolding read_entries
  entries_inv zero bs fs r b e =
      let p = got_value [] fs bs r e in
      let q = got_rest [] fs bs r e in
      let o : bs ≡ entries_bytes w [] ++ r = q ∙ sym (ap (λ z. z ++ r) (entries_bytes_nil w)) in
      (subst (λ z. bs ≡ entries_bytes w z ++ r) p o, ap length (sym p), subst Bytes q b)
  entries_inv (suc c) bs fs r b e =
      let x = then_inv (read_entry w bs) (λ f r. then (read_entries c w r) λ l r'. got (f ∷ l) r') fs r e in
      let p = entry_inv bs x.0 x.1 b x.2 in
      let y = then_inv (read_entries c w x.1) (λ l r'. got (x.0 ∷ l) r') fs r x.3 in
      let q = entries_inv c x.1 y.0 y.1 p.1 y.2 in
      fin x.0 y.0 y.1 (p.0 ∙ ap (λ z. entry_bytes w x.0 ++ z) q.0) q.1 q.2
      (got_value (x.0 ∷ y.0) fs y.1 r y.3) (got_rest (x.0 ∷ y.0) fs y.1 r y.3)
    where
      fin : (f : File) (l : List File) (r' : List ℕ) → bs ≡ entry_bytes w f ++ (entries_bytes w l ++ r')
          → length l ≡ c → Bytes r' → f ∷ l ≡ fs → r' ≡ r
          → (bs ≡ entries_bytes w fs ++ r) × (length fs ≡ suc c) × Bytes r
      fin f l r' eq n br p q = (
        subst (λ z. bs ≡ entries_bytes w z ++ r) p
            (subst (λ z. bs ≡ entries_bytes w (f ∷ l) ++ z) q (eq ∙ sym (entries-cons w f l r'))),
        ap length (sym p) ∙ ap suc n,
        subst Bytes q br,
      )

-- The bytes of a header and of a whole layout that are read were encoded. Assumes nothing.
use mathlib.Core.Bool.{Bool, ◌&&◌, false, true}
use mathlib.Core.List.{List, ◌++◌}
use mathlib.Core.Path.{◌∙◌, ◌≡◌, ap, refl, subst, sym}
use Prim.Native.Nat.{◌-◌, ℕ}
use native.Mathlib.Omega.{arith}
use lib.Count.{ones}
use lib.Dec.{eqb, leb}
use lib.ListN.{length}
use borrow.Author.Tests.{eqb-true}
use Rattle.catalogue.proofs.Fields.{field_inv}
use Rattle.catalogue.proofs.Grouping.{used_fields}
use Rattle.catalogue.proofs.ReadOnly.{entries_inv, got_rest, got_value, pairs_inv, then_inv}
use Rattle.catalogue.specs.Encoding.{Bytes, big_endian, entries_bytes, pairs_bytes, used_bytes}
use Rattle.catalogue.specs.Version.{short_field}
use Rattle.catalogue.specs.Reading.{Header, Read, bad, got, read_entries, read_field, read_header, read_layout}
use Rattle.catalogue.specs.Reading.{read_pairs, then}
use Rattle.catalogue.specs.declared.Version.{Version}
use Rattle.layout.specs.Layout.{File, Layout, file_blocks}
use Rattle.layout.specs.Lists.{sum_of}
use Rattle.layout.specs.Moves.{same}
use Rattle.section.specs.Limits.{most_files}
use Rattle.section.specs.declared.Section.{Section}

module _ (v : Version) where
  header_inv : (bs : List ℕ) (h : Header) (r : List ℕ) → Bytes bs → read_header v bs ≡ got h r
      → (bs
      ≡ big_endian short_field v.number
      ++ (big_endian v.width h.blocks ++ (big_endian short_field h.count ++ r)))
      × Bytes r
  unfolding read_header
  header_inv bs h r b e =
      let x = then_inv (read_field short_field bs)
      (λ number r. then (read_field v.width r) λ c r'. then (read_field short_field r') λ n r''. last number c n r'')
      h r e in
      let n1 = field_inv short_field bs x.0 x.1 b x.2 in
      let y = then_inv (read_field v.width x.1)
      (λ c r'. then (read_field short_field r') λ n r''. last x.0 c n r'') h r x.3 in
      let n2 = field_inv v.width x.1 y.0 y.1 n1.1 y.2 in
      let z = then_inv (read_field short_field y.1) (λ n r''. last x.0 y.0 n r'') h r y.3 in
      let n3 = field_inv short_field y.1 z.0 z.1 n2.1 z.2 in
      fin x.0 y.0 z.0 z.1
      (n1.0
      ∙ ap (λ t. big_endian short_field x.0 ++ t) (n2.0 ∙ ap (λ t. big_endian v.width y.0 ++ t) n3.0))
      n3.1
      (eqb x.0 v.number) refl (leb z.0 most_files) z.3
    where
      last : ℕ → ℕ → ℕ → List ℕ → Read Header
      last number c n r = elim (eqb number v.number && leb n most_files) as (λ _. Read Header) [
        | true ↦ got (record { blocks = c; count = n }) r
        | false ↦ bad
      ]

      fin : (number c n : ℕ) (r' : List ℕ)
          → bs ≡ big_endian short_field number ++ (big_endian v.width c ++ (big_endian short_field n ++ r'))
          → Bytes r'
          → (s : Bool) → eqb number v.number ≡ s → (t : Bool)
          → elim (s && t) as (λ _. Read Header) [ true ↦ got (record { blocks = c; count = n }) r' | false ↦ bad ]
          ≡ got h r
          → (bs
          ≡ big_endian short_field v.number
          ++ (big_endian v.width h.blocks ++ (big_endian short_field h.count ++ r)))
          × Bytes r
      fin number c n r' eq br true p true q =
          let hh = got_value (record { blocks = c; count = n }) h r' r q in
          let rr = got_rest (record { blocks = c; count = n }) h r' r q in
          let same = eq
          ∙ ap (λ z. big_endian short_field z ++ (big_endian v.width c ++ (big_endian short_field n ++ r')))
          (eqb-true number v.number p) in (
            subst (λ (g : Header). bs
                ≡ big_endian short_field v.number
                ++ (big_endian v.width g.blocks ++ (big_endian short_field g.count ++ r))) hh
                (subst (λ z. bs
                ≡ big_endian short_field v.number ++ (big_endian v.width c ++ (big_endian short_field n ++ z)))
                rr same),
            subst Bytes rr br,
          )
      fin number c n r' eq br true p false q = absurd (let z : ◌≡◌ {A = ℕ} 0 1 = cc in omega arith)
      fin number c n r' eq br false p t q = absurd (let z : ◌≡◌ {A = ℕ} 0 1 = cc in omega arith)

  pub layout_inv : (bs : List ℕ) (l : Layout) (r : List ℕ) → Bytes bs → read_layout v bs ≡ got l r
      → bs ≡ used_bytes v l ++ r
  unfolding read_layout
  layout_inv bs l r b e =
      let w = v.width in
      let x = then_inv (read_header v bs)
      (λ h r. then (read_entries h.count w r)
      λ fs r'. then (read_pairs (ones (h.blocks - sum_of file_blocks fs)) w r')
      λ fr r''. got (record { blocks = h.blocks; files = fs; free = fr }) r'') l r e in
      let h1 = header_inv bs x.0 x.1 b x.2 in
      let y = then_inv (read_entries x.0.count w x.1)
      (λ fs r'. then (read_pairs (ones (x.0.blocks - sum_of file_blocks fs)) w r')
      λ fr r''. got (record { blocks = x.0.blocks; files = fs; free = fr }) r'') l r x.3 in
      let h2 = entries_inv w x.0.count x.1 y.0 y.1 h1.1 y.2 in
      let z = then_inv (read_pairs (ones (x.0.blocks - sum_of file_blocks y.0)) w y.1)
      (λ fr r''. got (record { blocks = x.0.blocks; files = y.0; free = fr }) r'') l r y.3 in
      let h3 = pairs_inv w (ones (x.0.blocks - sum_of file_blocks y.0)) y.1 z.0 z.1 h2.2 z.2 in
      fin x.0.blocks x.0.count y.0 z.0 z.1
      (h1.0
      ∙ ap (λ t. big_endian short_field v.number
      ++ (big_endian w x.0.blocks ++ (big_endian short_field x.0.count ++ t)))
      (h2.0 ∙ ap (λ t. entries_bytes w y.0 ++ t) h3.0))
      h2.1
      (got_value (record { blocks = x.0.blocks; files = y.0; free = z.0 }) l z.1 r z.3)
      (got_rest (record { blocks = x.0.blocks; files = y.0; free = z.0 }) l z.1 r z.3)
    where
      fin : (c n : ℕ) (fs : List File) (fr : List Section) (r' : List ℕ)
          → bs
          ≡ big_endian short_field v.number
          ++ (big_endian v.width c
          ++ (big_endian short_field n ++ (entries_bytes v.width fs ++ (pairs_bytes v.width fr ++ r'))))
          → length fs ≡ n → ◌≡◌ {A = Layout} (record { blocks = c; files = fs; free = fr }) l → r' ≡ r
          → bs ≡ used_bytes v l ++ r
      fin c n fs fr r' eq k p q =
          let m : Layout = record { blocks = c; files = fs; free = fr } in
          let same = eq
          ∙ (ap (λ t. big_endian short_field v.number
          ++ (big_endian v.width c
          ++ (big_endian short_field t ++ (entries_bytes v.width fs ++ (pairs_bytes v.width fr ++ r')))))
          (sym k)
          ∙ sym (used_fields v (record { blocks = c; files = fs; free = fr }) r')) in
          subst (λ z. bs ≡ used_bytes v z ++ r) p
          (subst (λ z. bs ≡ used_bytes v (record { blocks = c; files = fs; free = fr }) ++ z) q same)

-- The fewest pieces, in any base: a division with fewer than the base of each length has the fewest; and what "the
-- fewest" says, of lengths, of a file and of a layout, with each power given by its height. Assumes nothing.
use mathlib.Core.List.{List, [], ◌∷◌, map}
use mathlib.Core.Path.{◌∙◌, ◌≡◌, ap, refl, sym}
use Prim.Native.Nat.{◌+◌, ◌<◌, ◌^◌, ◌≤◌, ℕ}
use native.Mathlib.Decide.{ℕ_discrete}
use native.Mathlib.Omega.{arith}
use lib.Dec.{eqb}
use lib.ListN.{length, length-map}
use borrow.Author.Tests.{eq-eqb}
use Rattle.layout.proofs.Digits.{counts_fewest}
use Rattle.layout.proofs.Finding.{find_file_lem, found_find}
use Rattle.layout.proofs.Lists.{each_all, each_map, sum-map}
use Rattle.layout.proofs.Splitting.{of_height_other, of_height_same}
use Rattle.layout.specs.Divisions.{Divides, Fewest, FewestPieces, NoMorePieces, PowerOf, lengths_of}
use Rattle.layout.specs.Layout.{File, Layout, file_blocks, find_file, found, of_height}
use Rattle.layout.specs.Lists.{Each, done, indicator, more, sum_of, times_in}
use Rattle.section.specs.Sections.{length_of, section}
use Rattle.section.specs.declared.Section.{Section}

-- ---- fewer than the base of each length

module _ (base : ℕ) where
  -- sections of the heights of some lengths
  sections_of : {ls : List ℕ} → Each (PowerOf base) ls → List Section
  sections_of done = []
  sections_of (more (h, _) e) = section 0 h ∷ sections_of e

  sections-length : {ls : List ℕ} (e : Each (PowerOf base) ls) → length (sections_of e) ≡ length ls
  unfolding sections_of
  sections-length done = refl
  sections-length (more (h, _) e) = omega (arith, sections-length e)

  sections-sum : {ls : List ℕ} (e : Each (PowerOf base) ls)
      → sum_of (λ (s : Section). base ^ s.height.value) (sections_of e) ≡ sum_of (λ x. x) ls
  unfolding sections_of
  sections-sum done = refl
  sections-sum (more (h, p) e) = omega (arith, p, sections-sum e)

  sections_count : (h : ℕ) {ls : List ℕ} (e : Each (PowerOf base) ls)
      → sum_of (of_height h) (sections_of e) ≤ times_in (base ^ h) ls
  unfolding sections_of
  sections_count h done = omega arith
  sections_count h (more {a = x} {l = ls} (j, p) e) = go (ℕ_discrete j h) (sections_count h e)
    where
      go : Dec (j ≡ h) → sum_of (of_height h) (sections_of e) ≤ times_in (base ^ h) ls
          → of_height h (section 0 j) + sum_of (of_height h) (sections_of e)
          ≤ indicator (eqb x (base ^ h)) + times_in (base ^ h) ls
      go (yes q) r = omega (
        arith,
        of_height_same h (section 0 j) q,
        ap indicator (eq-eqb x (base ^ h) (p ∙ ap (λ i. base ^ i) q)),
      )
      go (no q) r = omega (arith, of_height_other h (section 0 j) q)

  -- the law: a division with fewer than the base of each length has the fewest pieces
  pub thin_fewest : {n : ℕ} {ls : List ℕ} → Divides base n ls → ((x : ℕ) → times_in x ls < base) → Fewest base n ls
  thin_fewest {ls} d thin = record {
    divides = d;
    none_fewer =
        λ others o. omega (
          arith,
          sections-length d.powers,
          sections-length o.powers,
          counts_fewest base (sections_of d.powers) (sections_of o.powers)
              (λ h. omega (arith, sections_count h d.powers, thin (base ^ h)))
              (sections-sum d.powers ∙ (d.sum ∙ (sym o.sum ∙ sym (sections-sum o.powers)))),
        );
  }

  -- ---- in the words of heights

  -- whatever has powers of the base as its lengths divides as many blocks as these sum to
  pub lengths_divide : {A : Type 0} (n : ℕ) (f : A → ℕ) (l : List A) → ((a : A) → PowerOf base (f a)) → sum_of f l ≡ n
      → Divides base n (map f l)
  lengths_divide n f l p e = record { powers = each_map f (each_all l p); sum = sum-map (λ x. x) f l ∙ e }

  -- so do heights
  pub heights_divide : (n : ℕ) (hs : List ℕ) → sum_of (λ h. base ^ h) hs ≡ n → Divides base n (map (λ h. base ^ h) hs)
  heights_divide n hs = lengths_divide n (λ h. base ^ h) hs (λ h. (h, refl))

  -- and if they sum to n, they are as many as the fewest or more
  pub fewest_heights : {n : ℕ} {ls : List ℕ} → Fewest base n ls → (hs : List ℕ) → sum_of (λ h. base ^ h) hs ≡ n
      → length ls ≤ length hs
  fewest_heights {n} f hs e = omega (
    arith,
    f.none_fewer (map (λ h. base ^ h) hs) (heights_divide n hs e),
    length-map hs (λ h. base ^ h),
  )

  -- pieces of n blocks that are the fewest are no more, nor are those of a file that is there
  pub pieces_no_more : {n : ℕ} (l : List Section) → Fewest base n (lengths_of l) → (hs : List ℕ)
      → sum_of (λ h. base ^ h) hs ≡ n → length l ≤ length hs
  pieces_no_more l f hs e = omega (arith, fewest_heights f hs e, length-map l length_of)

  pub file_no_more : (i : ℕ) (fs : List File) (f : File) → find_file i fs ≡ found f
      → Each (λ (g : File). Fewest base (file_blocks g) (lengths_of g.pieces)) fs → (hs : List ℕ)
      → sum_of (λ h. base ^ h) hs ≡ file_blocks f → length f.pieces ≤ length hs
  file_no_more i fs f there e =
      pieces_no_more f.pieces
      (find_file_lem {P = λ (g : File). Fewest base (file_blocks g) (lengths_of g.pieces)} (found_find i fs f there).1 e)

  pub layout_no_more : (l : Layout) → FewestPieces base l → NoMorePieces base l
  layout_no_more l p =
      (λ i f there. file_no_more i l.files f there p.files, pieces_no_more l.free p.free)

-- Pairs read one after another: what is left to read, after those that stand in the array. Assumes nothing.
use Rattle.piece.specs.Packed.{seen, section_in}
use Rattle.piece.proofs.Seen.{seen-append, seen-length, seen-set}
use Rattle.section.specs.Sections.{length_of}
use Rattle.piece.specs.declared.Piece.{Piece}
use mathlib.Core.List.{List, [], ◌++◌, ◌∷◌, append-nil}
use mathlib.Core.Path.{◌∙◌, ◌≡◌, ap, ap₂, refl, sym}
use Prim.Native.Nat.{◌*◌, ◌+◌, ◌-◌, ◌<◌, ◌≤◌, suc, zero, ℕ}
use native.Mathlib.Omega.{arith}
use lib.ListN.{drop, length, length-append, length-set, set, take}
use lib.Seq.{append_snoc, length-take-le}
use Rattle.std.proofs.lemmas.List.{take-append-le}
use Rattle.catalogue.proofs.ReadOnly.{got_value, then_inv}
use Rattle.catalogue.specs.Reading.{Read, bad, got, read_pair, read_pairs, then}
use Rattle.soundness.proofs.Joined.{pushed}
use Rattle.decoder.specs.Fields.{SomePairAt, SomePairsAt}
use Rattle.decoder.specs.declared.PairRead.{PairRead}
use Rattle.layout.proofs.Lists.{sum-append}
use Rattle.layout.specs.Layout.{block_count}
use Rattle.layout.specs.Lists.{sum_of}
use Rattle.section.specs.Limits.{greatest_disk}
use Rattle.section.specs.declared.Section.{Section}
use Rattle.piece_lists.specs.Few.{list_of, piece_places}

-- what is read after the elements of acc
abbrev pub read_after : {A : Type 0} → List A → Read (List A) → Read (List A)
read_after acc x = then x λ l r. got (acc ++ l) r

pub sum_pushed {ℓ} : {A : Type ℓ} (w : A → ℕ) (p : List A) (m : ℕ) (a : A) → m < length p
    → sum_of w (take (m + 1) (set p m a)) ≡ sum_of w (take m p) + w a
sum_pushed w p m a h =
    ap (sum_of w) (pushed p m a h) ∙ (sum-append w (take m p) (a ∷ []) ∙ (omega arith))

pub after_none : {A : Type 0} (x : Read (List A)) → read_after [] x ≡ x
after_none (got l r) = refl
after_none bad = refl

pub after_more : {A : Type 0} (acc : List A) (a : A) (x : Read (List A))
    → read_after acc (then x λ l r. got (a ∷ l) r) ≡ read_after (acc ++ (a ∷ [])) x
after_more acc a (got l r) = ap (λ z. got z r) (sym (append_snoc acc a l))
after_more acc a bad = refl

-- as many pairs are read as were asked for
pub pairs_count : (w c : ℕ) (bs : List ℕ) (l : List Section) (r : List ℕ) → read_pairs c w bs ≡ got l r
    → length l ≡ c
unfolding read_pairs
pairs_count w zero bs l r e = sym (ap length (got_value [] l bs r e))
pairs_count w (suc c) bs l r e =
    let x = then_inv (read_pair w bs) (λ s r. then (read_pairs c w r) λ l r'. got (s ∷ l) r') l r e in
    let y = then_inv (read_pairs c w x.1) (λ l r'. got (x.0 ∷ l) r') l r x.3 in
    sym (ap length (got_value (x.0 ∷ y.0) l y.1 r y.3))
    ∙ ap suc (pairs_count w c x.1 y.0 y.1 y.2)

pairs_step : (w c : ℕ) (bs : List ℕ) (acc : List Section) (s : Section) (r : List ℕ)
    → read_pair w bs ≡ got s r
    → read_after acc (read_pairs (suc c) w bs) ≡ read_after (acc ++ (s ∷ [])) (read_pairs c w r)
unfolding read_pairs
pairs_step w c bs acc s r e =
    ap (λ z. read_after acc (then z λ s r. then (read_pairs c w r) λ l r'. got (s ∷ l) r')) e
    ∙ after_more acc s (read_pairs c w r)

pairs_stop : (w c : ℕ) (bs : List ℕ) (acc : List Section) → read_pair w bs ≡ bad
    → read_after acc (read_pairs (suc c) w bs) ≡ bad
unfolding read_pairs
pairs_stop w c bs acc e = ap (λ z. read_after acc (then z λ s r. then (read_pairs c w r) λ l r'. got (s ∷ l) r')) e

pairs_end : (w : ℕ) (bs : List ℕ) (acc : List Section) → read_after acc (read_pairs 0 w bs) ≡ got acc bs
unfolding read_pairs
pairs_end w bs acc = ap (λ z. got z bs) (append-nil acc)

-- what is left to read, with i of the pairs in the items and the others' bytes from `end` on
abbrev pub Left : ℕ → List ℕ → ℕ → List Piece → ℕ → ℕ → Read (List Section)
Left w s n items end i = read_after (take i (seen items)) (read_pairs (n - i) w (drop end s))

-- i of the n pairs from a place on stand in the items, and the others' bytes start at `end`
pub record PairsTo (w : ℕ) (s : List ℕ) (at n : ℕ) (items : List Piece) (end sum i : ℕ) : Type 0 where
  pub few : i ≤ n
  pub meaning : Left w s n items end i ≡ read_pairs n w (drop at s)
  pub blocks : sum ≡ block_count (take i (seen items))
  pub most : sum ≤ greatest_disk * i
  pub exact : length items ≡ n
  pub inside : end ≤ length s

pub pairs_start : (w : ℕ) (s : List ℕ) (at n : ℕ) (items : List Piece) → at ≤ length s → length items ≡ n
    → PairsTo w s at n items at 0 0
pairs_start w s at n items h e =
    record {
      few = omega arith;
      meaning =
          after_none (read_pairs (n - 0) w (drop at s)) ∙ ap (λ k. read_pairs k w (drop at s)) (omega arith);
      blocks = refl;
      most = omega arith;
      exact = e;
      inside = h;
    }

module _ (w : ℕ) (s : List ℕ) (at n : ℕ) (items : List Piece) (end sum i : ℕ)
    (f : PairsTo w s at n items end sum i) where
  module _ (h : i < n) where
    one_less : n - i ≡ suc (n - (i + 1))
    one_less = omega arith

    pub pairs_more : (p : PairRead) → SomePairAt w s end p
        → PairsTo w s at n (set items i p.piece) (end + 2 * w) (sum + p.length) (i + 1)
    pairs_more p q =
        let l : i < length (seen items) = omega (arith, f.exact, seen-length items) in
        record {
          few = omega arith;
          meaning =
              ap (λ z. read_after z (read_pairs (n - (i + 1)) w (drop (end + 2 * w) s)))
              (ap (take (i + 1)) (seen-set items i p.piece) ∙ pushed (seen items) i (section_in p.piece) l)
              ∙ (sym
              (pairs_step w (n - (i + 1)) (drop end s) (take i (seen items)) (section_in p.piece)
              (drop (end + 2 * w) s) q.meaning)
              ∙ (ap (λ k. read_after (take i (seen items)) (read_pairs k w (drop end s))) (sym one_less)
              ∙ f.meaning));
          blocks =
              ap₂ (λ m k. m + k) f.blocks q.equal
              ∙ sym
              (ap (λ z. block_count (take (i + 1) z)) (seen-set items i p.piece)
              ∙ sum_pushed length_of (seen items) i (section_in p.piece) l);
          most = omega (arith, f.most, q.most);
          exact = simp length-set f.exact;
          inside = q.inside;
        }

    pub pairs_bad : read_pair w (drop end s) ≡ bad → read_pairs n w (drop at s) ≡ bad
    pairs_bad e =
        sym f.meaning
        ∙ (ap (λ k. read_after (take i (seen items)) (read_pairs k w (drop end s))) one_less
        ∙ pairs_stop w (n - (i + 1)) (drop end s) (take i (seen items)) e)

  module _ (h : n ≤ i) where
    done : i ≡ n
    done = omega (arith, f.few)

    -- whatever stands behind the pairs
    pub pairs_all : n ≤ piece_places → (behind : List Piece)
        → SomePairsAt w s at n (record { sum = sum; end = end; list = record { count = n; items = items ++ behind } })
    unfolding list_of
    pairs_all few behind =
        let e : take n (seen (items ++ behind)) ≡ take i (seen items) =
        ap (take n) (seen-append items behind)
        ∙ (take-append-le n (seen items) (seen behind) (omega (arith, f.exact, seen-length items))
        ∙ ap (λ k. take k (seen items)) (sym done)) in
        record {
          meaning =
              sym f.meaning
              ∙ (ap (λ k. read_after (take i (seen items)) (read_pairs k w (drop end s))) (omega arith)
              ∙ (pairs_end w (drop end s) (take i (seen items)) ∙ ap (λ l. got l (drop end s)) (sym e)));
          equal = f.blocks ∙ ap block_count (sym e);
          most = omega (arith, f.most, done);
          count = refl;
          places = few;
          exact = length-take-le n (seen (items ++ behind))
              (omega (arith, f.exact, seen-length (items ++ behind), length-append items behind));
          inside = f.inside;
        }

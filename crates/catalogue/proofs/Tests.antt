-- The tests on lists and the test of soundness say what the rules say. Assumes nothing.
use mathlib.Core.Bool.{Bool, ◌&&◌, false, not, true}
use mathlib.Core.List.{List, [], ◌∷◌}
use mathlib.Core.Path.{◌≡◌, ap, ap₂, refl}
use Prim.Native.Nat.{◌-◌, ◌<◌, ◌^◌, ◌≤◌, ℕ}
use lib.Count.{ones}
use lib.Dec.{eqb, ltb}
use lib.ListN.{length}
use borrow.Author.Tests.{eq-eqb, eqb-false, eqb-true, le-leb, leb-true, lt-ltb, ltb-true, ne_eqb, not-true}
use Rattle.catalogue.specs.Reading.{every, is_sound, pairwise, sound_file, sound_free, sound_piece}
use Rattle.layout.proofs.Lists.{each_and, each_imp, pairwise_imp}
use Rattle.layout.proofs.Ranges.{within}
use Rattle.layout.specs.Layout.{File, Layout, OnDisk, all_pieces, block_count, file_blocks, free_blocks}
use Rattle.layout.specs.Lists.{Each, Pairwise, done, more, next, none, sum_of}
use Rattle.layout.specs.Sound.{Sound, greatest_id}
use Rattle.section.proofs.Answers.{apart_iff, on_disk_iff}
use Rattle.section.proofs.Booleans.{and_true}
use Rattle.section.specs.Limits.{most_files}
use Rattle.section.specs.Sections.{is_on_disk, length_of, shares_block}
use Rattle.section.specs.declared.Section.{Section}

pub and_intro : {a b : Bool} → a ≡ true → b ≡ true → (a && b) ≡ true
and_intro p q = ap₂ (λ x y. x && y) p q

pub every_each {ℓ} : {A : Type ℓ} (p : A → Bool) (l : List A) → every p l ≡ true → Each (λ a. p a ≡ true) l
unfolding every
every_each p [] e = done
every_each p (a ∷ l) e = let x = and_true (p a) (every p l) e in more {a = a} x.0 (every_each p l x.1)

pub each_every {ℓ} : {A : Type ℓ} (p : A → Bool) {l : List A} → Each (λ a. p a ≡ true) l → every p l ≡ true
unfolding every
each_every p done = refl
each_every p (more q e) = and_intro q (each_every p e)

pub pairwise-pairs {ℓ} : {A : Type ℓ} (r : A → A → Bool) (l : List A) → pairwise r l ≡ true
    → Pairwise (λ a b. r a b ≡ true) l
unfolding pairwise
pairwise-pairs r [] e = none
pairwise-pairs r (a ∷ l) e =
    let x = and_true (every (r a) l) (pairwise r l) e in
    next (every_each (r a) l x.0) (pairwise-pairs r l x.1)

pub pairs-pairwise {ℓ} : {A : Type ℓ} (r : A → A → Bool) {l : List A} → Pairwise (λ a b. r a b ≡ true) l
    → pairwise r l ≡ true
unfolding pairwise
pairs-pairwise r none = refl
pairs-pairwise r (next {a = a} e p) = and_intro (each_every (r a) e) (pairs-pairwise r p)

not_false_true : (b : Bool) → b ≡ false → not b ≡ true
not_false_true b e = ap not e

-- ---- one piece, one file, the free pieces

sound_piece_lem : (k c : ℕ) (s : Section) → sound_piece k c s ≡ true → OnDisk c s × (s.height.value < k)
sound_piece_lem k c s e =
    let x = and_true (is_on_disk c s) (ltb s.height.value k) e in
    let d = (on_disk_iff c s).0 x.0 in
    (record { aligned = d.0; within = d.1 }, ltb-true s.height.value k x.1)

piece_sound : (k c : ℕ) (s : Section) → OnDisk c s → s.height.value < k → sound_piece k c s ≡ true
piece_sound k c s d h = and_intro ((on_disk_iff c s).1 (d.aligned, d.within)) (lt-ltb s.height.value k h)

pub record FileRules (f : File) : Type 0 where
  pub least_id : 1 ≤ f.id
  pub most_id : f.id ≤ greatest_id
  pub some_pages : 1 ≤ file_blocks f
  pub page_order : Pairwise (λ (s t : Section). length_of t < length_of s) f.pieces
  pub file_count : length f.pieces ≡ ones (file_blocks f)

sound_file_lem : (f : File) → sound_file f ≡ true → FileRules f
sound_file_lem f e =
    let a = and_true _ _ e in
    let b = and_true _ _ a.1 in
    let c = and_true _ _ b.1 in
    let d = and_true _ _ c.1 in
    record {
      least_id = leb-true 1 f.id a.0;
      most_id = leb-true f.id greatest_id b.0;
      some_pages = leb-true 1 (file_blocks f) c.0;
      page_order = pairwise_imp (λ s t. ltb-true (length_of t) (length_of s)) (pairwise-pairs _ f.pieces d.0);
      file_count = eqb-true (length f.pieces) (ones (file_blocks f)) d.1;
    }

file_sound : (f : File) → FileRules f → sound_file f ≡ true
file_sound f r =
    and_intro (le-leb 1 f.id r.least_id)
    (and_intro (le-leb f.id greatest_id r.most_id)
    (and_intro (le-leb 1 (file_blocks f) r.some_pages)
    (and_intro (pairs-pairwise _ (pairwise_imp (λ s t. lt-ltb (length_of t) (length_of s)) r.page_order))
    (eq-eqb (length f.pieces) (ones (file_blocks f)) r.file_count))))

-- ---- the whole layout

module _ (k : ℕ) (l : Layout) where
  pub test_sound : is_sound k l ≡ true → Sound k l
  unfolding is_sound
  test_sound e =
      let a1 = and_true _ _ e in
      let a2 = and_true _ _ a1.1 in
      let a3 = and_true _ _ a2.1 in
      let a4 = and_true _ _ a3.1 in
      let a5 = and_true _ _ a4.1 in
      let a6 = and_true _ _ a5.1 in
      let a7 = and_true (sound_free l) _ a6.1 in
      let a8 = and_true _ _ a7.1 in
      let f1 = and_true _ _ a7.0 in
      let f2 = and_true _ _ f1.1 in
      let f3 = and_true _ _ f2.1 in
      let files = each_imp sound_file_lem (every_each sound_file l.files a5.0) in
      let pieces =
      each_imp (sound_piece_lem k l.blocks) (every_each (sound_piece k l.blocks) (all_pieces l) a8.0) in
      record {
        some_blocks = leb-true 1 l.blocks a1.0;
        most_blocks = leb-true l.blocks (2 ^ (k - 1)) a2.0;
        most_files = leb-true (length l.files) most_files a3.0;
        least_id = each_imp (λ f r. r.least_id) files;
        most_id = each_imp (λ f r. r.most_id) files;
        ids_rise = pairwise_imp (λ f g. ltb-true f.id g.id) (pairwise-pairs _ l.files a4.0);
        some_pages = each_imp (λ f r. r.some_pages) files;
        pages_fit = leb-true (sum_of file_blocks l.files) l.blocks a6.0;
        on_disk = each_imp (λ s p. p.0) pieces;
        heights = each_imp (λ s p. p.1) pieces;
        page_order = each_imp (λ f r. r.page_order) files;
        file_count = each_imp (λ f r. r.file_count) files;
        free_rise = pairwise_imp (λ s t. ltb-true s.first t.first) (pairwise-pairs _ l.free f1.0);
        free_distinct =
            pairwise_imp (λ s t q. eqb-false (length_of s) (length_of t) (not-true (eqb (length_of s) (length_of t)) q))
            (pairwise-pairs _ l.free f2.0);
        free_sum = eqb-true (block_count l.free) (free_blocks l) f3.0;
        free_count = eqb-true (length l.free) (ones (free_blocks l)) f3.1;
        apart =
            pairwise_imp (λ s t q. (apart_iff s t).0 (not-true (shares_block s t) q))
            (pairwise-pairs _ (all_pieces l) a8.1);
      }

  pub sound_test : Sound k l → is_sound k l ≡ true
  unfolding is_sound
  sound_test s =
      and_intro (le-leb 1 l.blocks s.some_blocks)
      (and_intro (le-leb l.blocks (2 ^ (k - 1)) s.most_blocks)
      (and_intro (le-leb (length l.files) most_files s.most_files)
      (and_intro (pairs-pairwise _ (pairwise_imp (λ f g. lt-ltb f.id g.id) s.ids_rise))
      (and_intro (each_every sound_file files)
      (and_intro (le-leb (sum_of file_blocks l.files) l.blocks s.pages_fit)
      (and_intro free
      (and_intro
      (each_every (sound_piece k l.blocks)
      (each_imp (λ p q. piece_sound k l.blocks p q.0 q.1) (each_and s.on_disk s.heights)))
      (pairs-pairwise _
      (pairwise_imp (λ a b q. not_false_true (shares_block a b) ((apart_iff a b).1 q)) s.apart)))))))))
    where
      rules : Each FileRules l.files
      rules =
          each_imp (λ f q. record {
            least_id = q.0;
            most_id = q.1.0;
            some_pages = q.1.1.0;
            page_order = q.1.1.1.0;
            file_count = q.1.1.1.1;
          })
          (each_and s.least_id
          (each_and s.most_id (each_and s.some_pages (each_and s.page_order s.file_count))))

      files : Each (λ f. sound_file f ≡ true) l.files
      files = each_imp file_sound rules

      free : sound_free l ≡ true
      free =
          and_intro (pairs-pairwise _ (pairwise_imp (λ a b. lt-ltb a.first b.first) s.free_rise))
          (and_intro
          (pairs-pairwise _
          (pairwise_imp
          (λ a b q. not_false_true (eqb (length_of a) (length_of b)) (ne_eqb (length_of a) (length_of b) q))
          s.free_distinct))
          (and_intro (eq-eqb (block_count l.free) (free_blocks l) s.free_sum)
          (eq-eqb (length l.free) (ones (free_blocks l)) s.free_count)))

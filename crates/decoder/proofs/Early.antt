-- A file that is not acceptable is in no sound layout, nor are more free pieces than a list of few has places, so
-- reading may stop there. Assumes nothing.
use mathlib.Core.Bool.{Bool, ◌&&◌, false, not, true}
use mathlib.Core.List.{List}
use mathlib.Core.Path.{◌∙◌, ◌≡◌, ap, refl, sym}
use Prim.Native.Nat.{◌-◌, ◌<◌, ◌^◌, ◌≤◌, ℕ}
use native.Mathlib.Omega.{arith}
use lib.Count.{ones}
use lib.Dec.{eqb, leb, ltb}
use lib.ListN.{length}
use borrow.Author.Tests.{le-leb}
use Rattle.catalogue.proofs.Tests.{and_intro, each_every, every_each, test_sound}
use Rattle.catalogue.specs.Reading.{Read, Reading, bad, every, got, is_sound, judged, pairwise, read_pairs, sound}
use Rattle.catalogue.specs.Reading.{sound_file, sound_free, sound_piece, then, unsound}
use Rattle.catalogue.specs.Version.{Served, greatest_blocks}
use Rattle.catalogue.specs.declared.Version.{Version}
use Rattle.soundness.proofs.Points.{false_true, is_false}
use Rattle.layout.proofs.SoundSums.{each_files}
use Rattle.layout.proofs.Soundness.{free-few}
use Rattle.decoder.proofs.Runs.{pairs_count}
use Rattle.piece_lists.specs.Few.{piece_places}
use Rattle.decoder.specs.Entries.{acceptable}
use Rattle.layout.proofs.Lists.{each_and, each_imp, each_left}
use Rattle.layout.specs.Layout.{File, Layout, all_pieces, file_blocks, file_pieces}
use Rattle.layout.specs.Lists.{Each, Pairwise, more, next, none, sum_of}
use Rattle.section.proofs.Booleans.{and_true, false_and}
use Rattle.section.proofs.Lengths.{pow_lt_inv}
use Rattle.section.specs.Limits.{most_files, height_count}
use Rattle.section.specs.Sections.{length_of, shares_block}
use Rattle.section.specs.declared.Section.{Section}

-- files of which one cannot be in a sound layout are not read on
unfoldable pub all_accepted : Read (List File) → Read (List File)
all_accepted (got l r) = elim (every acceptable l) as (λ _. Read (List File)) [ true ↦ got l r | false ↦ bad ]
all_accepted bad = bad

-- pieces of falling length, with heights below k, are at most k
falling-few : (k : ℕ) {l : List Section} → Pairwise (λ (s t : Section). length_of t < length_of s) l
    → Each (λ (s : Section). s.height.value < k) l
    → length l ≤ k
falling-few k none e = omega arith
falling-few k (next {a = s} {l = l} p q) (more h e) =
    omega (
      arith,
      falling-few s.height.value q
          (each_imp (λ t. pow_lt_inv t.height.value s.height.value) p),
    )

files_sound : (k : ℕ) (l : Layout) → is_sound k l ≡ true → every sound_file l.files ≡ true
unfolding is_sound
files_sound k l e =
    let a1 = and_true (leb 1 l.blocks) _ e in
    let a2 = and_true (leb l.blocks (2 ^ (k - 1))) _ a1.1 in
    let a3 = and_true (leb (length l.files) most_files) _ a2.1 in
    let a4 = and_true (pairwise (λ (f g : File). ltb f.id g.id) l.files) _ a3.1 in
    (and_true (every sound_file l.files)
    (leb (sum_of file_blocks l.files) l.blocks
    && (sound_free l
    && (every (sound_piece k l.blocks) (all_pieces l)
    && pairwise (λ (s t : Section). not (shares_block s t)) (all_pieces l))))
    a4.1).0

pub sound_acceptable : (k : ℕ) → k ≤ height_count → (l : Layout) → is_sound k l ≡ true → every acceptable l.files
    ≡ true
unfolding acceptable
sound_acceptable k most l e =
    let s = test_sound k l e in
    let low = each_files l.files (each_left (file_pieces l.files) l.free s.heights) in
    each_every acceptable
    (each_imp
    (λ f q. and_intro (le-leb (length f.pieces) piece_places (omega (arith, falling-few k q.0.0 q.0.1)))
    q.1)
    (each_and (each_and s.page_order low) (every_each sound_file l.files (files_sound k l e))))

pub acceptable_sound : (fs : List File) → every acceptable fs ≡ true → every sound_file fs ≡ true
unfolding acceptable
acceptable_sound fs e =
    each_every sound_file
    (each_imp (λ f q. (and_true (leb (length f.pieces) piece_places) (sound_file f) q).1)
    (every_each acceptable fs e))

-- a sound layout has few free pieces
pub sound_free-few : (k : ℕ) → 1 ≤ k → k ≤ height_count → (l : Layout) → is_sound k l ≡ true → length
    l.free ≤ piece_places
sound_free-few k some most l e =
    let s = test_sound k l e in omega (arith, free-few k l some s.most_blocks s.free_count)

-- ---- what is judged

module _ (v : Version) where
  pub judged_unsound : (l : Layout) (r : List ℕ) → is_sound v.heights l ≡ false → judged v (got l r) ≡ unsound
  unfolding judged
  judged_unsound l r e =
      ap (λ t. elim t as (λ _. Reading) [ true ↦ sound l | false ↦ unsound ]) (false_and (every (λ b. eqb b 0) r) e)

  -- the layout of C, the files and the free pairs that follow
  abbrev pub rest_of : ℕ → List File → List ℕ → Read Layout
  rest_of b fs r =
      then (read_pairs (ones (b - sum_of file_blocks fs)) v.width r) λ free r'.
      got (record { blocks = b; files = fs; free = free }) r'

  -- what was read is no sound layout, if none has these files and as many free pieces as their blocks leave ones
  rest_unsound : (b : ℕ) (fs : List File) (r : List ℕ)
      → ((free : List Section) → length free ≡ ones (b - sum_of file_blocks fs)
      → is_sound v.heights (record { blocks = b; files = fs; free = free }) ≡ true → ⊥)
      → judged v (rest_of b fs r) ≡ unsound
  unfolding judged
  rest_unsound b fs r h = go (read_pairs (ones (b - sum_of file_blocks fs)) v.width r) refl
    where
      go : (x : Read (List Section)) → read_pairs (ones (b - sum_of file_blocks fs)) v.width r ≡ x
          → judged v (then x λ free r'. got (record { blocks = b; files = fs; free = free }) r') ≡ unsound
      go (got free r') e =
          judged_unsound (record { blocks = b; files = fs; free = free }) r'
          (is_false _ (h free (pairs_count v.width (ones (b - sum_of file_blocks fs)) r free r' e)))
      go bad e = refl

  -- a C above the version's greatest
  pub large-disk : (b : ℕ) (y : Read (List File)) → greatest_blocks v < b → judged v (then y (rest_of b)) ≡ unsound
  unfolding judged
  large-disk b (got fs r) h =
      rest_unsound b fs r (λ free _ t.
      omega (arith, (test_sound v.heights (record { blocks = b; files = fs; free = free }) t).most_blocks))
  large-disk b bad h = refl

  module _ (z : Served v) where
    unacceptable : (b : ℕ) (fs : List File) (r : List ℕ) → every acceptable fs ≡ false
        → judged v (rest_of b fs r) ≡ unsound
    unacceptable b fs r e =
        rest_unsound b fs r (λ free _ t. false_true
        (sym e
        ∙ sound_acceptable v.heights z.most_heights (record { blocks = b; files = fs; free = free }) t))

    -- more free pieces than that need not be read
    pub many_free : (b : ℕ) (fs : List File) (r : List ℕ) → piece_places < ones (b - sum_of file_blocks fs)
        → judged v (rest_of b fs r) ≡ unsound
    many_free b fs r h =
        rest_unsound b fs r
        (λ free e t. omega (
          arith,
          sound_free-few v.heights z.some_heights z.most_heights
              (record { blocks = b; files = fs; free = free }) t,
        ))

    pub stopped : (b : ℕ) (y : Read (List File)) → all_accepted y ≡ bad → judged v (then y (rest_of b)) ≡ unsound
    unfolding all_accepted judged
    stopped b (got fs r) e = go (every acceptable fs) refl e
      where
        go : (t : Bool) → every acceptable fs ≡ t
            → ◌≡◌ {A = Read (List File)} (elim t as (λ _. Read (List File)) [ true ↦ got fs r | false ↦ bad ]) bad
            → judged v (rest_of b fs r) ≡ unsound
        go true p q = absurd (let z : ◌≡◌ {A = ℕ} 0 1 = cc (q) in omega arith)
        go false p q = unacceptable b fs r p
    stopped b bad e = refl

pub all_read : (y : Read (List File)) (fs : List File) (r : List ℕ) → all_accepted y ≡ got fs r
    → (y ≡ got fs r) × (every acceptable fs ≡ true)
unfolding all_accepted
all_read (got gs s) fs r e = go (every acceptable gs) refl e
  where
    go : (t : Bool) → every acceptable gs ≡ t
        → ◌≡◌ {A = Read (List File)} (elim t as (λ _. Read (List File)) [ true ↦ got gs s | false ↦ bad ])
        (got fs r)
        → (◌≡◌ {A = Read (List File)} (got gs s) (got fs r)) × (every acceptable fs ≡ true)
    go true p q = (let z : gs ≡ fs = cc (q) in (q, ap (every acceptable) (sym z) ∙ p))
    go false p q = absurd (let z : ◌≡◌ {A = ℕ} 0 1 = cc (q) in omega arith)
all_read bad fs r e = absurd (let z : ◌≡◌ {A = ℕ} 0 1 = cc (e) in omega arith)

-- The pieces of a file one after another: the one at hand, those left, and the blocks of both. Assumes nothing.
use mathlib.Core.List.{List, [], ◌++◌, ◌∷◌}
use mathlib.Core.Path.{◌∙◌, ◌≡◌, ap, ap₂, refl, subst, sym}
use Prim.Native.Nat.{◌*◌, ◌+◌, ◌-◌, ◌<◌, ◌^◌, ◌≤◌, suc, zero, ℕ}
use native.Mathlib.Numerals.{add-one}
use native.Mathlib.Omega.{arith}
use lib.ListN.{get_or-append, drop, drop_of_length-le, get_or, length, length-take, take}
use lib.Seq.{drop-cons}
use Rattle.blocks.proofs.DiskStoring.{get_d_append_past}
use Rattle.blocks.specs.DiskCode.{EntryFits, HasBlock, HasRun, PieceFits}
use Rattle.layout.proofs.Lists.{each_append, each_imp}
use Rattle.layout.proofs.Occurs.{length-blocks}
use Rattle.layout.specs.Layout.{block_count, block_run, blocks_of}
use Rattle.layout.specs.Lists.{Each, done, more}
use Rattle.piece.proofs.Seen.{seen_get, seen-length}
use Rattle.piece.specs.Packed.{no_piece, section_in, seen}
use Rattle.piece.specs.declared.Piece.{Piece}
use Rattle.piece_lists.proofs.Arrays.{ahead, behind}
use Rattle.piece_lists.proofs.EachItem.{each_get}
use Rattle.piece_lists.specs.Few.{list_of, piece_places}
use Rattle.section.specs.Limits.{block_size, greatest_disk}
use Rattle.section.specs.Sections.{end_of, length_of, section}
use Rattle.section.specs.declared.Section.{Section}
use Rattle.table.specs.Tables.{pieces_in}
use Rattle.table.specs.declared.Entry.{Entry}

-- a section with nothing in it, where a list has to have one
abbrev pub no_section : Section
no_section = section 0 0

-- the pieces in words, with the section s in the word at place j
module _ (l : List Piece) (j : ℕ) (here : j < length l) (s : Section) (is : s ≡ section_in (get_or l j no_piece)) where
  pub piece_next : drop j (seen l) ≡ s ∷ drop (j + 1) (seen l)
  piece_next =
      drop-cons (seen l) j no_section (omega (arith, seen-length l))
      ∙ ap₂ (λ x k. x ∷ drop k (seen l)) (seen_get l j ∙ sym is) (sym (add-one j))

  pub piece_fits : (d : ℕ) (e : Entry) → seen l ≡ pieces_in e → EntryFits d e → PieceFits d s
  piece_fits d e listed fits =
      subst (PieceFits d) (seen_get l j ∙ sym is)
      (each_get {P = PieceFits d} j no_section (subst (Each (PieceFits d)) (sym listed) fits.pieces)
      (omega (arith, seen-length l)))

pub piece_past : (l : List Piece) (j : ℕ) → length l ≤ j → drop j (seen l) ≡ []
piece_past l j h = drop_of_length-le (seen l) {i = j} (omega (arith, seen-length l))

-- the pieces on a smaller disk are on a greater one
pub entry_wider : (d c : ℕ) (e : Entry) → d ≤ c → c ≤ block_size * greatest_disk → EntryFits d e → EntryFits c e
entry_wider d c e l m f = record {
  count = f.count;
  pieces = each_imp (λ s p. record { height = p.height; within = wider s p.within }) f.pieces;
  disk = m;
}
  where
    wider : (s : Section) → block_size * end_of s ≤ d → block_size * end_of s ≤ c
    wider s p = omega arith

-- pieces that have a block are not none
pub some_piece : (l : List Piece) → 1 ≤ block_count (seen l) → 0 < length l
unfolding seen
some_piece [] some = absurd (omega arith)
some_piece (p ∷ l) some = omega arith

-- no more blocks than every piece could have
pub count_most : (d : ℕ) {l : List Section} → d ≤ block_size * greatest_disk → Each (PieceFits d) l
    → block_count l ≤ greatest_disk * length l
count_most d m done = omega arith
count_most d m (more p e) = omega (arith, p.within, count_most d m e)

pub entry_most : (d : ℕ) (e : Entry) → EntryFits d e → block_count (pieces_in e) ≤ greatest_disk * piece_places
unfolding list_of
entry_most d e f = omega (
  arith,
  f.count,
  count_most d f.disk f.pieces,
  length-take e.pieces.count (seen e.pieces.items),
)

-- ---- the block of a page

pub length-block_run : (n a : ℕ) → length (block_run a n) ≡ n
unfolding block_run
length-block_run zero a = refl
length-block_run (suc n) a = ap suc (length-block_run n (suc a))

pub get_d_run : (n a k : ℕ) → k < n → get_or (block_run a n) k 0 ≡ a + k
unfolding block_run
get_d_run zero a k l = absurd (omega arith)
get_d_run (suc n) a zero l = omega arith
get_d_run (suc n) a (suc k) l = get_d_run n (suc a) k (omega arith) ∙ omega arith

module _ (items : List Section) (m j : ℕ) (hm : m ≤ length items) where
  blocks_here : j < m → blocks_of (drop j (take m items))
      ≡ block_run (get_or items j no_section).first (length_of (get_or items j no_section))
      ++ blocks_of (drop (j + 1) (take m items))
  unfolding blocks_of
  blocks_here l = ap blocks_of (ahead items m j hm no_section l)

  -- the page is in the piece at hand
  page_here : (k n : ℕ) → j < m → n ≡ length_of (get_or items j no_section) → k < n
      → (get_or items j no_section).first + k ≡ get_or (blocks_of (drop j (take m items))) k 0
  page_here k n l e h =
      let s = get_or items j no_section in
      let h' : k < length_of s = omega arith in
      sym (ap (λ z. get_or z k 0) (blocks_here l)
      ∙ (get_or-append (block_run s.first (length_of s)) (blocks_of (drop (j + 1) (take m items))) 0 k
      (omega (arith, length-block_run (length_of s) s.first))
      ∙ get_d_run (length_of s) s.first k h'))

  -- it is in a later one
  page-later : (k n : ℕ) → j < m → n ≡ length_of (get_or items j no_section) → n ≤ k
      → get_or (blocks_of (drop (j + 1) (take m items))) (k - n) 0 ≡ get_or (blocks_of (drop j (take m items))) k 0
  page-later k n l e h =
      let s = get_or items j no_section in
      sym (ap (λ z. get_or z k 0) (blocks_here l)
      ∙ get_d_append_past (block_run s.first (length_of s)) (blocks_of (drop (j + 1) (take m items))) n k
      (length-block_run (length_of s) s.first ∙ sym e) h)

  -- it is in none
  page-none : (k : ℕ) → m ≤ j → 0 ≡ get_or (blocks_of (drop j (take m items))) k 0
  unfolding blocks_of
  page-none k l = sym (ap (λ z. get_or (blocks_of z) k 0) (behind items m j hm l))

-- past the first j pieces `rest` pages are left before page `page`
module _ (items : List Section) (m j rest page : ℕ) (hm : m ≤ length items)
    (v : (k : ℕ) → get_or (blocks_of (drop j (take m items))) (rest + k) 0
    ≡ get_or (blocks_of (take m items)) (page + k) 0)
  where
    module _ (lt : j < m) (n : ℕ) (e : n ≡ length_of (get_or items j no_section)) where
      -- the blocks of the piece at hand from that page on hold the pages from it on
      pub run_here : rest < n → (i : ℕ) → i < n - rest
          → (get_or items j no_section).first + rest + i ≡ get_or (blocks_of (take m items)) (page + i) 0
      run_here h i q =
          let s = get_or items j no_section in
          let x : s.first + rest + i ≡ s.first + (rest + i) = omega arith in
          x ∙ (page_here items m j hm (rest + i) n lt e (omega arith) ∙ v i)

      pub run_later : n ≤ rest → (k : ℕ)
          → get_or (blocks_of (drop (j + 1) (take m items))) (rest - n + k) 0
          ≡ get_or (blocks_of (take m items)) (page + k) 0
      run_later h k =
          let x : rest - n + k ≡ rest + k - n = omega arith in
          ap (λ z. get_or (blocks_of (drop (j + 1) (take m items))) z 0) x
          ∙ (page-later items m j hm (rest + k) n lt e (omega arith) ∙ v k)

    pub run_none : m ≤ j → 0 ≡ get_or (blocks_of (take m items)) page 0
    run_none l =
        let y : page + 0 ≡ page = omega arith in
        page-none items m j hm (rest + 0) l ∙ (v 0 ∙ ap (λ z. get_or (blocks_of (take m items)) z 0) y)

run_on_disk : (d n a : ℕ) → HasRun d a n → Each (HasBlock d) (block_run a n)
unfolding block_run
run_on_disk d zero a p = done
run_on_disk d (suc n) a p = more {a = a} (omega arith) (run_on_disk d n (suc a) (omega arith))

blocks_on_disk : (d : ℕ) {l : List Section} → Each (PieceFits d) l → Each (HasBlock d) (blocks_of l)
unfolding blocks_of
blocks_on_disk d done = done
blocks_on_disk d (more {a = s} p e) =
    each_append (run_on_disk d (2 ^ s.height.value) s.first p.within) (blocks_on_disk d e)

-- the block of a page is on the disk
pub page_on_disk : (d : ℕ) {l : List Section} (k : ℕ) → Each (PieceFits d) l → k < block_count l
    → HasBlock d (get_or (blocks_of l) k 0)
page_on_disk d {l} k e h = each_get {P = HasBlock d} k 0 (blocks_on_disk d e) (omega (arith, length-blocks l))

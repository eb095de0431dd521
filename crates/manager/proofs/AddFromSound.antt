-- What an add promises from any sound catalogue with a disk of the right length. Assumes nothing.
use mathlib.Core.Bool.{false}
use mathlib.Core.List.{List, [], map}
use mathlib.Core.Logic.{◌↔◌}
use mathlib.Core.Path.{◌∙◌, ◌≡◌, ap, ap₂, refl, subst, sym}
use Prim.Native.Nat.{◌*◌, ◌+◌, ◌<◌, ◌≤◌, ℕ}
use native.Mathlib.Omega.{arith}
use lib.Dec.{eqb, leb, ltb}
use lib.ListN.{length}
use borrow.Author.Tests.{le-ltb, lt-leb, ltb-false, ne_eqb}
use Rattle.catalogue.specs.Encoding.{encode}
use Rattle.catalogue.specs.Roomy.{Roomy}
use Rattle.catalogue.specs.declared.Version.{Version}
use Rattle.layout.proofs.Added.{added_once, added_size, added_sound, allocate_fits}
use Rattle.layout.proofs.Lists.{each_head, each_tail}
use Rattle.layout.proofs.Occurs.{blocks_within, length-blocks, occurs-blocks}
use Rattle.layout.specs.Adding.{allocate, allocated, with_file}
use Rattle.layout.specs.Allocations.{Allocates}
use Rattle.layout.specs.Layout.{Layout, blocks_of, file_pieces, free_blocks, has_file, holds_block}
use Rattle.layout.specs.Lists.{Each, done, more, sum_of}
use Rattle.layout.specs.Sound.{Sound, greatest_id}
use Rattle.layout.specs.Sums.{SoundSums}
use Rattle.manager.proofs.Contents.{content_pages_lem, cut_paged, paged_length}
use Rattle.manager.proofs.Judging.{allowed_none, answered_allowed, none_applies}
use Rattle.manager.proofs.Lines.{write_line_lem}
use Rattle.manager.proofs.OnSound.{add_on_sound}
use Rattle.manager.proofs.Writing.{Paged, lines_same, write_back, write_length, write_other}
use Rattle.manager.specs.Book.{write_line}
use Rattle.manager.specs.Changes.{Adds}
use Rattle.manager.specs.Conditions.{Outcome, add_checks, allowed, answered, condition, first_refusal}
use Rattle.manager.specs.Conditions.{unless_refused, unpaged}
use Rattle.manager.specs.Disk.{block, cut_pages, page_count, pages_on, write_pages}
use Rattle.manager.specs.Outcomes.{add_outcome, add_pieces}
use Rattle.manager.specs.WholeList.{line_on}
use Rattle.section.specs.Limits.{block_size, most_files, height_count}
use Rattle.section.specs.Sections.{length_of}
use Rattle.section.specs.declared.Section.{Section}
use Rattle.manager.proofs.AllHeights.{all_heights, own_heights}

-- an add succeeds if no condition applies: the id is new, the content paged, there is room for a file and for its
-- blocks
module _ (v : Version) (room : Roomy v) (l : Layout) (s : Sound v.heights l) (d : List ℕ)
    (ld : length d ≡ block_size * l.blocks)
    (i : ℕ) (bs : List ℕ) (least : 1 ≤ i) (most : i ≤ greatest_id) (fresh : has_file i l.files ≡ false)
    (paged : unpaged bs ≡ false)
    (few : length l.files < most_files) (fits : page_count bs ≤ free_blocks l) where
  sums : SoundSums height_count l
  sums = all_heights v room l s

  size : (1 ≤ page_count bs) × (block_size * page_count bs ≡ length bs)
  size = paged_length bs paged

  cut : Paged (cut_pages (page_count bs) bs) × (length (cut_pages (page_count bs) bs) ≡ page_count bs)
  cut = cut_paged (page_count bs) bs (omega (arith, size.1))

  adds_pieces : (q r : List Section) → allocate 0 height_count (page_count bs) l.free ≡ allocated q r
      → Allocates l.blocks height_count (page_count bs) l.free q r
      → Adds v l d i bs (add_pieces v i bs (encode v l) d l (allocated q r))
  unfolding pages_on
  adds_pieces q r e p = record {
    pieces = q;
    rest = r;
    allocation = e;
    reply = refl;
    catalogue = refl;
    output = refl;
    sound_after =
        own_heights v room (with_file i q r l) s.most_blocks
        (added_sound height_count i (page_count bs) l sums q r p fresh least most size.0 fits few);
    disk_length = write_length l.blocks d ld on_disk cut.0;
    pages = back;
    others = λ x z. write_other l.blocks d ld on_disk cut.0 x (occurs-blocks x q ∙ z);
    lines =
        sym (
        ap₂ write_line (λ j. record { id = i; pages = (content_pages_lem bs ∙ sym back) j }) (sym kept)
        ∙ write_line_lem d' (record { id = i; pieces = q }) l.files);
  }
    where
      d' : List ℕ
      d' = write_pages d (blocks_of q) (cut_pages (page_count bs) bs)

      on_disk : Each (λ b. b < l.blocks) (blocks_of q)
      on_disk = blocks_within l.blocks p.on

      once : (x : ℕ) → sum_of (holds_block x) q + sum_of (holds_block x) (file_pieces l.files) ≤ 1
      once = added_once height_count i (page_count bs) l sums q r p fresh least most size.0 fits few

      sized : sum_of length_of q ≡ page_count bs
      sized = added_size height_count i (page_count bs) l sums q r p fresh least most size.0 fits few

      back : map (block d') (blocks_of q) ≡ cut_pages (page_count bs) bs
      back =
          write_back l.blocks d ld on_disk cut.0 (length-blocks q ∙ (sized ∙ sym cut.1))
          (λ x. omega (arith, occurs-blocks x q, once x))

      kept : map (line_on d') l.files ≡ map (line_on d) l.files
      kept =
          lines_same d d' l.files
          (λ x z. write_other l.blocks d ld on_disk cut.0 x (omega (arith, occurs-blocks x q, once x)))

  pub adds : Adds v l d i bs (add_pieces v i bs (encode v l) d l (allocate 0 height_count (page_count bs) l.free))
  adds =
      let x = allocate_fits height_count i (page_count bs) l sums fits in
      subst (λ t. Adds v l d i bs (add_pieces v i bs (encode v l) d l t)) (sym x.2)
      (adds_pieces x.0 x.1 x.2 x.3)

  no_condition : first_refusal (add_checks i bs l) ≡ allowed
  no_condition =
      none_applies
      (more {a = condition 5 (eqb i 0)} (ne_eqb i 0 (λ z. omega arith))
      (more {a = condition 7 (has_file i l.files)} fresh
      (more {a = condition 8 (unpaged bs)} paged
      (more {a = condition 10 (leb most_files (length l.files))} (lt-leb most_files (length l.files) few)
      (more {a = condition 11 (ltb (free_blocks l) (page_count bs))}
      (le-ltb (free_blocks l) (page_count bs) fits) done)))))

  -- from any sound catalogue
  pub add_does : add_outcome i bs (encode v l) d
      ≡ add_pieces v i bs (encode v l) d l (allocate 0 height_count (page_count bs) l.free)
  add_does =
      add_on_sound v room l s d ld i bs
      ∙ ap (λ j. unless_refused j (encode v l) d []
      (add_pieces v i bs (encode v l) d l (allocate 0 height_count (page_count bs) l.free))) no_condition

  pub add_from_sound : Adds v l d i bs (add_outcome i bs (encode v l) d)
  add_from_sound = subst (Adds v l d i bs) (sym add_does) adds

-- adding succeeds exactly if n is at most f
pub add_answered_iff : (v : Version) → Roomy v → (l : Layout) → Sound v.heights l → (d : List ℕ)
    → length d ≡ block_size * l.blocks
    → (i : ℕ) (bs : List ℕ) → 1 ≤ i → i ≤ greatest_id → has_file i l.files ≡ false → unpaged bs ≡ false
    → length l.files < most_files
    → ((add_outcome i bs (encode v l) d).reply ≡ answered (page_count bs)) ↔ (page_count bs ≤ free_blocks l)
add_answered_iff v room l s d ld i bs least most fresh paged few = (
  λ e. (let q = subst (λ (o : Outcome). o.reply ≡ answered (page_count bs)) (add_on_sound v room l s d ld i bs) e in
      let passed = allowed_none (add_checks i bs l)
      (answered_allowed (first_refusal (add_checks i bs l)) (encode v l) d []
      (add_pieces v i bs (encode v l) d l (allocate 0 height_count (page_count bs) l.free)) (page_count bs) q) in
      ltb-false (free_blocks l) (page_count bs) (each_head (each_tail (each_tail (each_tail (each_tail passed)))))),
  λ fits. (add_from_sound v room l s d ld i bs least most fresh paged few fits).reply,
)

-- The new file of an add in place: its pieces are those that the definition allocates. Assumes nothing.
use mathlib.Core.List.{List}
use mathlib.Core.Path.{◌∙◌, ◌≡◌, ap, refl, subst, sym}
use Prim.Native.Nat.{◌*◌, ◌<◌, ◌≤◌, ℕ}
use native.Mathlib.Omega.{arith}
use lib.ListN.{length}
use Rattle.blocks.proofs.DiskFits.{entry_on_disk}
use Rattle.blocks.specs.DiskCode.{EntryFits, WriteFits}
use Rattle.looking.proofs.FreeSum.{opened_sums}
use Rattle.calls.specs.Adding.{CanAdd, Places}
use Rattle.layout.proofs.Added.{added_size, added_sound, allocate_fits}
use Rattle.layout.proofs.Allocating.{AllocatesOf}
use Rattle.layout.proofs.Soundness.{sums_sound}
use Rattle.layout.specs.Adding.{allocate, allocated, too_few, with_file}
use Rattle.layout.specs.Allocations.{Allocates}
use Rattle.layout.specs.Layout.{block_count, blocks_of}
use Rattle.layout.specs.Sound.{Sound}
use Rattle.layout.specs.Sums.{SoundSums}
use Rattle.manager.proofs.Contents.{paged_length}
use Rattle.manager.specs.Disk.{cut_pages, page_count, write_pages}
use Rattle.section.specs.Limits.{block_size, most_files, height_count}
use Rattle.section.specs.declared.Section.{Section}
use Rattle.std.specs.Prelude.{IsSome, None, Option, Some}
use Rattle.free_pieces.specs.Allocating.{Allots, laid_pieces}
use Rattle.table.specs.Files.{Adds}
use Rattle.free_pieces.specs.Free.{free_of}
use Rattle.table.specs.Tables.{files_of, layout_of, pieces_in}
use Rattle.table.specs.declared.Entry.{Entry}
use Rattle.free_pieces.specs.declared.Laid.{Laid}
use Rattle.table.specs.declared.Table.{Table}

-- where an add is allowed, pieces are laid
module _ (t : Table) (i n k : ℕ) (bs : List ℕ) (c : CanAdd t i n k bs) where
  free-pieces : (s : List Section) × (r : List Section) × (allocate 0 height_count n (free_of t.free) ≡ allocated s r)
  unfolding layout_of
  free-pieces =
      let x = allocate_fits height_count i (page_count bs) (layout_of t) (opened_sums t c.opened) c.fits in
      (x.0, x.1, ap (λ z. allocate 0 height_count z (free_of t.free)) c.pages ∙ x.2)

  pub place_laid : (o : Option Laid) → Allots (allocate 0 height_count n (free_of t.free)) o → IsSome o
  place_laid (Some p) a = refl
  place_laid None a = let e : too_few ≡ allocated free-pieces.0 free-pieces.1 = a.meaning ∙ free-pieces.2 in cc

module _ (t : Table) (i n k : ℕ) (bs : List ℕ) (c : CanAdd t i n k bs) (p : Laid)
    (a : Allots (allocate 0 height_count n (free_of t.free)) (Some p)) where
  sums : SoundSums height_count (layout_of t)
  sums = opened_sums t c.opened

  size : (1 ≤ page_count bs) × (block_size * page_count bs ≡ length bs)
  size = paged_length bs c.paged

  abbrev new : Entry
  new = record { id = i; pieces = p.pieces }

  -- the pieces that were laid are those of the definition
  given : (allocate 0 height_count (page_count bs) (free_of t.free) ≡ allocated (pieces_in new) (free_of p.free))
      × Allocates t.blocks height_count (page_count bs) (free_of t.free) (pieces_in new) (free_of p.free)
  unfolding layout_of
  given =
      let x = allocate_fits height_count i (page_count bs) (layout_of t) sums c.fits in
      let w : allocate 0 height_count (page_count bs) (free_of t.free) ≡ allocated (laid_pieces p) (free_of p.free) =
      sym (a.meaning ∙ ap (λ z. allocate 0 height_count z (free_of t.free)) c.pages) in
      (w, subst (AllocatesOf t.blocks height_count (page_count bs) (free_of t.free)) (sym x.2 ∙ w) x.3)

  few-files : length (files_of t) < most_files
  few-files = omega (arith, c.opened.files, c.few)

  sized : block_count (pieces_in new) ≡ page_count bs
  unfolding layout_of
  sized =
      added_size height_count i (page_count bs) (layout_of t) sums (pieces_in new) (free_of p.free) given.1
      c.fresh
      c.least c.most size.0 c.fits few-files

  -- what writing the pages asks for
  pub place_writes : WriteFits k (length bs) new
  unfolding layout_of
  place_writes = record {
    entry =
        subst (λ z. EntryFits z new) (sym c.disk)
        (entry_on_disk t.blocks new (omega (arith, sums.cap)) a.count given.1.on);
    pages = omega (arith, sized, size.1);
  }

  pub place_placed : (d d' : List ℕ) (r : Table)
      → d' ≡ write_pages d (blocks_of (pieces_in new)) (cut_pages (page_count bs) bs)
      → Adds t new p.free r → Places t i bs d d' r
  unfolding layout_of
  place_placed d d' r w m = record {
    pieces = pieces_in new;
    rest = free_of p.free;
    allocation = given.0;
    layout = m.layout;
    disk = w;
    rules =
        subst (Sound height_count) (sym m.layout)
        (sums_sound height_count (with_file i (pieces_in new) (free_of p.free) (layout_of t))
        (added_sound height_count i (page_count bs) (layout_of t) sums (pieces_in new) (free_of p.free) given.1
        c.fresh
        c.least c.most size.0 c.fits few-files));
    sized = m.sized;
  }

-- An add of the id that a removal has struck, right after it: it is answered if its pages fit into the free blocks and
-- those of the file before. Assumes nothing.
use mathlib.Core.Bool.{false}
use mathlib.Core.List.{List}
use mathlib.Core.Path.{◌∙◌, ◌≡◌, ap, subst, sym}
use Prim.Native.Nat.{◌*◌, ◌+◌, ◌<◌, ◌≤◌, ℕ}
use native.Mathlib.Omega.{arith}
use lib.ListN.{length}
use Rattle.manager.specs.Changes.{Adds, RemovesFrom, without}
use Rattle.section.specs.Limits.{block_size, height_count, most_files}
use Rattle.layout.proofs.Finding.{found_find}
use Rattle.layout.proofs.RemovedRoom.{RoomAfter, removal-room}
use Rattle.layout.specs.Layout.{File, Layout, file_blocks, find_file, found, free_blocks}
use Rattle.layout.specs.Sound.{Sound, greatest_id}
use Rattle.catalogue.specs.Encoding.{encode}
use Rattle.catalogue.specs.Roomy.{Roomy}
use Rattle.catalogue.specs.declared.Version.{Version}
use Rattle.manager.specs.Conditions.{Outcome, unpaged}
use Rattle.manager.specs.Disk.{page_count, run_copies}
use Rattle.manager.specs.Outcomes.{add_outcome, add_pieces, after_merges, remove_outcome}
use Rattle.layout.specs.Adding.{allocate}
use Rattle.layout.specs.Removing.{copies_of, release, removal}
use Rattle.manager.proofs.AddFromSound.{add_does, add_from_sound}
use Rattle.manager.proofs.RemoveFromSound.{remove_does, removes}
use Rattle.manager.proofs.AllHeights.{all_heights}

module _ (v : Version) (room : Roomy v) (l : Layout) (s : Sound v.heights l) (d : List ℕ)
    (ld : length d ≡ block_size * l.blocks)
    (i : ℕ) (f : File) (e : find_file i l.files ≡ found f) (least : 1 ≤ i) (most : i ≤ greatest_id)
    (bs : List ℕ) (paged : unpaged bs ≡ false) (fits : page_count bs ≤ free_blocks l + file_blocks f) where
  abbrev moved : List ℕ
  moved = run_copies d (copies_of (removal height_count f l))

  removed : RemovesFrom v l d f (after_merges v (release f l) d (removal height_count f l))
  removed = removes v room l s d ld i f e

  left : RoomAfter l i f (without l f)
  left =
      let x = found_find i l.files f e in
      removal-room height_count i l f x.0 (all_heights v room l s) x.1

  moved_length : length moved ≡ block_size * (without l f).blocks
  moved_length = removed.disk_length ∙ ap (λ c. block_size * c) (sym removed.blocks)

  few : length (without l f).files < most_files
  few = omega (arith, left.fewer, s.most_files)

  room_left : page_count bs ≤ free_blocks (without l f)
  room_left = omega (arith, left.free)

  -- no condition refuses the add on what the removal leaves
  pub add_after_does : add_outcome i bs (encode v (without l f)) (run_copies d (copies_of (removal height_count f l)))
      ≡ add_pieces v i bs (encode v (without l f)) (run_copies d (copies_of (removal height_count f l))) (without l f)
      (allocate 0 height_count (page_count bs) (without l f).free)
  add_after_does =
      add_does v room (without l f) removed.sound_after moved moved_length i bs least most left.gone paged few
      room_left

  pub add_after_removal : Adds v (without l f) (remove_outcome i (encode v l) d).disk i bs
      (add_outcome i bs (remove_outcome i (encode v l) d).catalogue (remove_outcome i (encode v l) d).disk)
  add_after_removal =
      subst (λ (o : Outcome). Adds v (without l f) o.disk i bs (add_outcome i bs o.catalogue o.disk))
      (sym (remove_does v room l s d ld i f e least))
      (add_from_sound v room (without l f) removed.sound_after moved moved_length i bs least most left.gone paged
      few room_left)

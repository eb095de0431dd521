-- The pieces of a sound table: every height has a length, and the free ones are few. Assumes nothing.
use Rattle.piece.specs.Packed.{seen}
use Rattle.piece.proofs.Seen.{seen-length}
use mathlib.Core.List.{◌++◌}
use mathlib.Core.Path.{◌≡◌}
use Prim.Native.Nat.{◌<◌, ◌≤◌}
use native.Mathlib.Omega.{arith}
use lib.ListN.{length, take}
use lib.Seq.{length-take-le}
use Rattle.section.specs.Limits.{height_count}
use Rattle.section.specs.declared.Section.{Section}
use Rattle.layout.proofs.Lists.{each_and, each_imp, each_left, each_right, each_unmap}
use Rattle.layout.proofs.SoundSums.{each_files}
use Rattle.layout.proofs.Soundness.{free-few}
use Rattle.layout.specs.Layout.{file_pieces}
use Rattle.layout.specs.Lists.{Each}
use Rattle.layout.specs.Sound.{Sound}
use Rattle.piece_lists.proofs.EachItem.{each_take}
use Rattle.piece_lists.specs.Few.{piece_places}
use Rattle.free_pieces.specs.Free.{free_of, free_places}
use Rattle.table.specs.Tables.{Sized, file_of, files_of, layout_of}
use Rattle.table.specs.declared.Entry.{Entry}
use Rattle.table.specs.declared.Table.{Table}
use Rattle.pieces.specs.Pieces.{Low, LowFiles}

module _ (t : Table) (sized : Sized t) (sound : Sound height_count (layout_of t)) where
  all-low : Each Low (file_pieces (files_of t) ++ free_of t.free)
  unfolding layout_of
  all-low = each_imp (λ (s : Section) (h : s.height.value < height_count). omega arith) sound.heights

  pub free-low : Each Low (free_of t.free)
  free-low = each_right (file_pieces (files_of t)) (free_of t.free) all-low

  pub free-places : length t.free.items ≡ free_places → t.free.count ≤ piece_places
  unfolding free_of layout_of
  free-places e = omega (
    arith,
    free-few height_count (layout_of t) (omega arith) sound.most_blocks sound.free_count,
    length-take-le t.free.count (seen t.free.items) (omega (arith, seen-length t.free.items, sized.free)),
  )

  pub files-low : LowFiles t
  unfolding files_of
  files-low = record {
    most = sized.files;
    each =
        each_imp (λ (e : Entry) p. record { places = p.0; low = p.1 })
        (each_and (each_take t.count sized.each)
        (each_unmap file_of (take t.count t.files)
        (each_files (files_of t) (each_left (file_pieces (files_of t)) (free_of t.free) all-low))));
  }

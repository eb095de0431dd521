-- What a release of a table leaves is whole, and a sound table has room for it. Assumes nothing.
use mathlib.Core.Path.{◌≡◌, subst, sym}
use Prim.Native.Nat.{◌<◌, ◌≤◌, ℕ}
use native.Mathlib.Omega.{arith}
use lib.ListN.{length}
use Rattle.layout.specs.Covering.{Whole}
use Rattle.layout.specs.Sums.{SoundSums}
use Rattle.section.specs.Limits.{height_count}
use Rattle.layout.proofs.Finding.{found_find}
use Rattle.layout.proofs.Removed.{release_whole}
use Rattle.layout.proofs.Soundness.{free-few, sums_sound}
use Rattle.table.proofs.Released.{find_at}
use Rattle.table.specs.Files.{entry_at, has_id}
use Rattle.table.specs.Merges.{Released}
use Rattle.piece_lists.specs.Places.{first_place}
use Rattle.piece_lists.specs.Few.{piece_places}
use Rattle.free_pieces.specs.Free.{free_of}
use Rattle.table.specs.Tables.{file_of, files_of, layout_of}
use Rattle.table.specs.declared.Table.{Table}

module _ (t : Table) (g : SoundSums height_count (layout_of t)) where
  -- a sound layout has at most a free piece for each height
  pub few_free : length (free_of t.free) ≡ t.free.count → t.free.count ≤ piece_places
  unfolding layout_of
  few_free exact =
      let s = sums_sound height_count (layout_of t) g in
      omega (arith, free-few height_count (layout_of t) (omega arith) s.most_blocks s.free_count)

  pub table_released_whole : (i : ℕ) (r : Table) → t.count ≤ length t.files → i < t.count
      → i ≡ first_place (has_id (entry_at t i).id) (files_of t) → Released t i r → Whole t.blocks (layout_of r)
  unfolding layout_of
  table_released_whole i r most lt at re =
      let x =
      found_find (entry_at t i).id (files_of t) (file_of (entry_at t i)) (find_at t (entry_at t i).id i most at lt) in
      subst (Whole t.blocks) (sym re.layout)
      (release_whole height_count (entry_at t i).id (layout_of t) (file_of (entry_at t i)) x.0 g x.1)

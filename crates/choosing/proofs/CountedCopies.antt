-- The copies of a removal from the file's pieces and the free ones: when these are put together they are the free
-- pieces of a whole layout, that of the release. Assumes nothing.
use mathlib.Core.Path.{◌∙◌, ◌≡◌, ap, sym}
use Prim.Native.Nat.{◌+◌, ◌≤◌}
use native.Mathlib.Omega.{arith}
use lib.ListN.{length}
use Rattle.section.specs.Limits.{height_count}
use Rattle.layout.proofs.Finding.{found_find}
use Rattle.layout.proofs.Removed.{release_whole}
use Rattle.layout.proofs.Soundness.{free-few, sound_sums}
use Rattle.layout.specs.Helping.{copies_for}
use Rattle.layout.specs.Layout.{Layout}
use Rattle.layout.specs.Removing.{copies_of, insert_all, merge_all, release, removal}
use Rattle.piece_lists.specs.Few.{piece_places}
use Rattle.free_pieces.specs.Free.{Lists, free_of}
use Rattle.free_pieces.specs.declared.Free.{Free}
use Rattle.table.specs.Tables.{file_of, pieces_in}
use Rattle.table.specs.declared.Entry.{Entry}
use Rattle.settling.specs.Planning.{CanPlan, Plans, Starts}
use Rattle.settling.specs.declared.Planned.{Planned}
use Rattle.choosing.specs.Counting.{Stored}

module _ (l : Layout) (free : Free) (e : Entry) (s : Stored l free e) where
  -- what freeing its pieces asks for
  pub counted-room : free.count ≤ piece_places
  counted-room = omega (
    arith,
    free-few height_count l (omega arith) s.rules.most_blocks s.rules.free_count,
    ap length s.list,
    s.exact,
  )

  module _ (all : Free) (w : Lists (free.count + e.pieces.count) (insert_all (pieces_in e) (free_of free)) all) where
    released : Starts l.blocks (release (file_of e) l) all
    unfolding release
    released =
        let x = found_find e.id l.files (file_of e) s.there in
        record {
          whole =
              release_whole height_count e.id l (file_of e) x.0
              (sound_sums height_count l (omega arith) s.rules) x.1;
          small = s.rules.most_blocks;
          list = ap (insert_all (pieces_in e)) s.list ∙ sym w.list;
          exact = ap length w.list ∙ (w.exact ∙ sym w.count);
          few = omega (arith, w.count, s.places, counted-room);
        }

    -- what the plan asks for
    pub counted-plan : CanPlan all
    counted-plan = record { blocks = l.blocks; layout = release (file_of e) l; starts = released }

    -- and what it gives
    pub counted-copies : (r : Planned) → Plans all r → r.copied ≡ copies_for height_count l (file_of e)
    unfolding removal
    counted-copies r p =
        p.copies l.blocks (release (file_of e) l) released
        ∙ ap (λ n. length (copies_of (merge_all n height_count (release (file_of e) l))))
        (sym released.exact ∙ ap length (sym released.list))

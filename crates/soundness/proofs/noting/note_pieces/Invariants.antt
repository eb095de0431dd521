-- `soundness::noting::note_pieces` meets its contract: the ids of the files before the entry rise, and their pieces
-- are on the disk and noted. Assumes nothing.
use mathlib.Core.Bool.{true}
use mathlib.Core.Path.{◌≡◌}
use Prim.Native.Nat.{◌*◌, ◌≤◌}
use lib.ListN.{length}
use Rattle.section.specs.Limits.{height_count}
use Rattle.layout.specs.Layout.{file_pieces}
use Rattle.piece_lists.specs.Few.{piece_places}
use Rattle.catalogue.specs.Reading.{every, sound_piece}
use Rattle.soundness.specs.Sharing.{Noted}
use Rattle.soundness.proofs.Joined.{files_to}
use Rattle.soundness.proofs.Tested.{Rising}
use Rattle.soundness.proofs.noting.note_pieces.Given as goal

abbrev pub invariant-loop-entry : goal.invariant-loop-entry
invariant-loop-entry l =
    let noted = file_pieces (files_to l.entry-index l.entry-items) in
    (l.at ≤ piece_places * l.entry-index) × (length noted ≡ l.at)
    × (every (sound_piece height_count l.table.blocks) noted ≡ true) × Noted noted l.firsts l.masks
    × Rising l.entry-items l.entry-index l.last

-- `soundness::noting::note_list` meets its contract: whether all pieces are on the disk is whether those from `i`
-- on are, and those before it are noted after those that were there. Assumes nothing.
use mathlib.Core.List.{List, ◌++◌}
use mathlib.Core.Path.{◌≡◌}
use lib.ListN.{drop, length, take}
use Rattle.section.specs.Limits.{height_count}
use Rattle.section.specs.declared.Section.{Section}
use Rattle.piece.specs.Packed.{seen}
use Rattle.catalogue.specs.Reading.{every, sound_piece}
use Rattle.soundness.specs.Sharing.{Noted}
use Rattle.soundness.proofs.noting.note_list.Given as goal

abbrev pub invariant-loop-i : goal.invariant-loop-i
invariant-loop-i l =
    let p = sound_piece height_count l.blocks in
    (every p (seen l.pieces) ≡ every p (drop l.i (seen l.pieces)))
    × ((m : List Section) → length m ≡ l.at → Noted m l.initial.firsts l.initial.masks
    → Noted (m ++ take l.i (seen l.pieces)) l.firsts l.masks)

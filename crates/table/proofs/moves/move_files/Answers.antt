-- `table::move_files` meets its contract: after i turns the first i files have moved. Assumes nothing.
use Rattle.std.proofs.Common.{◌+◌, ◌≡◌, ◌∙◌, List, refl, subst, sym}
use Rattle.table.proofs.MappedPlaces.{none-not_some}
use Rattle.table.proofs.MapFirst.{file_stays, map_first-next, map_first_all, map_first_more}
use Rattle.table.specs.Files.{no_entry}
use Rattle.table.specs.Moves.{PiecesServed, map_first, moved_entry}
use Rattle.table.specs.Tables.{InPlaces}
use Rattle.table.specs.declared.Entry.{Entry}
use Rattle.table.proofs.moves.move_files.Goals as goal
use Rattle.table.proofs.moves.move_files.Goals.{else-is_some, then-is_some}

pub loop-entry-init : goal.loop-entry-init
loop-entry-init c = refl

pub place_inside-requires-clause-in_places : goal.place_inside-requires-clause-in_places
place_inside-requires-clause-in_places c =
    map_first-next _ {P = InPlaces} _ _ _ no_entry c.loop-entry.invariant c.requires.in_places c.loop-entry-test.true

pub place_inside-requires-clause-pieces_served : goal.place_inside-requires-clause-pieces_served
place_inside-requires-clause-pieces_served c =
    map_first-next _ {P = PiecesServed} _ _ _ no_entry c.loop-entry.invariant c.requires.pieces_served
    c.loop-entry-test.true

pub moved-requires-clause-in_places : goal.moved-requires-clause-in_places
moved-requires-clause-in_places c =
    map_first-next _ {P = InPlaces} _ _ _ no_entry c.loop-entry.invariant c.requires.in_places c.loop-entry-test.true

pub moved-requires-clause-can_move : goal.moved-requires-clause-can_move
moved-requires-clause-can_move c = record {
  from = c.requires.addressable.0;
  to = c.requires.addressable.1;
  pieces = map_first-next _ {P = PiecesServed} _ _ _ no_entry c.loop-entry.invariant c.requires.pieces_served
      c.loop-entry-test.true;
}

pub loop-entry-preserved : goal.loop-entry-preserved
loop-entry-preserved c =
    let o = c.loop-entry in
    let g = moved_entry c.args.from c.args.to in
    let Next : List Entry → Type 0 = λ l. l ≡ map_first g (o.entry-index + 1) c.args.files.now in
    elim c.if-is_some.branch as (λ _. Next c.if-is_some.entry-items) [
      | then-is_some w ↦ subst Next (sym w.entry-items-is)
          (map_first_more g _ _ _ no_entry _ o.invariant w.moved.ensures)
      | else-is_some w ↦
          let none = none-not_some _ (sym c.is_some.ensures ∙ w.if-is_some.false) in
          subst Next (sym w.entry-items-is)
          (map_first_more g _ _ _ no_entry _ o.invariant
          (sym (file_stays c.args.from c.args.to _ (sym c.place_inside.ensures ∙ none))))
    ]

pub returns : goal.returns
returns c = c.loop-entry.invariant ∙ map_first_all _ _ _ c.loop-entry-test.false

-- `decoder::entries::read_entry` meets its contract: a file that a sound layout can have, or none. Assumes nothing.
use mathlib.Core.Path.{◌∙◌, sym}
use native.Mathlib.Omega.{arith}
use Rattle.decoder.proofs.Places.{ones-fit}
use Rattle.decoder.proofs.Entering.{many_pieces, refused_entry, short_entry, some_entry, unread-entry}
use Rattle.decoder.proofs.entries.read_entry.Goals as goal

pub returns-then-s-front : goal.returns-then-s-front
returns-then-s-front c = short_entry _ _ c.if-s-front.true

pub overflow_cast-count : goal.overflow_cast-count
overflow_cast-count c =
    omega (
      arith,
      ones-fit _ c.read_field-n.result c.requires
          c.read_field-n.ensures.most,
    )

pub returns-then-count-gt-PLACES : goal.returns-then-count-gt-PLACES
returns-then-count-gt-PLACES c =
    many_pieces c.args.width c.args.s.now _ _
    c.read_field-id.ensures
    c.read_field-n.ensures c.if-count-gt-PLACES.true

pub returns-in_err-pairs : goal.returns-in_err-pairs
returns-in_err-pairs c =
    rw c.from_residual.ensures
    (unread-entry c.args.width c.args.s.now _ _ c.read_field-id.ensures c.read_field-n.ensures
    c.in_err-pairs.ensures)

pub returns-then-not-is_file : goal.returns-then-not-is_file
returns-then-not-is_file c =
    refused_entry c.args.width
    c.args.s.now _ _ c.read_field-id.ensures
    c.read_field-n.ensures _ c.in_ok-pairs.ensures
    (sym c.is_file.ensures ∙ c.if-not-is_file.true)

pub returns : goal.returns
returns c =
    some_entry c.args.width c.args.s.now _ _
    c.read_field-id.ensures
    c.read_field-n.ensures _ c.in_ok-pairs.ensures _
    (sym c.is_file.ensures ∙ c.if-not-is_file.false) c.sorted.ensures

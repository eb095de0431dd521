-- What a sound table gives: files that fit the disk, and room for the text. Assumes nothing.
use Rattle.piece.specs.Packed.{seen}
use mathlib.Core.List.{List}
use Prim.Native.Nat.{◌≤◌, ℕ}
use native.Mathlib.Omega.{arith}
use lib.ListN.{length}
use Rattle.piece_lists.specs.Few.{list_of, piece_places}
use Rattle.std.proofs.lemmas.List.{length-take}
use Rattle.section.specs.Limits.{height_count}
use Rattle.layout.proofs.Lists.{each_imp, each_map}
use Rattle.layout.specs.Layout.{File, file_blocks}
use Rattle.layout.specs.Lists.{Each, sum_of}
use Rattle.layout.specs.Sound.{Sound}
use Rattle.manager.specs.Printing.{layout_text}
use Rattle.piece_lists.proofs.EachItem.{each_take}
use Rattle.free_pieces.specs.Free.{free_of, free_places}
use Rattle.table.specs.Tables.{Sized, file_of, files_of, layout_of}
use Rattle.table.specs.declared.Entry.{Entry}
use Rattle.table.specs.declared.Table.{Table}
use Rattle.printing.proofs.TextRoom.{text_length}
use Rattle.texts.specs.Lines.{Room}
use Rattle.printing.specs.Texts.{text_room}

module _ (t : Table) (z : Sized t) (s : Sound height_count (layout_of t)) where
  pub files-fit : sum_of file_blocks (files_of t) ≤ t.blocks
  unfolding layout_of
  files-fit = s.pages_fit

  few_pieces : Each (λ (f : File). length f.pieces ≤ piece_places) (files_of t)
  unfolding files_of list_of
  few_pieces =
      each_map file_of
      (each_imp (λ (a : Entry) h. omega (arith, length-take a.pieces.count (seen a.pieces.items)))
      (each_take t.count z.each))

  few_free : length (free_of t.free) ≤ free_places
  unfolding free_of
  few_free = omega (arith, length-take t.free.count (seen t.free.items))

  pub table-room : (o : List ℕ) → text_room ≤ length o → Room 0 (layout_text (layout_of t)) o
  unfolding layout_of
  table-room o h = record { fits = omega (arith, text_length (layout_of t) s.most_files few_pieces few_free) }

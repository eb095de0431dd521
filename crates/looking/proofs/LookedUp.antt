-- The file that a look-up finds: what is known of it in a loaded table. Assumes nothing.
use mathlib.Core.Bool.{false}
use mathlib.Core.List.{List}
use mathlib.Core.Path.{◌∙◌, ◌≡◌, ap, sym}
use Prim.Native.Nat.{◌*◌, ◌≤◌, ℕ}
use native.Mathlib.Omega.{arith}
use lib.ListN.{length}
use Rattle.blocks.proofs.DiskFits.{entry_on_disk}
use Rattle.blocks.specs.DiskCode.{EntryFits}
use Rattle.looking.specs.Opened.{Opened}
use Rattle.layout.proofs.Finding.{find_each, find_file_lem, found_find}
use Rattle.layout.proofs.Lists.{each_imp, each_left}
use Rattle.layout.proofs.LookingUp.{sound_rises}
use Rattle.layout.specs.Layout.{File, OnDisk, block_count, file_blocks, file_pieces, find_file, found, has_file}
use Rattle.layout.specs.Layout.{is_found}
use Rattle.layout.specs.Layout.{missing}
use Rattle.layout.specs.Lists.{Each}
use Rattle.layout.specs.LookingUp.{ByRisingId}
use Rattle.layout.specs.Removals.{Find}
use Rattle.section.specs.Limits.{block_size, greatest_disk}
use Rattle.section.specs.Sections.{Addressable}
use Rattle.piece_lists.proofs.EachItem.{each_get, each_taken}
use Rattle.table.proofs.LookUps.{look_up_file}
use Rattle.table.proofs.ReadyPairs.{served}
use Rattle.table.proofs.Released.{find_at}
use Rattle.table.specs.Files.{entry_at, no_entry}
use Rattle.table.specs.LookUps.{FirstOf, LooksUp, found_at}
use Rattle.piece_lists.specs.Few.{piece_places}
use Rattle.table.specs.Tables.{InPlaces, file_of, files_of, layout_of, pieces_in}
use Rattle.std.specs.Prelude.{None, Some}
use Rattle.table.specs.declared.LookedUp.{LookedUp}
use Rattle.table.specs.declared.Table.{Table}
use Rattle.pieces.proofs.SoundPieces.{files-low}
use Rattle.pieces.specs.Pieces.{LowEntry}

-- its files stand by rising id
pub opened_rises : (t : Table) → Opened t → ByRisingId (files_of t)
unfolding layout_of
opened_rises t opened = sound_rises opened.rules

-- the result of a look-up: none, or the first file of the id
module _ (t : Table) (opened : Opened t) (id : ℕ) (r : LookedUp) (looked : LooksUp t id r) where
  pub looked_missing : r.file ≡ None → find_file id (layout_of t).files ≡ missing
  unfolding layout_of
  looked_missing e = sym (look_up_file t id r (opened_rises t opened) looked) ∙ ap (found_at t) e

  -- no file has the id
  pub looked_fresh : r.file ≡ None → has_file id (layout_of t).files ≡ false
  looked_fresh e = ap is_found (looked_missing e)

  pub looked_first : {i : ℕ} → r.file ≡ Some i → FirstOf t id i
  looked_first {i} e = looked.place i e

-- the first file of an id
module _ (t : Table) (opened : Opened t) (id i : ℕ) (x : FirstOf t id i) where
  room : t.count ≤ length t.files
  room = omega (arith, opened.array, opened.sized.files)

  pub looked_found : find_file id (layout_of t).files ≡ found (file_of (entry_at t i))
  unfolding layout_of
  looked_found = find_at t id i room x.first x.within

  pub looked_count : (entry_at t i).pieces.count ≤ piece_places
  looked_count = each_get {P = InPlaces} i no_entry opened.sized.each (omega (arith, room, x.within))

  looked_rest : (r : List File) × Find id (layout_of t).files (file_of (entry_at t i)) r
  looked_rest = found_find id (layout_of t).files (file_of (entry_at t i)) looked_found

  -- it has a block
  pub looked_some : 1 ≤ block_count (pieces_in (entry_at t i))
  looked_some = find_file_lem {P = λ (f : File). 1 ≤ file_blocks f} looked_rest.1 opened.rules.some_pages

  looked_disk : Each (OnDisk t.blocks) (pieces_in (entry_at t i))
  unfolding layout_of
  looked_disk =
      (find_each looked_rest.1
      (each_left (file_pieces (layout_of t).files) (layout_of t).free opened.rules.on_disk)).0

  small : t.blocks ≤ greatest_disk
  unfolding layout_of
  small = opened.rules.most_blocks

  -- what the breaks of its pieces ask for
  pub looked_served : Each Addressable (pieces_in (entry_at t i))
  looked_served = each_imp (served t.blocks small) looked_disk

  -- what the functions on blocks ask for
  pub looked_fits : EntryFits (block_size * t.blocks) (entry_at t i)
  looked_fits = entry_on_disk t.blocks (entry_at t i) small looked_count looked_disk

  -- what the sum of its lengths asks for
  pub looked_low : LowEntry (entry_at t i)
  looked_low =
      each_taken {P = LowEntry} t.files t.count i no_entry room
      (files-low t opened.sized opened.rules).each x.within

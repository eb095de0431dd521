-- How a row of the table of cases is computed: it starts from a format or from a given layout, makes its calls by
-- the definitions of `Outcomes`, and shows replies, outputs, copies, the layout that is read afterwards, breaks,
-- pages and blocks. Definitions only.
use Rattle.std.specs.Prelude.{◌&&◌, cond, List, [], ◌++◌, ◌∷◌, map, ◌+◌, ◌/◌, suc, zero, ℕ, eqb, drop, length}
use Rattle.std.specs.Prelude.{replicate, take}
use Rattle.std.specs.Int.Count.{ones, ones_in}
use Rattle.catalogue.specs.Encoding.{big_endian, encode, entries_bytes, entry_bytes, header_bytes, pair_bytes}
use Rattle.catalogue.specs.Encoding.{pairs_bytes, used_bytes}
use Rattle.catalogue.specs.Reading.{Reading, every, file_read, is_sound, judged, pairwise, read_catalogue, read_entries}
use Rattle.catalogue.specs.Reading.{read_entry, read_from, read_header, read_layout, read_pair, read_pairs, sound}
use Rattle.catalogue.specs.Reading.{unsound}
use Rattle.catalogue.specs.Version.{version_for, version_of}
use Rattle.catalogue.specs.declared.Version.{Version}
use Rattle.layout.specs.Adding.{allocate, take_first, take_piece}
use Rattle.layout.specs.Helping.{candidates_of, helping_ids}
use Rattle.layout.specs.Layout.{File, Found, Layout, block_run, blocks_of, breaks_of, file_pieces, find_file, found}
use Rattle.layout.specs.Layout.{fresh_layout, in_range, missing, pieces_from}
use Rattle.layout.specs.Lists.{insert_by, sort_by}
use Rattle.layout.specs.Removing.{Copy, buddy_pair, copies_from, copies_of, copy_run, insert_all, layout_after}
use Rattle.layout.specs.Removing.{lowest_two}
use Rattle.layout.specs.Removing.{merge, merge_all, merge_pair, next_merge, release, removal, without_file}
use Rattle.case_table.specs.CaseRows.{FileSeen, Row, Seen, Start, filled_blocks, fresh_disk, given_layout}
use Rattle.case_table.specs.CaseRows.{untouched}
use Rattle.manager.specs.Call.{Call, add, breaks, check, free, read, remove, replace, which}
use Rattle.manager.specs.Conditions.{Outcome, Reply, answered, first_refusal, fits_already, refused}
use Rattle.manager.specs.Disk.{cut_pages, join_pages, pages_on, run_copies, write_pages}
use Rattle.manager.specs.Outcomes.{add_in, breaks_in, breaks_reply, check_in, format_in, format_outcome, free_in}
use Rattle.manager.specs.Outcomes.{perform}
use Rattle.manager.specs.Outcomes.{read_in, remove_in, replace_outcome, which_in}
use Rattle.quality.specs.Letters.{first_letter, rank_of}
use Rattle.section.specs.Limits.{height_count}
use Rattle.section.specs.Heights.{height_of}
use Rattle.section.specs.Sections.{buddy_first, is_aligned, is_inside, is_on_disk, moved_into, parent_first}
use Rattle.section.specs.Sections.{shares_block}

-- ---- blocks

-- x if p is a whole block filled with x; else 256, which is no byte
abbrev pub if_filled_with : ℕ → List ℕ → ℕ
if_filled_with x p = cond (eqb (length p) 512 && every (eqb x) p) x 256

-- the byte that a block is filled with
abbrev pub byte_of : List ℕ → ℕ
byte_of [] = 256
byte_of (x ∷ p) = if_filled_with x (x ∷ p)

-- the first n blocks of a buffer
abbrev pub first_blocks : ℕ → List ℕ → List (List ℕ)
first_blocks zero bs = []
first_blocks (suc n) bs = take 512 bs ∷ first_blocks n (drop 512 bs)

-- the bytes of a disk's blocks, one for each; a last block that is not whole shows as 256
abbrev pub bytes_of_blocks : List ℕ → List ℕ
bytes_of_blocks bs = map byte_of (first_blocks ((length bs + 511) / 512) bs)

-- ---- what is shown

-- each call, format first; the copies of the last removal or replacement, none if it was refused; afterwards the
-- layout that is read from the catalogue, its files, and the disk's blocks, one byte for each
pub record Shown : Type 0 where
  pub replies : List Seen
  pub copies : List Copy
  pub layout : Reading
  pub files : List FileSeen
  pub disk : List ℕ

-- what a row is expected to show
abbrev pub expected : Row → Shown
expected r =
    record {
      replies = r.replies;
      copies = r.copies;
      layout = sound r.layout;
      files = r.files;
      disk = r.disk;
    }

-- ---- the calls of a row

-- a call; who unfolds this unfolds every definition that computing a call takes
unfoldable pub performed : Call → List ℕ → List ℕ → Outcome
unfolding ones_in ones buddy_first parent_first is_aligned is_on_disk shares_block is_inside moved_into take_first take_piece
    allocate file_pieces block_run blocks_of breaks_of find_file in_range pieces_from fresh_layout insert_by sort_by copy_run
    copies_from buddy_pair lowest_two merge_pair merge next_merge merge_all copies_of layout_after insert_all without_file
    release removal big_endian pair_bytes pairs_bytes entry_bytes entries_bytes header_bytes used_bytes encode every pairwise
    is_sound read_from read_pair read_pairs file_read read_entry read_entries read_header read_layout judged read_catalogue
    pages_on cut_pages join_pages write_pages run_copies first_refusal format_in add_in remove_in read_in breaks_in free_in
    check_in replace_outcome version_for height_of first_letter rank_of candidates_of helping_ids which_in
performed c cat d = perform c cat d

-- the buffers, and what was seen so far
pub record State : Type 0 where
  pub replies : List Seen
  pub copies : List Copy
  pub catalogue : List ℕ
  pub disk : List ℕ

-- the copies of the removal of a file that is there
abbrev pub copies_of_found : Layout → Found → List Copy
copies_of_found l (found f) = copies_of (removal height_count f l)
copies_of_found l missing = []

-- the copies of the removal of an id
abbrev pub copies_on_reading : ℕ → Reading → List Copy
copies_on_reading i (sound l) = copies_of_found l (find_file i l.files)
copies_on_reading i unsound = []

-- the copies of a removal that gets this reply; none says that something fits already
abbrev pub copies_made : Reply → List Copy → List Copy
copies_made (answered n) cs = cs
copies_made (refused n) cs = []
copies_made fits_already cs = []

-- the copies of the last removal, a replacement's too, after one more call and its reply
abbrev pub last_copies : Call → Reply → List ℕ → List Copy → List Copy
last_copies (add i bs) r cat cs = cs
last_copies (remove i) r cat cs = copies_made r (copies_on_reading i (read_catalogue (version_of cat) cat))
last_copies (replace i bs) r cat cs = copies_made r (copies_on_reading i (read_catalogue (version_of cat) cat))
last_copies (read i p o) r cat cs = cs
last_copies (breaks i) r cat cs = cs
last_copies (which n o) r cat cs = cs
last_copies free r cat cs = cs
last_copies check r cat cs = cs

-- the state after a call
abbrev pub after_call : Outcome → List Copy → State → State
after_call x cs s =
    record {
      replies = s.replies ++ (record { reply = x.reply; output = x.output }) ∷ [];
      copies = cs;
      catalogue = x.catalogue;
      disk = x.disk;
    }

-- the state after a list of calls, made one by one
abbrev pub after_calls : List Call → State → State
after_calls [] s = s
after_calls (c ∷ l) s =
    let x : Outcome = performed c s.catalogue s.disk in
    after_calls l (after_call x (last_copies c x.reply s.catalogue s.copies) s)

-- format gets a catalogue buffer and a disk of other bytes; a given layout's block x is filled with the byte x
abbrev pub start_state : Version → Start → State
start_state v (fresh_disk c) =
    after_call (format_outcome (replicate v.bytes 255) (untouched c)) []
    (record { replies = []; copies = []; catalogue = []; disk = [] })
start_state v (given_layout l) =
    record { replies = []; copies = []; catalogue = encode v l; disk = filled_blocks 0 l.blocks }

-- ---- what a state shows

-- a file of the layout that was read
abbrev pub seen_file : List ℕ → List ℕ → File → FileSeen
seen_file cat d f =
    record {
      id = f.id;
      breaks_replied = breaks_reply f.id cat;
      blocks = blocks_of f.pieces;
      pages = map byte_of (pages_on d f.pieces);
    }

-- all its files
abbrev pub seen_files : List ℕ → List ℕ → Reading → List FileSeen
seen_files cat d (sound l) = map (seen_file cat d) l.files
seen_files cat d unsound = []

-- everything that is compared
abbrev pub shown_by : State → Shown
shown_by s =
    let reading : Reading = read_catalogue (version_of s.catalogue) s.catalogue in
    record {
      replies = s.replies;
      copies = s.copies;
      layout = reading;
      files = seen_files s.catalogue s.disk reading;
      disk = bytes_of_blocks s.disk;
    }

-- a row, computed in a version
abbrev pub computed : Version → Row → Shown
computed v r = shown_by (after_calls r.calls (start_state v r.start))

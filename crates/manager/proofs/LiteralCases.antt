-- A list of calls on a disk of five blocks and every refusal, computed from literal bytes with the small catalogue, so
-- that the definitions are pinned within this crate; replacements are in `LiteralReplacements`, and what `which` gives
-- in `LiteralWhich`. The table of all cases, in both versions, is the crate `case_table`. Assumes nothing.
use mathlib.Core.List.{List, [], ◌++◌, ◌∷◌, map}
use mathlib.Core.Path.{◌≡◌, refl}
use Prim.Native.Nat.{◌-◌, suc, zero, ℕ}
use lib.Count.{ones, ones_in}
use lib.ListN.{length, replicate}
use Rattle.catalogue.specs.Encoding.{big_endian, encode, entries_bytes, entry_bytes, header_bytes, pair_bytes}
use Rattle.catalogue.specs.Encoding.{pairs_bytes, used_bytes}
use Rattle.catalogue.specs.Reading.{every, file_read, is_sound, judged, pairwise, read_catalogue, read_entries}
use Rattle.catalogue.specs.Reading.{read_entry, read_from, read_header, read_layout, read_pair, read_pairs}
use Rattle.catalogue.specs.Version.{version_for}
use Rattle.layout.specs.Adding.{allocate, take_first, take_piece}
use Rattle.layout.specs.Helping.{candidates_of, helping_ids}
use Rattle.layout.specs.Layout.{block_run, blocks_of, breaks_of, file_pieces, find_file, fresh_layout, in_range, pieces_from}
use Rattle.layout.specs.Lists.{insert_by, sort_by}
use Rattle.layout.specs.Removing.{buddy_pair, copies_from, copies_of, copy_run, insert_all, layout_after, lowest_two}
use Rattle.layout.specs.Removing.{merge, merge_all, merge_pair, next_merge, release, removal, without_file}
use Rattle.manager.specs.Call.{Call, add, breaks, check, free, read, remove, replace, which}
use Rattle.manager.specs.Conditions.{Outcome, answered, first_refusal, outcome, refused}
use Rattle.manager.specs.Disk.{cut_pages, join_pages, pages_on, run_copies, write_pages}
use Rattle.manager.specs.Outcomes.{add_in, breaks_in, check_in, format_in, format_outcome, free_in, perform, read_in}
use Rattle.manager.specs.Outcomes.{remove_in, replace_outcome, which_in}
use Rattle.quality.specs.Letters.{first_letter, rank_of}
use Rattle.section.specs.Heights.{height_of}
use Rattle.section.specs.Sections.{buddy_first, is_aligned, is_inside, is_on_disk, moved_into, parent_first}
use Rattle.section.specs.Sections.{shares_block}

-- a call; who unfolds this unfolds every definition that computing a call takes
unfoldable pub computed : Call → List ℕ → List ℕ → Outcome
unfolding ones_in ones buddy_first parent_first is_aligned is_on_disk shares_block is_inside moved_into take_first take_piece
    allocate file_pieces block_run blocks_of breaks_of find_file in_range pieces_from fresh_layout insert_by sort_by copy_run
    copies_from buddy_pair lowest_two merge_pair merge next_merge merge_all copies_of layout_after insert_all without_file
    release removal big_endian pair_bytes pairs_bytes entry_bytes entries_bytes header_bytes used_bytes encode every pairwise
    is_sound read_from read_pair read_pairs file_read read_entry read_entries read_header read_layout judged read_catalogue
    pages_on cut_pages join_pages write_pages run_copies first_refusal format_in add_in remove_in read_in breaks_in free_in
    check_in replace_outcome which_in candidates_of helping_ids version_for height_of first_letter rank_of
computed c cat d = perform c cat d

-- ---- buffers

-- a block for each byte, filled with it
abbrev pub blocks : List ℕ → List ℕ
blocks [] = []
blocks (x ∷ l) = replicate 512 x ++ blocks l

-- a catalogue of n bytes: the used ones, and zero bytes to the end
abbrev pub bytes : ℕ → List ℕ → List ℕ
bytes n used = used ++ replicate (n - length used) 0

-- five blocks, free (0,4) (4,1)
abbrev fresh : List ℕ
fresh = 0 ∷ 1 ∷ 0 ∷ 5 ∷ 0 ∷ 0 ∷ 0 ∷ 0 ∷ 0 ∷ 4 ∷ 0 ∷ 4 ∷ 0 ∷ 1 ∷ []

-- id 1 at (4,1), free (0,4)
abbrev with_one : List ℕ
with_one = 0 ∷ 1 ∷ 0 ∷ 5 ∷ 0 ∷ 1 ∷ 0 ∷ 1 ∷ 0 ∷ 1 ∷ 0 ∷ 4 ∷ 0 ∷ 1 ∷ 0 ∷ 0 ∷ 0 ∷ 4 ∷ []

-- id 1 at (4,1), id 65,535 at (0,2) (2,1), free (3,1)
abbrev pub with_two : List ℕ
with_two =
    0 ∷ 1 ∷ 0 ∷ 5 ∷ 0 ∷ 2 ∷ 0 ∷ 1 ∷ 0 ∷ 1 ∷ 0 ∷ 4 ∷ 0 ∷ 1 ∷ 255 ∷ 255 ∷ 0 ∷ 3 ∷ 0 ∷ 0 ∷ 0 ∷ 2 ∷ 0 ∷ 2 ∷ 0 ∷ 1
    ∷ 0 ∷ 3 ∷ 0 ∷ 1 ∷ []

-- id 65,535 at (0,2) (4,1), free (2,2)
abbrev after_removal : List ℕ
after_removal =
    0 ∷ 1 ∷ 0 ∷ 5 ∷ 0 ∷ 1 ∷ 255 ∷ 255 ∷ 0 ∷ 3 ∷ 0 ∷ 0 ∷ 0 ∷ 2 ∷ 0 ∷ 4 ∷ 0 ∷ 1 ∷ 0 ∷ 2 ∷ 0 ∷ 2 ∷ []

-- the disk before format, and after the adds
abbrev untouched : List ℕ
untouched = blocks (255 ∷ 255 ∷ 255 ∷ 255 ∷ 255 ∷ [])

abbrev pub written : List ℕ
written = blocks (32 ∷ 33 ∷ 34 ∷ 255 ∷ 16 ∷ [])

-- ---- a list of calls

-- format, two adds, reads of parts, breaks, check, a removal that copies the last page of id 65,535, breaks again, and
-- free: the whole outcome of each, on the bytes that the one before it left
pub calls_computed :
    (format_outcome (replicate 4096 255) untouched
    ∷ perform (add 1 (blocks (16 ∷ []))) (bytes 4096 fresh) untouched
    ∷ perform (add 65535 (blocks (32 ∷ 33 ∷ 34 ∷ []))) (bytes 4096 with_one) (blocks (255 ∷ 255 ∷ 255 ∷ 255 ∷ 16 ∷ []))
    ∷ perform (read 65535 0 (replicate 512 0)) (bytes 4096 with_two) written
    ∷ perform (read 65535 1 (replicate 1024 0)) (bytes 4096 with_two) written
    ∷ perform (breaks 65535) (bytes 4096 with_two) written
    ∷ perform check (bytes 4096 with_two) written
    ∷ perform (remove 1) (bytes 4096 with_two) written
    ∷ perform (read 65535 2 (replicate 512 0)) (bytes 4096 after_removal) (blocks (32 ∷ 33 ∷ 34 ∷ 255 ∷ 34 ∷ []))
    ∷ perform (breaks 65535) (bytes 4096 after_removal) (blocks (32 ∷ 33 ∷ 34 ∷ 255 ∷ 34 ∷ []))
    ∷ perform free (bytes 4096 after_removal) (blocks (32 ∷ 33 ∷ 34 ∷ 255 ∷ 34 ∷ []))
    ∷ [])
    ≡ outcome (answered 5) (bytes 4096 fresh) untouched []
    ∷ outcome (answered 1) (bytes 4096 with_one) (blocks (255 ∷ 255 ∷ 255 ∷ 255 ∷ 16 ∷ [])) []
    ∷ outcome (answered 3) (bytes 4096 with_two) written []
    ∷ outcome (answered 1) (bytes 4096 with_two) written (blocks (32 ∷ []))
    ∷ outcome (answered 2) (bytes 4096 with_two) written (blocks (33 ∷ 34 ∷ []))
    ∷ outcome (answered 0) (bytes 4096 with_two) written []
    ∷ outcome (answered 5) (bytes 4096 with_two) written []
    ∷ outcome (answered 1) (bytes 4096 after_removal) (blocks (32 ∷ 33 ∷ 34 ∷ 255 ∷ 34 ∷ [])) []
    ∷ outcome (answered 1) (bytes 4096 after_removal) (blocks (32 ∷ 33 ∷ 34 ∷ 255 ∷ 34 ∷ [])) (blocks (34 ∷ []))
    ∷ outcome (answered 1) (bytes 4096 after_removal) (blocks (32 ∷ 33 ∷ 34 ∷ 255 ∷ 34 ∷ [])) []
    ∷ outcome (answered 2) (bytes 4096 after_removal) (blocks (32 ∷ 33 ∷ 34 ∷ 255 ∷ 34 ∷ [])) []
    ∷ []
unfolding computed
calls_computed = refl

-- a removal that copies a page twice, from block 0 to 2 and on to 6: id 1 at (2,1), id 2 at (0,1), id 3 at (4,2)
-- (3,1), free (1,1) (6,2) on eight blocks; then id 2 at (6,1), id 3 at (4,2) (7,1), free (0,4)
pub removal-computed :
    perform (remove 1)
    (bytes 4096 (0 ∷ 1 ∷ 0 ∷ 8 ∷ 0 ∷ 3 ∷ 0 ∷ 1 ∷ 0 ∷ 1 ∷ 0 ∷ 2 ∷ 0 ∷ 1 ∷ 0 ∷ 2 ∷ 0 ∷ 1 ∷ 0 ∷ 0 ∷ 0 ∷ 1
    ∷ 0 ∷ 3 ∷ 0 ∷ 3 ∷ 0 ∷ 3 ∷ 0 ∷ 1 ∷ 0 ∷ 4 ∷ 0 ∷ 2 ∷ 0 ∷ 1 ∷ 0 ∷ 1 ∷ 0 ∷ 6 ∷ 0 ∷ 2 ∷ []))
    (blocks (0 ∷ 1 ∷ 2 ∷ 3 ∷ 4 ∷ 5 ∷ 6 ∷ 7 ∷ []))
    ≡ outcome (answered 3)
    (bytes 4096 (0 ∷ 1 ∷ 0 ∷ 8 ∷ 0 ∷ 2 ∷ 0 ∷ 2 ∷ 0 ∷ 1 ∷ 0 ∷ 6 ∷ 0 ∷ 1 ∷ 0 ∷ 3 ∷ 0 ∷ 3 ∷ 0 ∷ 4 ∷ 0 ∷ 2 ∷ 0 ∷ 7 ∷ 0 ∷ 1
    ∷ 0 ∷ 0 ∷ 0 ∷ 4 ∷ []))
    (blocks (0 ∷ 1 ∷ 0 ∷ 3 ∷ 4 ∷ 5 ∷ 0 ∷ 3 ∷ [])) []
unfolding computed
removal-computed = refl

-- ---- refusals

-- the caller's output buffer
abbrev lent : Call → List ℕ
lent (add i bs) = []
lent (remove i) = []
lent (replace i bs) = []
lent (read i p o) = o
lent (breaks i) = []
lent (which n o) = o
lent free = []
lent check = []

-- these calls give the number, and leave all buffers
abbrev pub Refuses : List ℕ → List ℕ → ℕ → List Call → Type 0
Refuses cat d n calls = map (λ c. perform c cat d) calls ≡ map (λ c. outcome (refused n) cat d (lent c)) calls

-- a call of each kind that gets the disk and is answered on the right buffers; of every kind; and such with id 0
abbrev on_disk : List Call
on_disk =
    add 3 (replicate 512 0) ∷ remove 1 ∷ replace 1 (replicate 512 82) ∷ read 65535 0 (replicate 512 0) ∷ check ∷ []

abbrev plain : List Call
plain = breaks 65535 ∷ which 2 (replicate 64 7) ∷ free ∷ on_disk

abbrev zeros : List Call
zeros = add 0 [] ∷ remove 0 ∷ replace 0 [] ∷ read 0 0 [] ∷ []

-- catalogues of 4,095 and 4,097 bytes; one with a byte after its end; disks one byte shorter and longer than five
-- blocks; and the lowest number where more than one applies
pub buffers_refused :
    Refuses (bytes 4095 with_two) written 1 plain × Refuses (bytes 4097 with_two) written 1 plain
    × Refuses (replicate 4097 255) (replicate 2559 0) 1 (which 0 [] ∷ zeros)
    × Refuses (bytes 4095 with_two ++ 1 ∷ []) written 3 plain
    × Refuses (bytes 4095 with_two ++ 1 ∷ []) (replicate 2559 0) 3 (which 0 [] ∷ zeros)
    × Refuses (bytes 4096 with_two) (replicate 2559 0) 4 on_disk
    × Refuses (bytes 4096 with_two) (replicate 2561 0) 4 on_disk
    × Refuses (bytes 4096 with_two) (replicate 2561 0) 4 zeros
unfolding computed
buffers_refused = (refl, refl, refl, refl, refl, refl, refl, refl)

-- ids, contents and outputs of 0, 511 and 513 bytes, pages past the end, more pages than are free
pub arguments_refused :
    Refuses (bytes 4096 with_two) written 5 (breaks 0 ∷ zeros)
    × Refuses (bytes 4096 with_two) written 6 (remove 3 ∷ read 3 0 [] ∷ breaks 3 ∷ [])
    × Refuses (bytes 4096 with_two) written 7 (add 65535 [] ∷ add 1 (replicate 1024 0) ∷ [])
    × Refuses (bytes 4096 with_two) written 8
    (add 3 [] ∷ add 3 (replicate 511 0) ∷ add 3 (replicate 513 0) ∷ add 3 (replicate 1025 0) ∷ read 65535 9 []
    ∷ read 65535 0 (replicate 511 0) ∷ read 65535 0 (replicate 513 0) ∷ [])
    × Refuses (bytes 4096 with_two) written 9 (read 65535 3 (replicate 512 0) ∷ read 65535 2 (replicate 1024 0) ∷ [])
    × Refuses (bytes 4096 with_two) written 11 (add 3 (replicate 1024 0) ∷ [])
unfolding computed
arguments_refused = (refl, refl, refl, refl, refl, refl)

-- the entries of n files of one block: id i + 1 at block i, and so on
abbrev pub entries : ℕ → ℕ → List ℕ
entries i zero = []
entries i (suc n) = 0 ∷ suc i ∷ 0 ∷ 1 ∷ 0 ∷ i ∷ 0 ∷ 1 ∷ entries (suc i) n

-- with 63 files there the 64th passes, and with 64 the 65th gives 10, also if it does not fit
pub files_limited :
    ((perform (add 64 (replicate 512 0))
    (bytes 4096 (0 ∷ 1 ∷ 0 ∷ 64 ∷ 0 ∷ 63 ∷ (entries 0 63 ++ 0 ∷ 63 ∷ 0 ∷ 1 ∷ []))) (replicate 32768 0)).reply
    ≡ answered 1)
    × Refuses (bytes 4096 (0 ∷ 1 ∷ 0 ∷ 65 ∷ 0 ∷ 64 ∷ (entries 0 64 ++ 0 ∷ 64 ∷ 0 ∷ 1 ∷ []))) (replicate 33280 0) 10
    (add 65 (replicate 512 0) ∷ add 65 (replicate 1024 0) ∷ [])
unfolding computed
files_limited = (refl, refl)

-- a format with a catalogue of 4,095 or 4,097 bytes gives 1, and one on a disk of 0, 511 or 513 bytes gives 2
pub formats_refused :
    (map (λ n. format_outcome (replicate n 255) untouched) (4095 ∷ 4097 ∷ [])
    ≡ map (λ n. outcome (refused 1) (replicate n 255) untouched []) (4095 ∷ 4097 ∷ []))
    × (map (λ n. format_outcome (bytes 4096 fresh) (replicate n 0)) (0 ∷ 511 ∷ 513 ∷ [])
    ≡ map (λ n. outcome (refused 2) (bytes 4096 fresh) (replicate n 0) []) (0 ∷ 511 ∷ 513 ∷ []))
unfolding computed
formats_refused = (refl, refl)

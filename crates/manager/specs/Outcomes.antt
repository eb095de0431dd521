-- The outcome of each call on bytes: document 01, "Calls", "Adding" and "Removing"; document 02, W1 and W4.
-- Definitions only.
-- A refusal at a place that the conditions never let a call reach is marked so.
use Rattle.std.specs.Prelude.{cond, List, [], ◌++◌, ◌-◌, ℕ, leb, drop, length, replicate, take}
use Rattle.catalogue.specs.Encoding.{encode}
use Rattle.catalogue.specs.Reading.{Reading, read_catalogue, sound, unsound}
use Rattle.catalogue.specs.Version.{version_for, version_of}
use Rattle.catalogue.specs.declared.Version.{Version}
use Rattle.section.specs.Limits.{height_count, most_files}
use Rattle.layout.specs.Adding.{Allocated, allocate, allocated, too_few, with_file}
use Rattle.layout.specs.Layout.{Found, Layout, blocks_of, breaks_of, find_file, found, free_blocks, fresh_layout}
use Rattle.layout.specs.Layout.{missing}
use Rattle.layout.specs.Helping.{helping_ids}
use Rattle.layout.specs.Removing.{Merge, copies_of, layout_after, release, removal}
use Rattle.manager.specs.Call.{Call, add, breaks, check, free, read, remove, replace, which}
use Rattle.manager.specs.Conditions.{Outcome, Reply, add_conditions, answered, breaks_conditions}
use Rattle.manager.specs.Conditions.{check_conditions, first_refusal, fits_already, format_conditions}
use Rattle.manager.specs.Conditions.{free_conditions, outcome}
use Rattle.manager.specs.Conditions.{read_conditions, refused, remove_conditions, replace_conditions, reply_unless}
use Rattle.manager.specs.Conditions.{unless_refused, which_conditions}
use Rattle.manager.specs.Disk.{cut_pages, join_pages, page_count, pages_on, run_copies, write_pages}

-- ---- what is done

-- the catalogue with the file's pieces, and each page written; never too few: condition 11
abbrev pub add_pieces : Version → ℕ → List ℕ → List ℕ → List ℕ → Layout → Allocated → Outcome
add_pieces v i bs cat d l (allocated s r) =
    outcome
    (answered (page_count bs))
    (encode v (with_file i s r l))
    (write_pages d (blocks_of s) (cut_pages (page_count bs) bs))
    []
add_pieces v i bs cat d l too_few = outcome (refused 11) cat d []

-- never unsound: condition 3
abbrev pub do_add : Version → ℕ → List ℕ → List ℕ → List ℕ → Reading → Outcome
do_add v i bs cat d (sound l) = add_pieces v i bs cat d l (allocate 0 height_count (page_count bs) l.free)
do_add v i bs cat d unsound = outcome (refused 3) cat d []

-- the merges' copies made on the disk, and counted
abbrev pub after_merges : Version → Layout → List ℕ → List Merge → Outcome
after_merges v l d ms =
    outcome (answered (length (copies_of ms))) (encode v (layout_after l ms)) (run_copies d (copies_of ms)) []

-- never missing: condition 6
abbrev pub remove_found : Version → List ℕ → List ℕ → Layout → Found → Outcome
remove_found v cat d l (found f) = after_merges v (release f l) d (removal height_count f l)
remove_found v cat d l missing = outcome (refused 6) cat d []

abbrev pub do_remove : Version → ℕ → List ℕ → List ℕ → Reading → Outcome
do_remove v i cat d (sound l) = remove_found v cat d l (find_file i l.files)
do_remove v i cat d unsound = outcome (refused 3) cat d []

-- the pages from p on, as many as the output has
abbrev pub read_found : ℕ → List ℕ → List ℕ → List ℕ → Found → Outcome
read_found p o cat d (found f) =
    outcome (answered (page_count o)) cat d (join_pages (take (page_count o) (drop p (pages_on d f.pieces))))
read_found p o cat d missing = outcome (refused 6) cat d o

abbrev pub do_read : ℕ → ℕ → List ℕ → List ℕ → List ℕ → Reading → Outcome
do_read i p o cat d (sound l) = read_found p o cat d (find_file i l.files)
do_read i p o cat d unsound = outcome (refused 3) cat d o

abbrev pub breaks_found : Found → Reply
breaks_found (found f) = answered (breaks_of f.pieces)
breaks_found missing = refused 6

abbrev pub do_breaks : ℕ → Reading → Reply
do_breaks i (sound l) = breaks_found (find_file i l.files)
do_breaks i unsound = refused 3

-- a list of 64 places: these numbers, then zeros
abbrev pub then_zeros : List ℕ → List ℕ
then_zeros ids = ids ++ replicate (most_files - length ids) 0

-- the ids of the files whose removal lets n blocks in; only zeros if n blocks fit already
abbrev pub help_for : ℕ → List ℕ → List ℕ → Layout → Outcome
help_for n cat d l =
    cond (leb n (free_blocks l))
    (outcome fits_already cat d (then_zeros []))
    (outcome (answered (length (helping_ids height_count n l))) cat d (then_zeros (helping_ids height_count n l)))

abbrev pub do_which : ℕ → List ℕ → List ℕ → List ℕ → Reading → Outcome
do_which n o cat d (sound l) = help_for n cat d l
do_which n o cat d unsound = outcome (refused 3) cat d o

abbrev pub do_free : Reading → Reply
do_free (sound l) = answered (free_blocks l)
do_free unsound = refused 3

abbrev pub do_check : Reading → Reply
do_check (sound l) = answered l.blocks
do_check unsound = refused 3

-- ---- the calls, in a catalogue of version v

-- no file, free pairs for the ones of C, and the disk untouched
unfoldable pub format_in : Version → List ℕ → List ℕ → Outcome
format_in v cat d =
    unless_refused (first_refusal (format_conditions v cat d)) cat d []
    (outcome (answered (page_count d)) (encode v (fresh_layout height_count (page_count d))) d [])

unfoldable pub add_in : Version → ℕ → List ℕ → List ℕ → List ℕ → Outcome
add_in v i bs cat d =
    unless_refused (first_refusal (add_conditions v i bs cat d)) cat d [] (do_add v i bs cat d (read_catalogue v cat))

unfoldable pub remove_in : Version → ℕ → List ℕ → List ℕ → Outcome
remove_in v i cat d =
    unless_refused (first_refusal (remove_conditions v i cat d)) cat d [] (do_remove v i cat d (read_catalogue v cat))

unfoldable pub read_in : Version → ℕ → ℕ → List ℕ → List ℕ → List ℕ → Outcome
read_in v i p o cat d =
    unless_refused (first_refusal (read_conditions v i p o cat d)) cat d o (do_read i p o cat d (read_catalogue v cat))

-- breaks and free see the catalogue alone
unfoldable pub breaks_in : Version → ℕ → List ℕ → Reply
breaks_in v i cat = reply_unless (first_refusal (breaks_conditions v i cat)) (do_breaks i (read_catalogue v cat))

-- `which` sees the catalogue alone too: whatever disk there is stays as it is
unfoldable pub which_in : Version → ℕ → List ℕ → List ℕ → List ℕ → Outcome
which_in v n o cat d =
    unless_refused (first_refusal (which_conditions v n o cat)) cat d o (do_which n o cat d (read_catalogue v cat))

unfoldable pub free_in : Version → List ℕ → Reply
free_in v cat = reply_unless (first_refusal (free_conditions v cat)) (do_free (read_catalogue v cat))

unfoldable pub check_in : Version → List ℕ → List ℕ → Reply
check_in v cat d = reply_unless (first_refusal (check_conditions v cat d)) (do_check (read_catalogue v cat))

-- ---- the calls: the version is that of the catalogue, and format's is picked by the buffer's length

abbrev pub format_outcome : List ℕ → List ℕ → Outcome
format_outcome cat d = format_in (version_for (length cat)) cat d

abbrev pub add_outcome : ℕ → List ℕ → List ℕ → List ℕ → Outcome
add_outcome i bs cat d = add_in (version_of cat) i bs cat d

abbrev pub remove_outcome : ℕ → List ℕ → List ℕ → Outcome
remove_outcome i cat d = remove_in (version_of cat) i cat d

-- past its conditions a replacement is a removal, and then an add on what that leaves; the reply is the removal's
abbrev pub remove_then_add : ℕ → List ℕ → List ℕ → List ℕ → Outcome
remove_then_add i bs cat d =
    let removed : Outcome = remove_outcome i cat d in
    let added : Outcome = add_outcome i bs removed.catalogue removed.disk in
    outcome removed.reply added.catalogue added.disk []

unfoldable pub replace_outcome : ℕ → List ℕ → List ℕ → List ℕ → Outcome
replace_outcome i bs cat d =
    unless_refused (first_refusal (replace_conditions (version_of cat) i bs cat d)) cat d [] (remove_then_add i bs cat d)

abbrev pub read_outcome : ℕ → ℕ → List ℕ → List ℕ → List ℕ → Outcome
read_outcome i p o cat d = read_in (version_of cat) i p o cat d

abbrev pub breaks_reply : ℕ → List ℕ → Reply
breaks_reply i cat = breaks_in (version_of cat) i cat

abbrev pub free_reply : List ℕ → Reply
free_reply cat = free_in (version_of cat) cat

abbrev pub check_reply : List ℕ → List ℕ → Reply
check_reply cat d = check_in (version_of cat) cat d

-- breaks and free get no disk
abbrev pub breaks_outcome : ℕ → List ℕ → Outcome
breaks_outcome i cat = outcome (breaks_reply i cat) cat [] []

abbrev pub free_outcome : List ℕ → Outcome
free_outcome cat = outcome (free_reply cat) cat [] []

-- nor does `which`
abbrev pub which_outcome : ℕ → List ℕ → List ℕ → Outcome
which_outcome n o cat = which_in (version_of cat) n o cat []

abbrev pub check_outcome : List ℕ → List ℕ → Outcome
check_outcome cat d = outcome (check_reply cat d) cat d []

-- a call of a list; the disk that breaks, which and free do not get stays as it is
abbrev pub perform : Call → List ℕ → List ℕ → Outcome
perform (add i bs) cat d = add_outcome i bs cat d
perform (remove i) cat d = remove_outcome i cat d
perform (replace i bs) cat d = replace_outcome i bs cat d
perform (read i p o) cat d = read_outcome i p o cat d
perform (breaks i) cat d = outcome (breaks_reply i cat) cat d []
perform (which n o) cat d = which_in (version_of cat) n o cat d
perform free cat d = outcome (free_reply cat) cat d []
perform check cat d = check_outcome cat d

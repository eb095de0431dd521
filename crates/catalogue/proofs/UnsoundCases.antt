-- Small catalogues that break a rule are not sound: the rows of UnsoundRows, and those in which the versions differ.
-- The large ones are computed in the crate `case_table`. Assumes nothing.
use mathlib.Core.List.{List, [], ◌∷◌, map}
use mathlib.Core.Path.{◌≡◌, refl}
use lib.Count.{ones, ones_in}
use Rattle.catalogue.specs.Reading.{Reading, every, file_read, is_sound, judged, pairwise, read_catalogue}
use Rattle.catalogue.specs.Reading.{read_entries, read_entry, read_from, read_header, read_layout, read_pair}
use Rattle.catalogue.specs.Reading.{read_pairs}
use Rattle.catalogue.specs.Reading.{unsound}
use Rattle.catalogue.specs.UnsoundRows.{end_rows, entry_rows, free_rows, header_rows, section_rows, shared_rows}
use Rattle.catalogue.specs.Version.{version1}
use Rattle.catalogue.specs.WrittenFields.{Field, row, small, small_numbered, whole_disk_free, written, written_to}
use Rattle.layout.specs.Layout.{file_pieces}
use Rattle.layout.specs.Lists.{insert_by, sort_by}
use Rattle.section.specs.Heights.{height_of}
use Rattle.section.specs.Sections.{is_aligned, is_on_disk, shares_block}

abbrev Unsound : {A : Type 0} → (A → Reading) → List A → Type 0
Unsound reading rows = map reading rows ≡ map (λ a. unsound) rows

-- none of the rows is sound
abbrev SmallUnsound : List (List Field) → Type 0
SmallUnsound rows = Unsound (λ l. read_catalogue version1 (written small l)) rows

-- a version other than 1
pub number_unsound :
    Unsound (λ n. read_catalogue version1 (written (small_numbered n) whole_disk_free)) (0 ∷ 2 ∷ 3 ∷ [])
unfolding read_catalogue judged read_layout read_header read_entries read_entry file_read read_pairs read_pair read_from every
    pairwise is_sound is_on_disk is_aligned shares_block file_pieces insert_by sort_by height_of ones ones_in
number_unsound = refl

-- a block more than the greatest disk; version 2's is in GreatestDisk
pub greatest_disk_unsound :
    read_catalogue version1 (written small (row 4097 0 [] ((0, 4096) ∷ (4096, 1) ∷ []))) ≡ unsound
unfolding read_catalogue judged read_layout read_header read_entries read_entry file_read read_pairs read_pair read_from every
    pairwise is_sound is_on_disk is_aligned shares_block file_pieces insert_by sort_by height_of ones ones_in
greatest_disk_unsound = refl

pub header_unsound : SmallUnsound header_rows
unfolding read_catalogue judged read_layout read_header read_entries read_entry file_read read_pairs read_pair read_from every
    pairwise is_sound is_on_disk is_aligned shares_block file_pieces insert_by sort_by height_of ones ones_in
header_unsound = refl

pub entry_unsound : SmallUnsound entry_rows
unfolding read_catalogue judged read_layout read_header read_entries read_entry file_read read_pairs read_pair read_from every
    pairwise is_sound is_on_disk is_aligned shares_block file_pieces insert_by sort_by height_of ones ones_in
entry_unsound = refl

pub section_unsound : SmallUnsound section_rows
unfolding read_catalogue judged read_layout read_header read_entries read_entry file_read read_pairs read_pair read_from every
    pairwise is_sound is_on_disk is_aligned shares_block file_pieces insert_by sort_by height_of ones ones_in
section_unsound = refl

pub free_unsound : SmallUnsound free_rows
unfolding read_catalogue judged read_layout read_header read_entries read_entry file_read read_pairs read_pair read_from every
    pairwise is_sound is_on_disk is_aligned shares_block file_pieces insert_by sort_by height_of ones ones_in
free_unsound = refl

pub shared_unsound : SmallUnsound shared_rows
unfolding read_catalogue judged read_layout read_header read_entries read_entry file_read read_pairs read_pair read_from every
    pairwise is_sound is_on_disk is_aligned shares_block file_pieces insert_by sort_by height_of ones ones_in
shared_unsound = refl

pub end_unsound : SmallUnsound end_rows
unfolding read_catalogue judged read_layout read_header read_entries read_entry file_read read_pairs read_pair read_from every
    pairwise is_sound is_on_disk is_aligned shares_block file_pieces insert_by sort_by height_of ones ones_in
end_unsound = refl

-- the last byte of the buffer is 1
pub last_byte_unsound : read_catalogue version1 (written_to small whole_disk_free (1 ∷ [])) ≡ unsound
unfolding read_catalogue judged read_layout read_header read_entries read_entry file_read read_pairs read_pair read_from every
    pairwise is_sound is_on_disk is_aligned shares_block file_pieces insert_by sort_by height_of ones ones_in
last_byte_unsound = refl

-- The large catalogue: the rows of the crate `catalogue` that break a rule are not sound, those at the limits of the
-- rules are, and read as the layout that they say. Assumes nothing.
use mathlib.Core.List.{[], ◌++◌, ◌∷◌, map}
use mathlib.Core.Path.{◌≡◌, refl}
use lib.Count.{ones, ones_in}
use Rattle.catalogue.specs.Reading.{every, file_read, is_sound, judged, pairwise, read_catalogue, read_entries}
use Rattle.catalogue.specs.Reading.{read_entry}
use Rattle.catalogue.specs.Reading.{read_from, read_header, read_layout, read_pair, read_pairs, sound, unsound}
use Rattle.catalogue.specs.SoundRows.{file, layout, sound_rows}
use Rattle.catalogue.specs.UnsoundRows.{end_rows, entry_rows, free_rows, header_rows, section_rows, shared_rows}
use Rattle.catalogue.specs.Version.{version2}
use Rattle.catalogue.specs.WrittenFields.{entry, large, large_numbered, row, whole_disk_free, written, written_to}
use Rattle.layout.specs.Layout.{file_pieces}
use Rattle.layout.specs.Lists.{insert_by, sort_by}
use Rattle.section.specs.Heights.{height_of}
use Rattle.section.specs.Sections.{is_aligned, is_on_disk, section, shares_block}

pub large_rows_unsound :
    map (λ l. read_catalogue version2 (written large l))
    (header_rows ++ (entry_rows ++ (section_rows ++ (free_rows ++ (shared_rows ++ end_rows)))))
    ≡ map (λ l. unsound) (header_rows ++ (entry_rows ++ (section_rows ++ (free_rows ++ (shared_rows ++ end_rows)))))
unfolding read_catalogue judged read_layout read_header read_entries read_entry file_read read_pairs read_pair read_from every
    pairwise is_sound is_on_disk is_aligned shares_block file_pieces insert_by sort_by height_of ones ones_in
large_rows_unsound = refl

-- a version other than 2
pub large_number_unsound :
    map (λ n. read_catalogue version2 (written (large_numbered n) whole_disk_free)) (0 ∷ 1 ∷ 3 ∷ [])
    ≡ unsound ∷ unsound ∷ unsound ∷ []
unfolding read_catalogue judged read_layout read_header read_entries read_entry file_read read_pairs read_pair read_from every
    pairwise is_sound is_on_disk is_aligned shares_block file_pieces insert_by sort_by height_of ones ones_in
large_number_unsound = refl

-- the last byte of the buffer is 1
pub large_last_byte_unsound : read_catalogue version2 (written_to large whole_disk_free (1 ∷ [])) ≡ unsound
unfolding read_catalogue judged read_layout read_header read_entries read_entry file_read read_pairs read_pair read_from every
    pairwise is_sound is_on_disk is_aligned shares_block file_pieces insert_by sort_by height_of ones ones_in
large_last_byte_unsound = refl

pub large_rows_sound :
    map (λ r. read_catalogue version2 (written large r.0)) sound_rows ≡ map (λ r. sound r.1) sound_rows
unfolding read_catalogue judged read_layout read_header read_entries read_entry file_read read_pairs read_pair read_from every
    pairwise is_sound is_on_disk is_aligned shares_block file_pieces insert_by sort_by height_of ones ones_in
large_rows_sound = refl

-- numbers of more than two bytes; the greatest disk is in the crate `catalogue`, GreatestDisk
pub large_wide_fields_sound :
    read_catalogue version2 (written large (row 131072 1 (entry 1 65536 ((65536, 65536) ∷ [])) ((0, 65536) ∷ [])))
    ≡ sound (layout 131072 (file 1 (section 65536 16 ∷ []) ∷ []) (section 0 16 ∷ []))
unfolding read_catalogue judged read_layout read_header read_entries read_entry file_read read_pairs read_pair read_from every
    pairwise is_sound is_on_disk is_aligned shares_block file_pieces insert_by sort_by height_of ones ones_in
large_wide_fields_sound = refl

-- Small catalogues at the limits of the rules are sound, and read as the layout that they say; the large ones are
-- computed in the crate `case_table`. Assumes nothing.
use mathlib.Core.List.{[], ◌∷◌, map}
use mathlib.Core.Path.{◌≡◌, refl}
use lib.Count.{ones, ones_in}
use Rattle.catalogue.specs.Reading.{every, file_read, is_sound, judged, pairwise, read_catalogue, read_entries}
use Rattle.catalogue.specs.Reading.{read_entry, read_from, read_header, read_layout, read_pair, read_pairs, sound}
use Rattle.catalogue.specs.SoundRows.{file, layout, sound_rows}
use Rattle.catalogue.specs.Version.{version1}
use Rattle.catalogue.specs.WrittenFields.{entry, row, small, written}
use Rattle.layout.specs.Layout.{file_pieces}
use Rattle.layout.specs.Lists.{insert_by, sort_by}
use Rattle.section.specs.Heights.{height_of}
use Rattle.section.specs.Sections.{is_aligned, is_on_disk, section, shares_block}

pub rows_sound :
    map (λ r. read_catalogue version1 (written small r.0)) sound_rows ≡ map (λ r. sound r.1) sound_rows
unfolding read_catalogue judged read_layout read_header read_entries read_entry file_read read_pairs read_pair read_from every
    pairwise is_sound is_on_disk is_aligned shares_block file_pieces insert_by sort_by height_of ones ones_in
rows_sound = refl

-- numbers of more than one byte
pub wide_fields_sound :
    (read_catalogue version1 (written small (row 4096 0 [] ((0, 4096) ∷ [])))
    ≡ sound (layout 4096 [] (section 0 12 ∷ [])))
    × (read_catalogue version1 (written small (row 4096 1 (entry 1 2048 ((2048, 2048) ∷ [])) ((0, 2048) ∷ [])))
    ≡ sound (layout 4096 (file 1 (section 2048 11 ∷ []) ∷ []) (section 0 11 ∷ [])))
unfolding read_catalogue judged read_layout read_header read_entries read_entry file_read read_pairs read_pair read_from every
    pairwise is_sound is_on_disk is_aligned shares_block file_pieces insert_by sort_by height_of ones ones_in
wide_fields_sound = (refl, refl)

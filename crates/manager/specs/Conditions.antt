-- Replies, outcomes, and the ordered conditions of each call: document 01, "Calls"; of a replacement: document 02, W1;
-- of `which`: document 02, W4. Definitions only.
-- The first condition that applies is the refusal, and no buffer changes then.
use Rattle.std.specs.Prelude.{Bool, ◌||◌, false, not, true, List, [], ◌∷◌, ◌%◌, ◌*◌, ◌+◌, ℕ, eqb, leb, ltb, length}
use Rattle.catalogue.specs.Reading.{Reading, read_catalogue, sound, unsound}
use Rattle.catalogue.specs.Version.{greatest_blocks}
use Rattle.catalogue.specs.declared.Version.{Version}
use Rattle.layout.specs.Layout.{Found, Layout, file_blocks, find_file, found, free_blocks, has_file, missing}
use Rattle.manager.specs.Disk.{cut_pages, page_count, pages_on}
use Rattle.quality.specs.Letters.{first_letter, rank_of}
use Rattle.section.specs.Limits.{block_size, most_files}

-- ---- replies, outcomes, conditions

-- an answer and a refusal of the same value are told apart, and "fits already" from every number
pub data Reply : Type 0 where
  answered : ℕ → Reply
  refused : ℕ → Reply
  fits_already : Reply

-- the reply, and the three buffers afterwards
pub record Outcome : Type 0 where
  pub reply : Reply
  pub catalogue : List ℕ
  pub disk : List ℕ
  pub output : List ℕ

abbrev pub outcome : Reply → List ℕ → List ℕ → List ℕ → Outcome
outcome r cat d o = record { reply = r; catalogue = cat; disk = d; output = o }

-- the number of a refusal, and whether its condition holds
pub record Condition : Type 0 where
  pub number : ℕ
  pub applies : Bool

abbrev pub condition : ℕ → Bool → Condition
condition n b = record { number = n; applies = b }

pub data Judgement : Type 0 where
  allowed : Judgement
  refusal : ℕ → Judgement

unfoldable pub first_refusal : List Condition → Judgement
first_refusal [] = allowed
first_refusal (c ∷ l) = elim c.applies as (λ _. Judgement) [ true ↦ refusal c.number | false ↦ first_refusal l ]

-- what is done if nothing refuses the call; else the refusal, and every buffer as it was
abbrev pub unless_refused : Judgement → List ℕ → List ℕ → List ℕ → Outcome → Outcome
unless_refused allowed cat d o act = act
unless_refused (refusal n) cat d o act = outcome (refused n) cat d o

abbrev pub reply_unless : Judgement → Reply → Reply
reply_unless allowed r = r
reply_unless (refusal n) r = refused n

-- ---- conditions

abbrev pub wrong_catalogue : Version → List ℕ → Bool
wrong_catalogue v cat = not (eqb (length cat) v.bytes)

-- 0 or no multiple of a block
abbrev pub unpaged : List ℕ → Bool
unpaged bs = eqb (length bs) 0 || not (eqb (length bs % block_size) 0)

-- not the bytes of C blocks for a C of the version
abbrev pub no_disk : Version → List ℕ → Bool
no_disk v d = unpaged d || ltb (greatest_blocks v) (page_count d)

abbrev pub wrong_disk : Layout → List ℕ → Bool
wrong_disk l d = not (eqb (length d) (block_size * l.blocks))

-- first page plus page count exceeds n
abbrev pub beyond : Found → ℕ → ℕ → Bool
beyond (found f) first count = ltb (file_blocks f) (first + count)
beyond missing first count = false

-- the new first page has a quality letter outside the four
abbrev pub unranked : List ℕ → Bool
unranked bs = eqb (rank_of (first_letter (cut_pages (page_count bs) bs))) 0

-- its letter does not rank above that of the stored first page
abbrev pub not_above : List ℕ → List ℕ → Found → Bool
not_above bs d (found f) =
    leb (rank_of (first_letter (cut_pages (page_count bs) bs))) (rank_of (first_letter (pages_on d f.pieces)))
not_above bs d missing = false

-- the new n exceeds f plus the old n
abbrev pub too_long : List ℕ → Layout → Found → Bool
too_long bs l (found f) = ltb (free_blocks l + file_blocks f) (page_count bs)
too_long bs l missing = false

-- conditions that need a layout come after 3
abbrev pub on_layout : Reading → (Layout → List Condition) → List Condition
on_layout unsound k = condition 3 true ∷ []
on_layout (sound l) k = condition 3 false ∷ k l

-- ---- past the buffers

-- on the id alone
abbrev pub file_checks : ℕ → Layout → List Condition
file_checks i l = condition 5 (eqb i 0) ∷ condition 6 (not (has_file i l.files)) ∷ []

abbrev pub add_checks : ℕ → List ℕ → Layout → List Condition
add_checks i bs l =
    condition 5 (eqb i 0)
    ∷ condition 7 (has_file i l.files)
    ∷ condition 8 (unpaged bs)
    ∷ condition 10 (leb most_files (length l.files))
    ∷ condition 11 (ltb (free_blocks l) (page_count bs))
    ∷ []

abbrev pub read_checks : ℕ → ℕ → List ℕ → Layout → List Condition
read_checks i p o l =
    condition 5 (eqb i 0)
    ∷ condition 6 (not (has_file i l.files))
    ∷ condition 8 (unpaged o)
    ∷ condition 9 (beyond (find_file i l.files) p (page_count o))
    ∷ []

-- 12 and 13 come before 11
abbrev pub replace_checks : ℕ → List ℕ → List ℕ → Layout → List Condition
replace_checks i new d l =
    condition 5 (eqb i 0)
    ∷ condition 6 (not (has_file i l.files))
    ∷ condition 8 (unpaged new)
    ∷ condition 12 (unranked new)
    ∷ condition 13 (not_above new d (find_file i l.files))
    ∷ condition 11 (too_long new l (find_file i l.files))
    ∷ []

-- of n, and of the list that has not 64 places; no disk, no file
abbrev pub which_checks : ℕ → List ℕ → List Condition
which_checks n o = condition 8 (eqb n 0) ∷ condition 14 (not (eqb (length o) most_files)) ∷ []

-- ---- the whole list of each call

abbrev pub add_conditions : Version → ℕ → List ℕ → List ℕ → List ℕ → List Condition
add_conditions v i bs cat d =
    condition 1 (wrong_catalogue v cat) ∷ on_layout (read_catalogue v cat) λ l.
    condition 4 (wrong_disk l d) ∷ add_checks i bs l

abbrev pub remove_conditions : Version → ℕ → List ℕ → List ℕ → List Condition
remove_conditions v i cat d =
    condition 1 (wrong_catalogue v cat) ∷ on_layout (read_catalogue v cat) λ l.
    condition 4 (wrong_disk l d) ∷ file_checks i l

abbrev pub replace_conditions : Version → ℕ → List ℕ → List ℕ → List ℕ → List Condition
replace_conditions v i bs cat d =
    condition 1 (wrong_catalogue v cat) ∷ on_layout (read_catalogue v cat) λ l.
    condition 4 (wrong_disk l d) ∷ replace_checks i bs d l

abbrev pub read_conditions : Version → ℕ → ℕ → List ℕ → List ℕ → List ℕ → List Condition
read_conditions v i p o cat d =
    condition 1 (wrong_catalogue v cat) ∷ on_layout (read_catalogue v cat) λ l.
    condition 4 (wrong_disk l d) ∷ read_checks i p o l

abbrev pub breaks_conditions : Version → ℕ → List ℕ → List Condition
breaks_conditions v i cat =
    condition 1 (wrong_catalogue v cat) ∷ on_layout (read_catalogue v cat) λ l. file_checks i l

abbrev pub which_conditions : Version → ℕ → List ℕ → List ℕ → List Condition
which_conditions v n o cat =
    condition 1 (wrong_catalogue v cat) ∷ on_layout (read_catalogue v cat) λ l. which_checks n o

abbrev pub free_conditions : Version → List ℕ → List Condition
free_conditions v cat = condition 1 (wrong_catalogue v cat) ∷ on_layout (read_catalogue v cat) λ l. []

abbrev pub check_conditions : Version → List ℕ → List ℕ → List Condition
check_conditions v cat d =
    condition 1 (wrong_catalogue v cat) ∷ on_layout (read_catalogue v cat) λ l. condition 4 (wrong_disk l d) ∷ []

abbrev pub format_conditions : Version → List ℕ → List ℕ → List Condition
format_conditions v cat d = condition 1 (wrong_catalogue v cat) ∷ condition 2 (no_disk v d) ∷ []

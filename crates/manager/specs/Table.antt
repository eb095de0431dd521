-- The table of refusals of documents 01 and 02, written apart from the calls' own conditions: who gives a refusal, in
-- which order, and if what. Definitions only.
use Rattle.std.specs.Prelude.{Bool, ◌&&◌, ◌||◌, cond, false, true, List, [], ◌∷◌, ◌≡◌, ◌*◌, ◌+◌, ◌<◌, ◌≤◌, suc, ℕ}
use Rattle.std.specs.Prelude.{eqb, ltb, length}
use Rattle.catalogue.specs.Encoding.{encode}
use Rattle.catalogue.specs.Version.{OneOf, versions}
use Rattle.catalogue.specs.declared.Version.{Version}
use Rattle.layout.specs.Layout.{File, Found, Layout, file_blocks, find_file, found, free_blocks, missing}
use Rattle.layout.specs.Lists.{Each}
use Rattle.layout.specs.Sound.{Sound}
use Rattle.manager.specs.Arguments.{NoPages, buffer_of, first_page_of, id_of, places_of}
use Rattle.manager.specs.Call.{Call, add, breaks, check, free, read, remove, replace, which}
use Rattle.manager.specs.Disk.{cut_pages, page_count, pages_on}
use Rattle.quality.specs.Letters.{first_letter, rank_of}
use Rattle.section.specs.Limits.{block_size, most_files}

pub data Refusal : Type 0 where
  catalogue_length : Refusal
  format_disk : Refusal
  not_sound : Refusal
  disk_length : Refusal
  id_zero : Refusal
  id_missing : Refusal
  id_there : Refusal
  buffer_length : Refusal
  past_end : Refusal
  files_full : Refusal
  no_space : Refusal
  letter_unknown : Refusal
  letter_not_above : Refusal
  list_length : Refusal

-- the number that is returned
abbrev pub number_of : Refusal → ℕ
number_of catalogue_length = 1
number_of format_disk = 2
number_of not_sound = 3
number_of disk_length = 4
number_of id_zero = 5
number_of id_missing = 6
number_of id_there = 7
number_of buffer_length = 8
number_of past_end = 9
number_of files_full = 10
number_of no_space = 11
number_of letter_unknown = 12
number_of letter_not_above = 13
number_of list_length = 14

-- the column "By": the numbers that a call may give, in the order of its checks
abbrev pub numbers_of : Call → List ℕ
numbers_of (add i bs) = 1 ∷ 3 ∷ 4 ∷ 5 ∷ 7 ∷ 8 ∷ 10 ∷ 11 ∷ []
numbers_of (remove i) = 1 ∷ 3 ∷ 4 ∷ 5 ∷ 6 ∷ []
numbers_of (replace i bs) = 1 ∷ 3 ∷ 4 ∷ 5 ∷ 6 ∷ 8 ∷ 12 ∷ 13 ∷ 11 ∷ []
numbers_of (read i p o) = 1 ∷ 3 ∷ 4 ∷ 5 ∷ 6 ∷ 8 ∷ 9 ∷ []
numbers_of (breaks i) = 1 ∷ 3 ∷ 5 ∷ 6 ∷ []
numbers_of (which n o) = 1 ∷ 3 ∷ 8 ∷ 14 ∷ []
numbers_of free = 1 ∷ 3 ∷ []
numbers_of check = 1 ∷ 3 ∷ 4 ∷ []

abbrev pub is_listed : ℕ → List ℕ → Bool
is_listed n [] = false
is_listed n (m ∷ l) = eqb n m || is_listed n l

-- each number is above the one before it
abbrev pub is_rising : List ℕ → Bool
is_rising [] = true
is_rising (n ∷ []) = true
is_rising (n ∷ m ∷ l) = ltb n m && is_rising (m ∷ l)

abbrev pub By : Refusal → Call → Type 0
By r c = is_listed (number_of r) (numbers_of c) ≡ true

-- the catalogue is the encoding of the sound layout l in one of the versions
pub record CatalogueOf (cat : List ℕ) (l : Layout) : Type 0 where
  pub version : Version
  pub known : OneOf version versions
  pub encoded : cat ≡ encode version l
  pub rules : Sound version.heights l

-- no file has the id
abbrev pub NoFile : ℕ → Layout → Type 0
NoFile i l = Each (λ (f : File). f.id ≡ i → ⊥) l.files

-- the blocks of the file that is found
abbrev pub blocks_found : Found → ℕ
blocks_found (found f) = file_blocks f
blocks_found missing = 0

-- the blocks that a call may fill: f, and for a replacement the old n too
abbrev pub space_for : Call → Layout → ℕ
space_for (add i bs) l = free_blocks l
space_for (remove i) l = free_blocks l
space_for (replace i bs) l = free_blocks l + blocks_found (find_file i l.files)
space_for (read i p o) l = free_blocks l
space_for (breaks i) l = free_blocks l
space_for (which n o) l = free_blocks l
space_for free l = free_blocks l
space_for check l = free_blocks l

-- the rank of the quality letter on the first of these pages
abbrev pub first_rank : List (List ℕ) → ℕ
first_rank ps = rank_of (first_letter ps)

-- the pages of a call's content
abbrev pub new_pages : Call → List (List ℕ)
new_pages c = cut_pages (page_count (buffer_of c)) (buffer_of c)

-- the column "Given if"
abbrev pub GivenIf : Refusal → Call → List ℕ → List ℕ → Type 0
GivenIf catalogue_length c cat d = (v : Version) → OneOf v versions → length cat ≡ v.bytes → ⊥
GivenIf format_disk c cat d = ⊥
GivenIf not_sound c cat d = (l : Layout) → CatalogueOf cat l → ⊥
GivenIf disk_length c cat d = (l : Layout) × CatalogueOf cat l × (length d ≡ block_size * l.blocks → ⊥)
GivenIf id_zero c cat d = id_of c ≡ 0
GivenIf id_missing c cat d = (l : Layout) × CatalogueOf cat l × NoFile (id_of c) l
GivenIf id_there c cat d = (l : Layout) × CatalogueOf cat l × (NoFile (id_of c) l → ⊥)
GivenIf buffer_length c cat d = NoPages c
GivenIf past_end c cat d =
    (l : Layout) × CatalogueOf cat l × (f : File) × (find_file (id_of c) l.files ≡ found f)
    × (file_blocks f < first_page_of c + page_count (buffer_of c))
GivenIf files_full c cat d = (l : Layout) × CatalogueOf cat l × (most_files ≤ length l.files)
GivenIf no_space c cat d = (l : Layout) × CatalogueOf cat l × (space_for c l < page_count (buffer_of c))
GivenIf letter_unknown c cat d = first_rank (new_pages c) ≡ 0
GivenIf letter_not_above c cat d =
    (l : Layout) × CatalogueOf cat l × (f : File) × (find_file (id_of c) l.files ≡ found f)
    × (first_rank (new_pages c) ≤ first_rank (pages_on d f.pieces))
GivenIf list_length c cat d = length (places_of c) ≡ most_files → ⊥

-- how many numbers of a list stand before n
abbrev pub place_in : List ℕ → ℕ → ℕ
place_in [] n = 0
place_in (m ∷ l) n = cond (eqb n m) 0 (suc (place_in l n))

-- r is the first refusal that applies in the order of the call's checks
pub record First (c : Call) (cat d : List ℕ) (r : Refusal) : Type 0 where
  pub by : By r c
  pub given : GivenIf r c cat d
  pub first : (q : Refusal) → place_in (numbers_of c) (number_of q) < place_in (numbers_of c) (number_of r) → By q c
      → GivenIf q c cat d → ⊥

-- the checks of a call go by rising number: so do those of every call of document 01
abbrev pub InNumberOrder : Call → Type 0
InNumberOrder c = is_rising (numbers_of c) ≡ true

-- r is the lowest refusal of the table that applies
pub record Lowest (c : Call) (cat d : List ℕ) (r : Refusal) : Type 0 where
  pub by : By r c
  pub given : GivenIf r c cat d
  pub lowest : (q : Refusal) → number_of q < number_of r → By q c → GivenIf q c cat d → ⊥

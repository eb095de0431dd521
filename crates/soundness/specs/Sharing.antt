-- Pieces that are noted by their first blocks and masks, and compared a group at once. Definitions only.
use Rattle.std.specs.Prelude.{Bool, ◌&&◌, ◌||◌, false, not, List, ◌≡◌, ℕ, zero, suc, ◌+◌, ◌*◌, ◌<◌, ◌≤◌}
use Rattle.std.specs.Prelude.{Option, get_or, length}
use Rattle.std.specs.Option.{IfSome, is_some}
use Rattle.section.specs.declared.Section.{Section}
use Rattle.section.specs.Limits.{greatest_disk, height_count, most_files}
use Rattle.section.specs.Sections.{Spans, end_of, section, shares_block}
use Rattle.layout.specs.Layout.{Layout, all_pieces}
use Rattle.piece_lists.specs.Few.{piece_places}
use Rattle.catalogue.specs.Reading.{every, pairwise, sound_piece}
use Rattle.soundness.specs.Checking.{ids_rise}

-- the places for the pieces of all files and the free ones
abbrev pub most_pieces : ℕ
most_pieces = most_files * piece_places + piece_places

-- how many pieces are compared with one at once
abbrev pub group_size : ℕ
group_size = 16

-- the places for what is noted of the pieces: a group from the last piece on has all its places
abbrev pub noted_places : ℕ
noted_places = most_pieces + group_size

-- the block after the greatest disk: what is noted where there is no piece
abbrev pub far : Section
far = section greatest_disk 0

-- the first block and the mask of each piece of l are noted at its place, and those of `far` after the last piece
pub record Noted (l : List Section) (firsts masks : List ℕ) : Type 0 where
  pub first_places : length firsts ≡ noted_places
  pub mask_places : length masks ≡ noted_places
  pub spans : (k : ℕ) → k < noted_places → Spans (get_or l k far) (get_or firsts k 0) (get_or masks k 0)

-- r tells whether ids rise and all pieces are sections of the disk; if so, what is noted of the pieces, and where that
-- ends
pub record NotesOf (l : Layout) (firsts masks : List ℕ) (r : Option ℕ) : Type 0 where
  pub passed : is_some r ≡ ids_rise l.files && every (sound_piece height_count l.blocks) (all_pieces l)
  pub few : IfSome r (λ n. n ≤ most_pieces)
  pub end : IfSome r (λ n. length (all_pieces l) ≡ n)
  pub noted : IfSome r (λ n. Noted (all_pieces l) firsts masks)

-- every piece of l ends where the greatest disk does, or before
abbrev pub Ends : List Section → Type 0
Ends l = (k : ℕ) → k < length l → end_of (get_or l k far) ≤ greatest_disk

-- s shares a block with one of the n pieces of l from the place at on
unfoldable pub shares_among : Section → List Section → ℕ → ℕ → Bool
shares_among s l at zero = false
shares_among s l at (suc n) = shares_among s l at n || shares_block s (get_or l (at + n) far)

-- no two pieces share a block
abbrev pub none_shared : List Section → Bool
none_shared l = pairwise (λ (s t : Section). not (shares_block s t)) l

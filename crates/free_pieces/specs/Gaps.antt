-- The copies of a merge, told from the free pieces alone: the blocks of the buddy that lie between those inside it are
-- the ones that files hold. Definitions only.
use Rattle.std.specs.Prelude.{cond, List, [], ◌∷◌, ◌++◌, ◌≡◌, ℕ, ◌+◌, ◌-◌, ◌≤◌, eqb, length}
use Rattle.section.specs.declared.Section.{Section}
use Rattle.section.specs.Sections.{Addressable, buddy_of, end_of, is_inside}
use Rattle.layout.specs.Layout.{InOrder}
use Rattle.layout.specs.Lists.{Each}
use Rattle.layout.specs.Removing.{Copy, copy_run}
use Rattle.free_pieces.specs.Free.{free_of, free_places}
use Rattle.free_pieces.specs.declared.Gap.{Gap}
use Rattle.free_pieces.specs.declared.Pair.{Pair}

-- the blocks from `at` up to the free piece s, if it lies inside b
abbrev pub gap_before : Section → ℕ → Section → ℕ
gap_before b at s = cond (is_inside s b) (s.first - at) 0

-- the block from which on to look after s
abbrev pub gap_past : Section → ℕ → Section → ℕ
gap_past b at s = cond (is_inside s b) (end_of s) at

-- the blocks of b from `at` on that are in no piece of the list, copied to the same distance from u
unfoldable pub gap_copies : Section → ℕ → ℕ → List Section → List Copy
gap_copies b u at [] = copy_run at (u + (at - b.first)) (end_of b - at)
gap_copies b u at (s ∷ l) =
    copy_run at (u + (at - b.first)) (gap_before b at s) ++ gap_copies b u (gap_past b at s) l

-- those of the merge of l and u where the others are free
abbrev pub free_copies : Section → Section → List Section → List Copy
free_copies l u others =
    cond (eqb (buddy_of l).first u.first) [] (gap_copies (buddy_of l) u.first (buddy_of l).first others)

abbrev pub pair_copies : Pair → List Copy
pair_copies p = free_copies p.lower p.upper (free_of p.others)

-- r is the gap before s in b from `at` on, and where it ends
pub record Gaps (b : Section) (at : ℕ) (s : Section) (r : Gap) : Type 0 where
  pub count : r.count ≡ gap_before b at s
  pub past : r.past ≡ gap_past b at s

-- what is asked of the two to merge and of the other free pieces
pub record PairFits (p : Pair) : Type 0 where
  pub lower : Addressable p.lower
  pub buddy : Addressable (buddy_of p.lower)
  pub few : p.others.count ≤ free_places
  pub exact : length (free_of p.others) ≡ p.others.count
  pub others : Each Addressable (free_of p.others)
  pub order : InOrder (free_of p.others)

-- What lies inside a section and is moved into another one, and what is known of the two that a merge takes and of all
-- other pieces. Definitions only.
use Rattle.std.specs.Prelude.{Bool, cond, List, [], ◌++◌, ◌∷◌, ◌≡◌, ◌+◌, ◌^◌, ◌≤◌, ℕ, eqb}
use Rattle.section.specs.Nesting.{Placed}
use Rattle.section.specs.Sections.{Apart, buddy_of, length_of, moved_into, section}
use Rattle.section.specs.declared.Section.{Section}
use Rattle.layout.specs.Covering.{Covers}
use Rattle.layout.specs.Layout.{Layout, OnDisk, file_pieces}
use Rattle.layout.specs.Lists.{Each}
use Rattle.layout.specs.Removing.{Copy, copies_from, copy_run}

-- two spans of n blocks are the same or apart
pub data SameOrApart (b u n : ℕ) : Type 0 where
  same : b ≡ u → SameOrApart b u n
  left : b + n ≤ u → SameOrApart b u n
  right : u + n ≤ b → SameOrApart b u n

-- the move, on one section
abbrev pub moving : ℕ → ℕ → ℕ → Section → Section
moving h b v s = moved_into (section b h) (section v h) s

-- a piece is inside b or apart from it, and apart from v
abbrev pub Movable : ℕ → ℕ → ℕ → Section → Type 0
Movable h b v s = Placed s.first (length_of s) b (2 ^ h) × Apart s.first (length_of s) v (2 ^ h)

-- every piece but l and u
abbrev pub other_pieces : Layout → List Section → List Section
other_pieces w r = file_pieces w.files ++ r

-- l and u, free sections of one height, and the other free pieces r
pub record MergeParts (c : ℕ) (w : Layout) (l u : Section) (r : List Section) : Type 0 where
  pub lower : OnDisk c l
  pub upper : OnDisk c (section u.first l.height.value)
  pub buddy : OnDisk c (buddy_of l)
  pub free : Each (OnDisk c) r
  pub others : Each (OnDisk c) (other_pieces w r)
  pub covers : Covers c (l ∷ section u.first l.height.value ∷ other_pieces w r)
  -- u is the buddy, or the two are apart
  pub place : SameOrApart (buddy_of l).first u.first (length_of l)
  pub below : (buddy_of l).first ≤ u.first
  -- every other piece is inside the buddy or apart from it, and apart from u
  pub movable : Each (Movable l.height.value (buddy_of l).first u.first) (other_pieces w r)

-- of n blocks from b those that pass the test copied to u, none if the two are the same
abbrev pub run_or_none : (ℕ → Bool) → ℕ → ℕ → ℕ → List Copy
run_or_none p n b u = cond (eqb b u) [] (copies_from p (copy_run b u n))

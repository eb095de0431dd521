-- Removing: the file's pieces become free, and while a height has two free pieces the lowest such height is merged: two
-- that are buddies, else the two lowest. A removal is the list of its merges, each with its block copies and the layout
-- that it leaves. Definitions only.
use Rattle.std.specs.Prelude.{Bool, true, false, cond, ◌&&◌, List, [], ◌∷◌, ◌++◌, map, ℕ, zero, suc, eqb, ltb, length}
use Rattle.section.specs.declared.Section.{Section}
use Rattle.section.specs.Sections.{length_of, buddy_of, parent_of, moved_into}
use Rattle.layout.specs.Lists.{insert_by, sort_by, sum_of}
use Rattle.layout.specs.Layout.{File, Layout, by_first, file_pieces, has_height, holds_block}
use Rattle.layout.specs.Adding.{Taken, taken, nothing, take_first, take_of_height}

-- ---- block copies

-- the contents of one block are stored in another
pub record Copy : Type 0 where
  pub source : ℕ
  pub target : ℕ

-- the n blocks from b on copied to those from u on, in order
unfoldable pub copy_run : ℕ → ℕ → ℕ → List Copy
copy_run b u zero = []
copy_run b u (suc n) = (record { source = b; target = u }) ∷ copy_run (suc b) (suc u) n

-- those copies whose source passes the test, in order
unfoldable pub copies_from : (ℕ → Bool) → List Copy → List Copy
copies_from p [] = []
copies_from p (c ∷ l) =
    elim (p c.source) as (λ _. List Copy) [ true ↦ c ∷ copies_from p l | false ↦ copies_from p l ]

-- the block x is in a piece of a file
abbrev pub is_held : List File → ℕ → Bool
is_held fs x = ltb 0 (sum_of (holds_block x) (file_pieces fs))

-- ---- which two are merged

-- the two free sections to merge, the lower first, and the other free pieces; or fewer than two
pub data MergePair : Type 0 where
  pair : Section → Section → List Section → MergePair
  fewer : MergePair

abbrev pub with_lower : Section → Taken → MergePair
with_lower l (taken u r) = pair l u r
with_lower l nothing = fewer

abbrev pub second_of : ℕ → Taken → MergePair
second_of h (taken l r) = with_lower l (take_of_height h r)
second_of h nothing = fewer

-- the two of height h with the lowest first blocks
unfoldable pub lowest_two : ℕ → List Section → MergePair
lowest_two h free = second_of h (take_of_height h free)

-- u is the buddy of l, and above it
abbrev pub is_buddy_above : Section → Section → Bool
is_buddy_above l u = has_height l.height.value u && (eqb u.first (buddy_of l).first && ltb l.first u.first)

abbrev pub is_taken : Taken → Bool
is_taken (taken s r) = true
is_taken nothing = false

-- l has height h, and its buddy above it is free too
abbrev pub has_free_buddy : ℕ → List Section → Section → Bool
has_free_buddy h free l = has_height h l && is_taken (take_first (is_buddy_above l) free)

abbrev pub with_buddy : Taken → MergePair
with_buddy (taken l r) = with_lower l (take_first (is_buddy_above l) r)
with_buddy nothing = fewer

-- two of height h that are buddies
unfoldable pub buddy_pair : ℕ → List Section → MergePair
buddy_pair h free = with_buddy (take_first (has_free_buddy h free) free)

abbrev pub or_pair : MergePair → MergePair → MergePair
or_pair (pair l u r) t = pair l u r
or_pair fewer t = t

-- step 1: two of height h that are buddies, else the two of height h with the lowest first blocks
unfoldable pub merge_pair : ℕ → List Section → MergePair
merge_pair h free = or_pair (buddy_pair h free) (lowest_two h free)

-- ---- one merge

-- step 2: the blocks of l's buddy that files hold copied to u in order, none if u is the buddy
abbrev pub merge_copies : List File → Section → Section → List Copy
merge_copies fs l u =
    cond (eqb (buddy_of l).first u.first) []
    (copies_from (is_held fs) (copy_run (buddy_of l).first u.first (length_of l)))

-- a file when all that lies inside b has moved to the same distance inside u
abbrev pub moved_file : Section → Section → File → File
moved_file b u f = record { id = f.id; pieces = map (moved_into b u) f.pieces }

-- what a merge does: the copies that it makes, in order, and the layout after it
pub record Merge : Type 0 where
  pub copies : List Copy
  pub after : Layout

-- steps 2 and 3: what was inside l's buddy is now inside u, and l and its buddy are one free section
unfoldable pub merge : Section → Section → List Section → Layout → Merge
merge l u others w =
    let moved : Section → Section = moved_into (buddy_of l) u in
    record {
      copies = merge_copies w.files l u;
      after = record {
        blocks = w.blocks;
        files = map (moved_file (buddy_of l) u) w.files;
        free = insert_by by_first (parent_of l) (sort_by by_first (map moved others));
      };
    }

-- ---- all merges

-- the merge that is next, if any
pub data Next : Type 0 where
  due : Merge → Next
  settled : Next

-- the merge at the lowest of the k heights from h up that has two free pieces
unfoldable pub next_merge : ℕ → ℕ → Layout → Next
next_merge zero h w = settled
next_merge (suc k) h w =
    elim (merge_pair h w.free) as (λ _. Next) [
      | pair l u others ↦ due (merge l u others w)
      | fewer ↦ next_merge k (suc h) w
    ]

-- the merges of a layout with heights below k, one after another, at most n of them
unfoldable pub merge_all : ℕ → ℕ → Layout → List Merge
merge_all zero k w = []
merge_all (suc n) k w =
    elim (next_merge k 0 w) as (λ _. List Merge) [ due m ↦ m ∷ merge_all n k m.after | settled ↦ [] ]

-- the copies of merges, in order
unfoldable pub copies_of : List Merge → List Copy
copies_of [] = []
copies_of (m ∷ ms) = m.copies ++ copies_of ms

-- the layout that merges leave
unfoldable pub layout_after : Layout → List Merge → Layout
layout_after l [] = l
layout_after l (m ∷ ms) = layout_after m.after ms

-- ---- a removal

unfoldable pub insert_all : List Section → List Section → List Section
insert_all [] free = free
insert_all (s ∷ l) free = insert_by by_first s (insert_all l free)

-- the files but the one of id i
unfoldable pub without_file : ℕ → List File → List File
without_file i [] = []
without_file i (f ∷ l) = elim (eqb f.id i) as (λ _. List File) [ true ↦ l | false ↦ f ∷ without_file i l ]

-- all pieces of a file become free
unfoldable pub release : File → Layout → Layout
release f l =
    record {
      blocks = l.blocks;
      files = without_file f.id l.files;
      free = insert_all f.pieces l.free;
    }

-- the merges of a removal; each leaves one free piece less, so there are fewer than free pieces
unfoldable pub removal : ℕ → File → Layout → List Merge
removal k f l = merge_all (length (release f l).free) k (release f l)

-- What a call leaves: a refusal's number and the buffers as they were, all that an add, a removal and a replacement do
-- to a sound catalogue and its disk, and all that `which` gives on a sound catalogue. Definitions only.
use Rattle.std.specs.Prelude.{false, List, [], ◌++◌, map, ◌≡◌, ◌*◌, ◌+◌, ◌-◌, ◌<◌, ◌≤◌, ℕ, length, replicate}
use Rattle.section.specs.Limits.{block_size, height_count, most_files}
use Rattle.section.specs.declared.Section.{Section}
use Rattle.layout.specs.Adding.{allocate, allocated, with_file}
use Rattle.layout.specs.Carries.{carries}
use Rattle.layout.specs.Layout.{File, Layout, file_blocks, find_file, found, free_blocks, holds_block}
use Rattle.layout.specs.Helping.{Helping}
use Rattle.layout.specs.Lists.{Each, sum_of}
use Rattle.layout.specs.Removing.{Copy, copies_of, layout_after, release, removal}
use Rattle.layout.specs.Sound.{Sound}
use Rattle.catalogue.specs.Encoding.{encode}
use Rattle.catalogue.specs.declared.Version.{Version}
use Rattle.manager.specs.Book.{content_pages, strike_line, write_line}
use Rattle.manager.specs.Call.{Call}
use Rattle.manager.specs.Conditions.{Outcome, answered, fits_already, refused, unpaged}
use Rattle.manager.specs.Disk.{block, cut_pages, page_count, pages_on, run_copies}
use Rattle.manager.specs.Outcomes.{add_outcome, perform, remove_outcome}
use Rattle.manager.specs.Table.{first_rank}
use Rattle.manager.specs.WholeList.{line_on}

-- the call is refused with the number n
abbrev pub Gives : List ℕ → List ℕ → Call → ℕ → Type 0
Gives cat d c n = (perform c cat d).reply ≡ refused n

-- the buffers after a call are those before it
pub record Unchanged (cat d o : List ℕ) (x : Outcome) : Type 0 where
  pub catalogue : x.catalogue ≡ cat
  pub disk : x.disk ≡ d
  pub output : x.output ≡ o

-- all that an answered add of the content bs as id i does to the layout l and the disk d
pub record Adds (v : Version) (l : Layout) (d : List ℕ) (i : ℕ) (bs : List ℕ) (o : Outcome) : Type 0 where
  pub pieces : List Section
  pub rest : List Section
  -- one piece for each 1 of n, from the highest down
  pub allocation : allocate 0 height_count (page_count bs) l.free ≡ allocated pieces rest
  pub reply : o.reply ≡ answered (page_count bs)
  pub catalogue : o.catalogue ≡ encode v (with_file i pieces rest l)
  pub sound_after : Sound v.heights (with_file i pieces rest l)
  pub output : o.output ≡ []
  pub disk_length : length o.disk ≡ block_size * l.blocks
  -- the new file's blocks hold the content's pages in page order
  pub pages : pages_on o.disk pieces ≡ cut_pages (page_count bs) bs
  -- blocks that were not of a free piece that is now the file's keep their bytes
  pub others : (x : ℕ) → sum_of (holds_block x) pieces ≡ 0 → block o.disk x ≡ block d x
  -- and so the other files keep their pages
  pub lines : map (line_on o.disk) (with_file i pieces rest l).files
      ≡ write_line (record { id = i; pages = content_pages bs }) (map (line_on d) l.files)

-- all that an answered removal of the file f does to the layout l and the disk d
pub record RemovesFrom (v : Version) (l : Layout) (d : List ℕ) (f : File) (o : Outcome) : Type 0 where
  pub reply : o.reply ≡ answered (length (copies_of (removal height_count f l)))
  pub catalogue : o.catalogue ≡ encode v (layout_after (release f l) (removal height_count f l))
  pub sound_after : Sound v.heights (layout_after (release f l) (removal height_count f l))
  pub blocks : (layout_after (release f l) (removal height_count f l)).blocks ≡ l.blocks
  pub disk : o.disk ≡ run_copies d (copies_of (removal height_count f l))
  pub disk_length : length o.disk ≡ block_size * l.blocks
  pub output : o.output ≡ []
  -- the other files keep their pages
  pub lines : map (line_on o.disk) (layout_after (release f l) (removal height_count f l)).files
      ≡ strike_line f.id (map (line_on d) l.files)
  -- blocks that are not copied to keep their bytes
  pub others : (x : ℕ) → Each (λ (c : Copy). x ≡ c.target → ⊥) (copies_of (removal height_count f l))
      → block o.disk x ≡ block d x
  -- copies stay within the carries of f + n
  pub limit : length (copies_of (removal height_count f l)) ≤ carries height_count (free_blocks l) (file_blocks f)

-- nothing refuses the replacement of the file f of the layout l, with id i, by the content bs on the disk d
pub record CanReplace (l : Layout) (d : List ℕ) (i : ℕ) (bs : List ℕ) (f : File) : Type 0 where
  pub disk : length d ≡ block_size * l.blocks
  pub least : 1 ≤ i
  pub there : find_file i l.files ≡ found f
  pub paged : unpaged bs ≡ false
  -- the new letter is one of the four, and ranks above the stored one
  pub ranked : 1 ≤ first_rank (cut_pages (page_count bs) bs)
  pub above : first_rank (pages_on d f.pieces) < first_rank (cut_pages (page_count bs) bs)
  pub fits : page_count bs ≤ free_blocks l + file_blocks f

-- the layout that the removal of the file f leaves
abbrev pub without : Layout → File → Layout
without l f = layout_after (release f l) (removal height_count f l)

-- all that an answered replacement of the file f by the content bs does to the layout l and the disk d: what a removal
-- and then an add do, each as a call
pub record Replaces (v : Version) (l : Layout) (d : List ℕ) (i : ℕ) (f : File) (bs : List ℕ)
    (o : Outcome) : Type 0 where
  pub removed : RemovesFrom v l d f (remove_outcome i (encode v l) d)
  pub added : Adds v (without l f) (remove_outcome i (encode v l) d).disk i bs
      (add_outcome i bs (remove_outcome i (encode v l) d).catalogue (remove_outcome i (encode v l) d).disk)
  -- the answer is the removal's, catalogue and disk are the add's
  pub reply : o.reply ≡ answered (length (copies_of (removal height_count f l)))
  pub catalogue : o.catalogue
      ≡ (add_outcome i bs (remove_outcome i (encode v l) d).catalogue (remove_outcome i (encode v l) d).disk).catalogue
  pub disk : o.disk
      ≡ (add_outcome i bs (remove_outcome i (encode v l) d).catalogue (remove_outcome i (encode v l) d).disk).disk
  pub output : o.output ≡ []
  -- the other files keep their pages, and the new one has those of the content
  pub lines : map (line_on o.disk) (with_file i added.pieces added.rest (without l f)).files
      ≡ write_line (record { id = i; pages = content_pages bs }) (strike_line i (map (line_on d) l.files))

-- all that `which` gives for n blocks, at least one, on the layout l: catalogue and disk stay
pub record GivesHelp (l : Layout) (n : ℕ) (cat d : List ℕ) (o : Outcome) : Type 0 where
  pub catalogue : o.catalogue ≡ cat
  pub disk : o.disk ≡ d
  -- n blocks fit already: only zeros
  pub fits : n ≤ free_blocks l → (o.reply ≡ fits_already) × (o.output ≡ replicate most_files 0)
  -- else the ids of the files whose removal lets them in, in their order, and how many; then zeros
  pub ids : free_blocks l < n → (is : List ℕ) × Helping height_count n l is × (o.reply ≡ answered (length is))
      × (o.output ≡ is ++ replicate (most_files - length is) 0)

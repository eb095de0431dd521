-- What the claim about the whole list comes to for one version, catalogue and disk, and for one call. Definitions only.
use Rattle.std.specs.Prelude.{Bool, ◌&&◌, List, ◌⊎◌, ◌≡◌, ◌+◌, ◌-◌, ◌<◌, ◌≤◌, ℕ, eqb, leb, drop, get_or, length}
use Rattle.std.specs.Prelude.{replicate}
use Rattle.std.specs.Int.Count.{ones}
use Rattle.catalogue.specs.declared.Version.{Version}
use Rattle.layout.specs.Carries.{carries}
use Rattle.layout.specs.Layout.{File, Layout, blocks_of, find_file, found, page_breaks}
use Rattle.layout.specs.Lists.{indicator, sum_of, times_in}
use Rattle.layout.specs.Removing.{copies_of, removal}
use Rattle.manager.specs.Book.{Book, Line, fresh_book, line, line_with, pages_in_lines}
use Rattle.manager.specs.Call.{Call, ListedCall, add, remove, replace, which}
use Rattle.manager.specs.Conditions.{Outcome, answered, fits_already, refused}
use Rattle.manager.specs.Outcomes.{format_outcome}
use Rattle.manager.specs.Table.{CatalogueOf}
use Rattle.manager.specs.WholeList.{Follows}

-- format answers c and leaves the disk, and every list of calls follows a fresh book of c blocks
abbrev pub Claimed : Version → ℕ → List ℕ → List ℕ → Type 0
Claimed v c cat d =
    ((format_outcome cat d).reply ≡ answered c) × ((format_outcome cat d).disk ≡ d)
    × ((calls : List ListedCall) → Follows v calls (format_outcome cat d).catalogue (format_outcome cat d).disk
    (fresh_book c))

-- the call is an add, a removal or a replacement
abbrev pub Changing : Call → Type 0
Changing c =
    ((i : ℕ) × (bs : List ℕ) × (c ≡ add i bs))
    ⊎ (((i : ℕ) × (c ≡ remove i)) ⊎ ((i : ℕ) × (bs : List ℕ) × (c ≡ replace i bs)))

-- the call is `which`
abbrev pub Asking : Call → Type 0
Asking c = (n : ℕ) × (o : List ℕ) × (c ≡ which n o)

-- k is the number of copies of the removal of the file i, and at most the carries of f + n over the 21 heights
abbrev pub CopiesClaimed : ℕ → ℕ → List ℕ → Book → Type 0
CopiesClaimed i k cat b =
    ((l : Layout) (f : File) → CatalogueOf cat l → find_file i l.files ≡ found f
    → k ≡ length (copies_of (removal 21 f l)))
    × ((x : Line) → line_with i b.lines ≡ line x
    → k ≤ carries 21 (b.blocks - pages_in_lines b.lines) (length x.pages))

-- k is the number of breaks of the file i, counted over its pages in their blocks, and at most the ones of n less one
abbrev pub BreaksClaimed : ℕ → ℕ → List ℕ → Book → Type 0
BreaksClaimed i k cat b =
    ((l : Layout) (f : File) → CatalogueOf cat l → find_file i l.files ≡ found f
    → k ≡ page_breaks (blocks_of f.pieces))
    × ((x : Line) → line_with i b.lines ≡ line x → k ≤ ones (length x.pages) - 1)

-- f of the book: C less the pages in all lines
abbrev pub free_of : Book → ℕ
free_of b = b.blocks - pages_in_lines b.lines

-- the line's pages plus f are at least n
abbrev pub has_room : ℕ → Book → Line → Bool
has_room n b x = leb n (length x.pages + free_of b)

-- the list o has the k ids of the lines with room for n, in the order of the copies of their files' removals, and then
-- zeros
pub record IdsClaimed (n k : ℕ) (o cat : List ℕ) (b : Book) : Type 0 where
  pub count : k ≡ sum_of (λ (x : Line). indicator (has_room n b x)) b.lines
  pub ids : (i : ℕ) → 1 ≤ i
      → times_in i o ≡ sum_of (λ (x : Line). indicator (eqb x.id i && has_room n b x)) b.lines
  -- of two places the first has the file whose removal copies fewer blocks, or as many and its id is lower
  pub order : (l : Layout) (f g : File) (p q : ℕ) → CatalogueOf cat l → p < q → q < k
      → find_file (get_or o p 0) l.files ≡ found f → find_file (get_or o q 0) l.files ≡ found g
      → (length (copies_of (removal 21 f l)) < length (copies_of (removal 21 g l)))
      ⊎ ((length (copies_of (removal 21 f l)) ≡ length (copies_of (removal 21 g l))) × (get_or o p 0 < get_or o q 0))
  pub zeros : drop k o ≡ replicate (64 - k) 0

-- what is claimed of `which` with n and the list o, past the catalogue's checks
pub record WhichClaimed (n : ℕ) (o cat : List ℕ) (b : Book) (x : Outcome) : Type 0 where
  pub none : n ≡ 0 → (x.reply ≡ refused 8) × (x.output ≡ o)
  pub places : 1 ≤ n → (length o ≡ 64 → ⊥) → (x.reply ≡ refused 14) × (x.output ≡ o)
  pub fitting : 1 ≤ n → length o ≡ 64 → n ≤ free_of b → (x.reply ≡ fits_already) × (x.output ≡ replicate 64 0)
  pub listed : 1 ≤ n → length o ≡ 64 → free_of b < n
      → (k : ℕ) × (x.reply ≡ answered k) × IdsClaimed n k x.output cat b

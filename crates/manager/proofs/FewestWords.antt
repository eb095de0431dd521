-- What the claim says of the fewest pieces, in the words of the service contract and from any proof of it: of each
-- line's file and of what is free after a list, and on every sound catalogue of pieces and of reads. Powers of two are
-- given by their heights. A weaker claim proves less than this. Assumes nothing.
use mathlib.Core.List.{List}
use mathlib.Core.Path.{◌∙◌, ◌≡◌, ap, sym}
use Prim.Native.Nat.{◌-◌, ◌^◌, ◌≤◌, suc, ℕ}
use lib.Count.{ones}
use lib.ListN.{length}
use Rattle.catalogue.specs.declared.Version.{Version}
use Rattle.layout.proofs.Divisions.{file_no_more, layout_no_more, pieces_no_more}
use Rattle.layout.proofs.Fewest.{reads_no_more}
use Rattle.layout.proofs.Finding.{find_file_lem, found_find}
use Rattle.layout.specs.Divisions.{NoMorePieces}
use Rattle.layout.specs.Layout.{File, Layout, file_blocks, find_file, found}
use Rattle.layout.specs.Lists.{sum_of}
use Rattle.manager.proofs.LineFiles.{line_has_file}
use Rattle.manager.specs.Book.{Book, Line, line, line_with, pages_in_lines}
use Rattle.manager.specs.Call.{breaks}
use Rattle.manager.specs.Conditions.{answered}
use Rattle.manager.specs.Outcomes.{perform}
use Rattle.manager.specs.Table.{CatalogueOf}
use Rattle.manager.specs.WholeList.{Afterwards, WholeList}

-- ---- after a list

module _ (v : Version) (cat d : List ℕ) (b : Book) (a : Afterwards v cat d b) where
  -- whatever powers of two sum to the count of a line's pages, the pieces of the line's file are no more
  pub line_has_fewest : (i : ℕ) (x : Line) (f : File) → line_with i b.lines ≡ line x
      → find_file i a.layout.files ≡ found f → (hs : List ℕ) → sum_of (λ h. 2 ^ h) hs ≡ length x.pages
      → length f.pieces ≤ length hs
  line_has_fewest i x f e there hs sum =
      let file = line_has_file v cat d b a i x e in
      let same : file.0 ≡ f = cc file.1 in
      file_no_more 2 i a.layout.files f there a.file_fewest hs (sum ∙ (sym file.3 ∙ ap file_blocks same))

  -- and whatever powers of two sum to C less the pages in all lines, the free pieces are no more
  pub free_has_fewest : (hs : List ℕ) → sum_of (λ h. 2 ^ h) hs ≡ b.blocks - pages_in_lines b.lines
      → length a.layout.free ≤ length hs
  free_has_fewest = pieces_no_more 2 a.layout.free a.free_fewest

-- ---- on every sound catalogue

-- the pieces of a file are no more than powers of two that sum to its n, the free pieces than those that sum to f
pub sound_has_fewest : WholeList → (cat : List ℕ) (l : Layout) → CatalogueOf cat l → NoMorePieces 2 l
sound_has_fewest w cat l s = layout_no_more 2 l (w.fewest cat l s)

-- nor are the reads of a file, k + 1, if its breaks, k, are within the limit
pub reads_within : (cat : List ℕ) (l : Layout) → CatalogueOf cat l → (i k : ℕ) (f : File)
    → find_file i l.files ≡ found f → k ≤ ones (file_blocks f) - 1 → (hs : List ℕ)
    → sum_of (λ h. 2 ^ h) hs ≡ file_blocks f → suc k ≤ length hs
reads_within cat l s i k f there =
    reads_no_more (file_blocks f) k
    (find_file_lem {P = λ (g : File). 1 ≤ file_blocks g} (found_find i l.files f there).1 s.rules.some_pages)

-- as they are if the call `breaks` answers k
pub reads_claims : WholeList → (cat d : List ℕ) (l : Layout) → CatalogueOf cat l → (i k : ℕ) (f : File)
    → find_file i l.files ≡ found f → (perform (breaks i) cat d).reply ≡ answered k → (hs : List ℕ)
    → sum_of (λ h. 2 ^ h) hs ≡ file_blocks f → suc k ≤ length hs
reads_claims w cat d l s i k f there r = reads_within cat l s i k f there (w.breaks_limit cat d l i k f s there r)

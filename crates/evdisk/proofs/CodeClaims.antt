-- All that the claim about exported calls says of a call and of a list, in the words of document 01 and from any proof
-- of it: a weaker claim proves less than this. Assumes nothing.
use mathlib.Core.List.{List, [], ◌∷◌}
use mathlib.Core.Logic.{◌↔◌}
use mathlib.Core.Path.{◌∙◌, ◌≡◌, refl, sym}
use Prim.Native.Nat.{◌-◌, ◌^◌, ◌≤◌, suc, ℕ}
use lib.Count.{ones}
use lib.IntN.{neg_ℤ, pos}
use lib.ListN.{length}
use Rattle.catalogue.specs.declared.Version.{Version}
use Rattle.layout.specs.Carries.{carries}
use Rattle.layout.proofs.Breaks.{breaks-at-pages}
use Rattle.layout.proofs.Divisions.{layout_no_more}
use Rattle.layout.specs.Divisions.{NoMorePieces}
use Rattle.layout.specs.Layout.{File, Layout, file_blocks, find_file, found, free_blocks}
use Rattle.layout.specs.Lists.{sum_of}
use Rattle.manager.specs.Book.{Book, in_book, refuses}
use Rattle.manager.specs.Call.{Call, breaks, output_of, remove, replace}
use Rattle.manager.proofs.ClaimWords.{output_but_which}
use Rattle.manager.proofs.FewestWords.{reads_within}
use Rattle.manager.specs.Claimed.{Asking, BreaksClaimed, CopiesClaimed}
use Rattle.manager.specs.Outcomes.{format_outcome, perform}
use Rattle.manager.specs.Table.{CatalogueOf}
use Rattle.manager.specs.WholeList.{Afterwards}
use Rattle.evdisk.proofs.CodeWords.{code_alters_only, code_refuses_exactly}
use Rattle.evdisk.proofs.CodesApart.{codes-apart}
use Rattle.evdisk.specs.ExportedList.{AltersBy, AsPromised, CodeAgrees, CodesFollow, ExportedCall, ExportedList}
use Rattle.evdisk.specs.ExportedList.{Returned}

-- ---- a call

-- refusals are the book's, the whole output is but for `which`, and a call that gives back a number below 0 leaves
-- catalogue, disk and book
pub code_claims : (c : Call) (cat d : List ℕ) (b : Book) (r : Returned) → CodeAgrees c cat d b r
    → ((n : ℕ) → 1 ≤ n → (r.code ≡ neg_ℤ (pos n)) ↔ ((in_book c b).reply ≡ refuses n))
    × ((Asking c → ⊥) → r.output ≡ (in_book c b).output)
    × (((n : ℕ) → r.code ≡ pos n → ⊥) → (r.catalogue ≡ cat) × (r.disk ≡ d) × ((in_book c b).book ≡ b))
code_claims c cat d b r a = (
  code_refuses_exactly (in_book c b).reply r.code a.code,
  λ other. output_but_which c b r.output a.output other,
  λ below. (a.catalogue_kept (kept below), a.disk_kept (kept below), a.book_kept (kept below)),
)
  where
    kept : ((n : ℕ) → r.code ≡ pos n → ⊥) → AltersBy c r.code → ⊥
    kept below x = let w = (code_alters_only c r.code x).0 in below w.0 w.1

-- a removal that gives back n: n is the number of copies of the definition, and at most the carries of f + n over the
-- 21 heights
pub code_removal_claims : (i n : ℕ) (cat d : List ℕ) (b : Book) (r : Returned) → CodeAgrees (remove i) cat d b r
    → r.code ≡ pos n → CopiesClaimed i n cat b
code_removal_claims i n cat d b r a e = (λ l f. a.copies i n l f refl e, λ x. a.limit i n x refl e)

-- and so does a replacement, n being that of the file that goes
pub code_replacement_claims : (i n : ℕ) (bs cat d : List ℕ) (b : Book) (r : Returned)
    → CodeAgrees (replace i bs) cat d b r → r.code ≡ pos n → CopiesClaimed i n cat b
code_replacement_claims i n bs cat d b r a e = (λ l f. a.copies i n l f refl e, λ x. a.limit i n x refl e)

-- breaks that give back n: the pages of the file, in the blocks of its pieces in page order, at which the one before is
-- not in the block right before; and at most the ones of the file's blocks less one
pub code_breaks_claims : (i n : ℕ) (cat d : List ℕ) (b : Book) (r : Returned) → CodeAgrees (breaks i) cat d b r
    → r.code ≡ pos n → BreaksClaimed i n cat b
code_breaks_claims i n cat d b r a e = (
  λ l f w there. a.breaks_answer i n l f refl e w there ∙ breaks-at-pages f.pieces,
  λ x. a.breaks_limit i n x refl e,
)

-- ---- a list

-- it is claimed of each call, on what the one before it left, and of what the last one leaves
pub each_code_claimed : (v : Version) (c : ExportedCall) (cs : List ExportedCall) (cat d : List ℕ) (b : Book)
    → CodesFollow v (c ∷ cs) cat d b
    → CodeAgrees c.listed.call cat d b c.gave
    × CodesFollow v cs c.gave.catalogue c.gave.disk (in_book c.listed.call b).book
each_code_claimed v c cs cat d b f = f

pub code_end_claimed : (v : Version) (cat d : List ℕ) (b : Book) → CodesFollow v [] cat d b → Afterwards v cat d b
code_end_claimed v cat d b f = f

-- ---- whatever the bytes

-- minus a number leaves every buffer
pub exported_refusal_keeps : ExportedList → (c : Call) (cat d : List ℕ) (r : Returned)
    → AsPromised (perform c cat d) r → (n : ℕ) → 1 ≤ n → r.code ≡ neg_ℤ (pos n)
    → (r.catalogue ≡ cat) × (r.disk ≡ d) × (r.output ≡ output_of c)
exported_refusal_keeps w c cat d r p n some e =
    w.refused_keeps c cat d r p (λ m q. codes-apart n m some (sym e ∙ q))

pub exported_format_keeps : ExportedList → (cat d : List ℕ) (r : Returned) → AsPromised (format_outcome cat d) r
    → (r.disk ≡ d) × ((n : ℕ) → 1 ≤ n → r.code ≡ neg_ℤ (pos n) → r.catalogue ≡ cat)
exported_format_keeps w cat d r p = (
  w.format_disk cat d r p,
  λ n some e. w.format_refused cat d r p (λ m q. codes-apart n m some (sym e ∙ q)),
)

-- a removal on any sound catalogue is within the carries of f + n over the 21 heights
pub exported_limit : ExportedList → (cat d : List ℕ) (r : Returned) (l : Layout) (i n : ℕ) (f : File)
    → AsPromised (perform (remove i) cat d) r → CatalogueOf cat l → find_file i l.files ≡ found f
    → r.code ≡ pos n → n ≤ carries 21 (free_blocks l) (file_blocks f)
exported_limit w cat d r l i n f = w.limit (remove i) cat d r l i n f refl

-- and so is a replacement
pub exported_replacement_limit : ExportedList → (bs cat d : List ℕ) (r : Returned) (l : Layout) (i n : ℕ) (f : File)
    → AsPromised (perform (replace i bs) cat d) r → CatalogueOf cat l → find_file i l.files ≡ found f
    → r.code ≡ pos n → n ≤ carries 21 (free_blocks l) (file_blocks f)
exported_replacement_limit w bs cat d r l i n f = w.limit (replace i bs) cat d r l i n f refl

-- breaks on any sound catalogue are at most the ones of the file's blocks less one
pub exported_breaks_limit : ExportedList → (cat d : List ℕ) (r : Returned) (l : Layout) (i n : ℕ) (f : File)
    → AsPromised (perform (breaks i) cat d) r → CatalogueOf cat l → find_file i l.files ≡ found f
    → r.code ≡ pos n → n ≤ ones (file_blocks f) - 1
exported_breaks_limit w = w.breaks_limit

-- on any sound catalogue the pieces of a file are no more than powers of two that sum to its blocks, and the free pieces
-- no more than those that sum to the free blocks
pub exported_has_fewest : ExportedList → (cat : List ℕ) (l : Layout) → CatalogueOf cat l → NoMorePieces 2 l
exported_has_fewest w cat l s = layout_no_more 2 l (w.fewest cat l s)

-- nor are the reads of a file, which are one more than the breaks given back
pub exported_reads : ExportedList → (cat d : List ℕ) (r : Returned) (l : Layout) (i n : ℕ) (f : File)
    → AsPromised (perform (breaks i) cat d) r → CatalogueOf cat l → find_file i l.files ≡ found f
    → r.code ≡ pos n → (hs : List ℕ) → sum_of (λ h. 2 ^ h) hs ≡ file_blocks f → suc n ≤ length hs
exported_reads w cat d r l i n f p s there e =
    reads_within cat l s i n f there (w.breaks_limit cat d r l i n f p s there e)

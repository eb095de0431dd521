-- The limit on the breaks of a file: the ones of n less one, on every sound catalogue, and beside the book on what
-- stands. Assumes nothing.
use mathlib.Core.Bool.{Bool, false, not, true}
use mathlib.Core.List.{List, [], ◌∷◌}
use mathlib.Core.Path.{◌∙◌, ◌≡◌, ap, refl, subst, sym}
use Prim.Native.Nat.{◌-◌, ◌≤◌, ℕ}
use native.Mathlib.Omega.{arith}
use lib.Count.{ones}
use lib.Dec.{eqb}
use lib.ListN.{length}
use Rattle.catalogue.proofs.Roomy.{roomy}
use Rattle.catalogue.specs.Version.{OneOf, versions}
use Rattle.catalogue.specs.declared.Version.{Version}
use Rattle.layout.proofs.Finding.{find_file_lem, found_find}
use Rattle.layout.proofs.SoundPieces.{file-breaks}
use Rattle.layout.specs.Layout.{File, Found, Layout, breaks_of, file_blocks, find_file, found, is_found, missing}
use Rattle.manager.proofs.Lines.{line_with_lem, line_found, pages-length}
use Rattle.manager.proofs.OnSound.{breaks_on_sound}
use Rattle.manager.proofs.Replies.{answered_same, refused_answered}
use Rattle.manager.proofs.Standing.{Standing}
use Rattle.manager.specs.Book.{Book, Line, line, line_with}
use Rattle.manager.specs.Call.{breaks}
use Rattle.manager.specs.Conditions.{answered, condition, first_refusal, reply_unless}
use Rattle.manager.specs.Outcomes.{breaks_found, breaks_reply, perform}
use Rattle.manager.specs.Table.{CatalogueOf}
use Rattle.manager.specs.WholeList.{line_on}

-- on every sound catalogue
pub breaks_limit : (cat d : List ℕ) (l : Layout) (i k : ℕ) (f : File) → CatalogueOf cat l
    → find_file i l.files ≡ found f → (perform (breaks i) cat d).reply ≡ answered k → k ≤ ones (file_blocks f) - 1
unfolding first_refusal
breaks_limit cat d l i k f w e r =
    go (eqb i 0) (find_file i l.files) e
    (sym (breaks_on_sound w.version (roomy w.known) l w.rules i)
    ∙ (ap (breaks_reply i) (sym w.encoded) ∙ r))
  where
    most : breaks_of f.pieces ≤ ones (file_blocks f) - 1
    most =
        find_file_lem {P = λ (g : File). breaks_of g.pieces ≤ ones (file_blocks g) - 1}
        (found_find i l.files f e).1 (file-breaks w.version.heights l w.rules)

    go : (t5 : Bool) (x : Found) → x ≡ found f
        → reply_unless (first_refusal (condition 5 t5 ∷ condition 6 (not (is_found x)) ∷ [])) (breaks_found x)
        ≡ answered k
        → k ≤ ones (file_blocks f) - 1
    go true x p q = absurd (refused_answered 5 k q)
    go false missing p q = absurd (refused_answered 6 k q)
    go false (found g) p q =
        let same : g ≡ f = cc in
        let n = answered_same (breaks_of g.pieces) k q in
        let m = ap (λ (y : File). breaks_of y.pieces) same in
        omega (arith, most, n, m)

-- n being the count of the line's pages
pub line_breaks_limit : (v : Version) → OneOf v versions → (cat d : List ℕ) (b : Book) → Standing v cat d b → (i k : ℕ)
    (x : Line) → (perform (breaks i) cat d).reply ≡ answered k → line_with i b.lines ≡ line x
    → k ≤ ones (length x.pages) - 1
line_breaks_limit v known cat d b t i k x r e =
    go (find_file i t.layout.files) (λ f p. breaks_limit cat d t.layout i k f sound p r) (sym lines ∙ e)
  where
    sound : CatalogueOf cat t.layout
    sound = record { version = v; known = known; encoded = t.encoded; rules = t.rules }

    lines : line_with i b.lines ≡ line_found d (find_file i t.layout.files)
    lines = ap (λ (z : Book). line_with i z.lines) t.book ∙ line_with_lem d i t.layout.files

    go : (y : Found) → ((f : File) → y ≡ found f → k ≤ ones (file_blocks f) - 1) → line_found d y ≡ line x
        → k ≤ ones (length x.pages) - 1
    go missing most p = absurd (let z : ◌≡◌ {A = ℕ} 0 1 = cc in omega arith)
    go (found f) most p =
        let same : line_on d f ≡ x = cc in
        subst (λ (z : Line). k ≤ ones (length z.pages) - 1) same
        (subst (λ n. k ≤ ones n - 1) (sym (pages-length d f.pieces)) (most f refl))

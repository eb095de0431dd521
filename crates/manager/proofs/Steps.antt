-- Each call agrees with the book and leaves what stood before it or what the book writes. Assumes nothing.
use mathlib.Core.List.{List}
use mathlib.Core.Path.{◌∙◌, ◌≡◌, ap, refl, subst, sym}
use Prim.Native.Nat.{◌*◌, ◌-◌, ◌≤◌, ℕ}
use native.Mathlib.Omega.{arith}
use lib.ListN.{drop, length, replicate, take}
use Rattle.catalogue.specs.Encoding.{encode}
use Rattle.catalogue.specs.Roomy.{Roomy}
use Rattle.catalogue.specs.Version.{OneOf, versions}
use Rattle.catalogue.specs.declared.Version.{Version}
use Rattle.layout.specs.Carries.{carries}
use Rattle.layout.specs.Helping.{InCopyOrder}
use Rattle.layout.specs.Layout.{File, Layout, breaks_of, find_file, found}
use Rattle.layout.specs.Removing.{copies_of, removal}
use Rattle.layout.specs.Sound.{Sound}
use Rattle.manager.proofs.BreaksLimit.{line_breaks_limit}
use Rattle.manager.proofs.Replies.{refused_answered}
use Rattle.manager.proofs.Standing.{Standing, book_on}
use Rattle.manager.proofs.WhichCases.{zeros_behind}
use Rattle.manager.proofs.WhichFromSound.{ids_in_order}
use Rattle.manager.specs.Book.{Book, BookReply, BookStep, Line, book_free}
use Rattle.manager.specs.Book.{book_refuses, in_book, line, line_with}
use Rattle.manager.specs.Call.{Call, breaks, output_of}
use Rattle.manager.specs.Conditions.{Outcome, Reply, answered, outcome, refused}
use Rattle.manager.specs.Outcomes.{perform}
use Rattle.manager.specs.Table.{CatalogueOf}
use Rattle.manager.specs.WholeList.{Alters, CallAgrees, OutputsAgree, RepliesAgree, Strikes}
use Rattle.section.specs.Limits.{block_size, height_count, most_files}
use Rattle.catalogue.proofs.Roomy.{roomy}
use Rattle.catalogue.proofs.Versions.{encoded_once}

-- one call's claims over any outcome and any step of the book, and what stands afterwards
pub record StepClaim (v : Version) (c : Call) (cat d : List ℕ) (b : Book) (o : Outcome)
    (s : BookStep) : Type 0 where
  pub reply : RepliesAgree o.reply s.reply
  pub output : OutputsAgree s.reply o.output s.output
  pub catalogue_kept : (Alters c o.reply → ⊥) → o.catalogue ≡ cat
  pub disk_kept : (Alters c o.reply → ⊥) → o.disk ≡ d
  pub book_kept : (Alters c o.reply → ⊥) → s.book ≡ b
  pub copies : (i k : ℕ) (l : Layout) (f : File) → Strikes i c → o.reply ≡ answered k → CatalogueOf cat l
      → find_file i l.files ≡ found f → k ≡ length (copies_of (removal height_count f l))
  pub limit : (i k : ℕ) (x : Line) → Strikes i c → o.reply ≡ answered k → line_with i b.lines ≡ line x
      → k ≤ carries height_count (book_free b) (length x.pages)
  pub breaks_answer : (i k : ℕ) (l : Layout) (f : File) → c ≡ breaks i → o.reply ≡ answered k → CatalogueOf cat l
      → find_file i l.files ≡ found f → k ≡ breaks_of f.pieces
  pub standing : Standing v o.catalogue o.disk s.book

-- the claims of specs/WholeList, from those on a call's own outcome
pub claim_agrees : (v : Version) → OneOf v versions → (c : Call) (cat d : List ℕ) (b : Book) → Standing v cat d b
    → StepClaim v c cat d b (perform c cat d) (in_book c b) → CallAgrees c cat d b
claim_agrees v known c cat d b t s = record {
  reply = s.reply;
  output = s.output;
  catalogue_kept = s.catalogue_kept;
  disk_kept = s.disk_kept;
  book_kept = s.book_kept;
  copies = s.copies;
  limit = s.limit;
  breaks_answer = s.breaks_answer;
  breaks_limit =
      λ i k x e r q.
      (let most = line_breaks_limit v known cat d b t i k x (subst (λ z. (perform z cat d).reply ≡ answered k) e r) q in
      omega (arith, most));
  which_order =
      λ n k o l e r w.
      subst (λ x. InCopyOrder height_count l (take k (perform x cat d).output)) (sym e)
      (ids_in_order n o cat d l w k (subst (λ x. (perform x cat d).reply ≡ answered k) e r));
  which_zeros =
      λ n k o e r.
      subst (λ x. drop k (perform x cat d).output ≡ replicate (most_files - k) 0) (sym e)
      (zeros_behind n o cat d k (subst (λ x. (perform x cat d).reply ≡ answered k) e r));
}

module _ (v : Version) (room : Roomy v) (l : Layout) (s : Sound v.heights l) (d : List ℕ)
    (ld : length d ≡ block_size * l.blocks) where
  abbrev cat : List ℕ
  cat = encode v l

  abbrev b : Book
  b = book_on d l

  stands : Standing v cat d b
  stands = record { layout = l; encoded = refl; rules = s; disk_length = ld; book = refl }

  -- the layout of the catalogue is no other
  pub same_layout : (m : Layout) → CatalogueOf (encode v l) m → m ≡ l
  same_layout m w = (encoded_once w.version v (roomy w.known) room m l w.rules s (sym w.encoded)).1

  pub same_file : (i : ℕ) (m : Layout) (f g : File) → CatalogueOf (encode v l) m → find_file i m.files ≡ found f
      → find_file i l.files ≡ found g → f ≡ g
  same_file i m f g w p q =
      let e : find_file i m.files ≡ find_file i l.files =
      ap (λ (z : Layout). find_file i z.files) (same_layout m w) in
      let r : found f ≡ found g = sym p ∙ (e ∙ q) in
      cc

  -- a call that both refuse with one number
  pub refused_claim : (c : Call) (n : ℕ)
      → StepClaim v c cat d b (outcome (refused n) cat d (output_of c)) (book_refuses n b (output_of c))
  refused_claim c n = record {
    reply = refl;
    output = refl;
    catalogue_kept = λ _. refl;
    disk_kept = λ _. refl;
    book_kept = λ _. refl;
    copies = λ i k m f e r. absurd (refused_answered n k r);
    limit = λ i k x e r. absurd (refused_answered n k r);
    breaks_answer = λ i k m f e r. absurd (refused_answered n k r);
    standing = stands;
  }

  -- a reply of a call that alters nothing
  pub kept_claim : (c : Call) (x : Reply) (r : BookReply) (o p : List ℕ) → RepliesAgree x r → OutputsAgree r o p
      → ((i : ℕ) → Strikes i c → ⊥)
      → ((i k : ℕ) (m : Layout) (f : File) → c ≡ breaks i → x ≡ answered k → CatalogueOf cat m
      → find_file i m.files ≡ found f → k ≡ breaks_of f.pieces)
      → StepClaim v c cat d b (outcome x cat d o) (record { reply = r; book = b; output = p })
  kept_claim c x r o p agree same notStruck breaks-is = record {
    reply = agree;
    output = same;
    catalogue_kept = λ _. refl;
    disk_kept = λ _. refl;
    book_kept = λ _. refl;
    copies = λ i k m f e. absurd (notStruck i e);
    limit = λ i k x e. absurd (notStruck i e);
    breaks_answer = breaks-is;
    standing = stands;
  }

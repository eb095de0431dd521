-- What an answered add, removal or replacement claims, and what stands after it. Assumes nothing.
use mathlib.Core.List.{List, [], map}
use mathlib.Core.Path.{◌∙◌, ◌≡◌, ap, ap₂, refl, subst, sym}
use Prim.Native.Nat.{◌*◌, ◌≤◌, ℕ}
use native.Mathlib.Omega.{arith}
use lib.ListN.{length}
use Rattle.catalogue.specs.Encoding.{encode}
use Rattle.catalogue.specs.Roomy.{Roomy}
use Rattle.catalogue.specs.declared.Version.{Version}
use Rattle.layout.proofs.Finding.{find_id, found_find}
use Rattle.layout.specs.Adding.{with_file}
use Rattle.layout.specs.Carries.{carries}
use Rattle.layout.specs.Layout.{File, Layout, file_blocks, find_file, found, free_blocks}
use Rattle.layout.specs.Moves.{same}
use Rattle.layout.specs.Removing.{copies_of, layout_after, release, removal}
use Rattle.layout.specs.Sound.{Sound}
use Rattle.manager.proofs.Lines.{line_with_lem, line_found, pages-length}
use Rattle.manager.proofs.Replies.{answered_same}
use Rattle.manager.proofs.Standing.{book_free_lem, book_on}
use Rattle.manager.specs.Book.{Book, Line, answers, any_number, book_answers, book_free}
use Rattle.manager.specs.Book.{book_pages, content_pages, line, line_with, strike_line}
use Rattle.manager.specs.Book.{write_line}
use Rattle.manager.specs.Call.{add, remove, replace}
use Rattle.manager.specs.Changes.{Adds, RemovesFrom, Replaces, without}
use Rattle.manager.specs.Conditions.{Outcome, answered}
use Rattle.manager.specs.Table.{CatalogueOf}
use Rattle.manager.specs.WholeList.{Answered, RepliesAgree, line_on}
use Rattle.section.specs.Limits.{block_size, height_count}
use Rattle.manager.proofs.Steps.{StepClaim, same_file, same_layout}

module _ (v : Version) (room : Roomy v) (l : Layout) (s : Sound v.heights l) (d : List ℕ)
    (ld : length d ≡ block_size * l.blocks) where
  abbrev cat : List ℕ
  cat = encode v l

  abbrev b : Book
  b = book_on d l

  -- an answered add
  pub add_claim : (i : ℕ) (bs : List ℕ) (o : Outcome) → Adds v l d i bs o
      → StepClaim v (add i bs) cat d b o (book_answers (book_pages bs) (record {
        blocks = l.blocks;
        lines = write_line (record { id = i; pages = content_pages bs }) (map (line_on d) l.files);
      }) [])
  add_claim i bs o a = record {
    reply = subst (λ r. RepliesAgree r (answers (book_pages bs))) (sym a.reply) refl;
    output = a.output;
    catalogue_kept = λ z. absurd (z (subst Answered (sym a.reply) tt));
    disk_kept = λ z. absurd (z (subst Answered (sym a.reply) tt));
    book_kept = λ z. absurd (z (subst Answered (sym a.reply) tt));
    copies = λ j k m f e. absurd e;
    limit = λ j k x e. absurd e;
    breaks_answer = λ j k m f e r. absurd (let z : ◌≡◌ {A = ℕ} 0 1 = cc in omega arith);
    standing = record {
      layout = with_file i a.pieces a.rest l;
      encoded = a.catalogue;
      rules = a.sound_after;
      disk_length = a.disk_length;
      book = λ j. record { blocks = l.blocks; lines = sym a.lines j };
    };
  }

  -- the number that a removal or a replacement of the file f answers
  module _ (i : ℕ) (f : File) (o : Outcome) (e : find_file i l.files ≡ found f)
      (reply : o.reply ≡ answered (length (copies_of (removal height_count f l))))
      (within : length (copies_of (removal height_count f l)) ≤ carries height_count (free_blocks l) (file_blocks f)) where
    number_copies : (j k : ℕ) (m : Layout) (g : File) → j ≡ i → o.reply ≡ answered k → CatalogueOf cat m
        → find_file j m.files ≡ found g → k ≡ length (copies_of (removal height_count g m))
    number_copies j k m g z r w p =
        let same = same_file v room l s d ld i m g f w (ap (λ t. find_file t m.files) (sym z) ∙ p) e in
        answered_same k (length (copies_of (removal height_count f l))) (sym r ∙ reply)
        ∙ ap₂ (λ (x : File) (y : Layout). length (copies_of (removal height_count x y))) (sym same)
        (sym (same_layout v room l s d ld m w))

    number_limit : (j k : ℕ) (x : Line) → j ≡ i → o.reply ≡ answered k
        → line_with j (map (line_on d) l.files) ≡ line x
        → k ≤ carries height_count (book_free (book_on d l)) (length x.pages)
    number_limit j k x z r p =
        let n = answered_same k (length (copies_of (removal height_count f l))) (sym r ∙ reply) in
        let q : line (line_on d f) ≡ line x = sym (line_with_lem d i l.files ∙ ap (line_found d) e)
        ∙ (ap (λ t. line_with t (map (line_on d) l.files)) (sym z) ∙ p) in
        let lines : line_on d f ≡ x = cc in
        let pages : file_blocks f ≡ length x.pages =
        sym (pages-length d f.pieces) ∙ ap (λ (y : Line). length y.pages) lines in
        subst (λ m. m ≤ carries height_count (book_free (book_on d l)) (length x.pages)) (sym n)
        (subst (λ m. length (copies_of (removal height_count f l)) ≤ m)
        (ap₂ (carries height_count) (sym (book_free_lem d l)) pages) within)

  -- an answered removal
  pub remove_claim : (i : ℕ) (f : File) (o : Outcome) → find_file i l.files ≡ found f → RemovesFrom v l d f o
      → StepClaim v (remove i) cat d b o (record {
        reply = any_number;
        book = record { blocks = l.blocks; lines = strike_line i (map (line_on d) l.files) };
        output = [];
      })
  remove_claim i f o e a = record {
    reply = subst (λ r. RepliesAgree r any_number) (sym a.reply) tt;
    output = a.output;
    catalogue_kept = λ z. absurd (z (subst Answered (sym a.reply) tt));
    disk_kept = λ z. absurd (z (subst Answered (sym a.reply) tt));
    book_kept = λ z. absurd (z (subst Answered (sym a.reply) tt));
    copies = number_copies i f o e a.reply a.limit;
    limit = number_limit i f o e a.reply a.limit;
    breaks_answer = λ j k m g q r. absurd (let z : ◌≡◌ {A = ℕ} 0 1 = cc in omega arith);
    standing = record {
      layout = layout_after (release f l) (removal height_count f l);
      encoded = a.catalogue;
      rules = a.sound_after;
      disk_length = a.disk_length ∙ ap (λ z. block_size * z) (sym a.blocks);
      book = λ j. record {
        blocks = sym a.blocks j;
        lines = (ap (λ z. strike_line z (map (line_on d) l.files)) (sym id) ∙ sym a.lines) j;
      };
    };
  }
    where
      id : f.id ≡ i
      id = find_id (found_find i l.files f e).1

  -- an answered replacement
  pub replace_claim : (i : ℕ) (bs : List ℕ) (f : File) (o : Outcome) → find_file i l.files ≡ found f
      → Replaces v l d i f bs o
      → StepClaim v (replace i bs) cat d b o (record {
        reply = any_number;
        book = record {
          blocks = l.blocks;
          lines =
              write_line (record { id = i; pages = content_pages bs }) (strike_line i (map (line_on d) l.files));
        };
        output = [];
      })
  replace_claim i bs f o e a = record {
    reply = subst (λ r. RepliesAgree r any_number) (sym a.reply) tt;
    output = a.output;
    catalogue_kept = λ z. absurd (z (subst Answered (sym a.reply) tt));
    disk_kept = λ z. absurd (z (subst Answered (sym a.reply) tt));
    book_kept = λ z. absurd (z (subst Answered (sym a.reply) tt));
    copies = number_copies i f o e a.reply a.removed.limit;
    limit = number_limit i f o e a.reply a.removed.limit;
    breaks_answer = λ j k m g q r. absurd (let z : ◌≡◌ {A = ℕ} 0 1 = cc in omega arith);
    standing = record {
      layout = with_file i a.added.pieces a.added.rest (without l f);
      encoded = a.catalogue ∙ a.added.catalogue;
      rules = a.added.sound_after;
      disk_length = ap length a.disk ∙ a.added.disk_length;
      book = λ j. record { blocks = sym a.removed.blocks j; lines = sym a.lines j };
    };
  }

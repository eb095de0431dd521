-- The manager agrees with the book at every call on what stands: condition by condition. Assumes nothing.
use mathlib.Core.Bool.{Bool, cond, false, not, true}
use mathlib.Core.List.{List, [], ◌∷◌, map}
use mathlib.Core.Path.{◌∙◌, ◌≡◌, ap, refl, subst, sym}
use Prim.Native.Nat.{◌*◌, ◌+◌, ◌≤◌, ℕ}
use native.Mathlib.Omega.{arith}
use lib.Dec.{eqb, leb, ltb}
use lib.ListN.{drop, length, length-map, take}
use borrow.Author.Tests.{eqb-false, leb-false, ltb-false}
use Rattle.catalogue.specs.Encoding.{encode}
use Rattle.catalogue.specs.Roomy.{Roomy}
use Rattle.catalogue.specs.declared.Version.{Version}
use Rattle.layout.specs.Adding.{allocate}
use Rattle.layout.specs.Layout.{File, Found, Layout, breaks_of, file_blocks, find_file, found, free_blocks, has_file}
use Rattle.layout.specs.Layout.{is_found, missing}
use Rattle.layout.specs.Moves.{same}
use Rattle.layout.specs.Removing.{release, removal}
use Rattle.layout.specs.Sound.{Sound, greatest_id}
use Rattle.manager.proofs.AddFromSound.{adds}
use Rattle.manager.proofs.Contents.{bytes-of, whole_unpaged}
use Rattle.manager.proofs.Lines.{line_with_lem, line_found, noted-file, pages-length}
use Rattle.manager.proofs.OnSound.{add_on_sound, breaks_on_sound, check_on_sound, free_on_sound}
use Rattle.manager.proofs.OnSound.{read_on_sound, remove_on_sound}
use Rattle.manager.proofs.RemoveFromSound.{removes}
use Rattle.manager.proofs.ReplaceAgrees.{replace_agrees}
use Rattle.manager.proofs.Replies.{answered_same}
use Rattle.manager.proofs.Standing.{book_free_lem, book_on}
use Rattle.manager.proofs.ChangeClaims.{add_claim, remove_claim}
use Rattle.manager.proofs.Steps.{StepClaim, kept_claim, refused_claim, same_file}
use Rattle.manager.proofs.WhichAgrees.{which_agrees}
use Rattle.manager.specs.Book.{Book, BookStep, answers, any_number, book_add, book_answers, book_breaks, book_free}
use Rattle.manager.specs.Book.{book_pages, book_read, book_read_line, book_refuses, book_remove, bytes_of}
use Rattle.manager.specs.Book.{content_pages, in_book, strike_line, write_line}
use Rattle.manager.specs.Call.{Call, TwoByteId, add, breaks, check, free, read, remove, replace, which}
use Rattle.manager.specs.Conditions.{Outcome, answered, beyond, condition, first_refusal, outcome, reply_unless}
use Rattle.manager.specs.Conditions.{unless_refused, unpaged}
use Rattle.manager.specs.Disk.{join_pages, page_count, pages_on}
use Rattle.manager.specs.Outcomes.{add_outcome, add_pieces, after_merges, breaks_found, breaks_reply, check_reply}
use Rattle.manager.specs.Outcomes.{free_reply, perform, read_found, read_outcome, remove_found, remove_outcome}
use Rattle.manager.specs.WholeList.{line_on}
use Rattle.section.specs.Limits.{block_size, most_files, height_count}

module _ (v : Version) (room : Roomy v) (l : Layout) (s : Sound v.heights l) (d : List ℕ)
    (ld : length d ≡ block_size * l.blocks) where
  abbrev cat : List ℕ
  cat = encode v l

  abbrev b : Book
  b = book_on d l

  abbrev Claim : Call → Outcome → BookStep → Type 0
  Claim c o t = StepClaim v c cat d b o t

  add_agrees : (i : ℕ) (bs : List ℕ) → i ≤ greatest_id → Claim (add i bs) (add_outcome i bs cat d) (book_add i bs b)
  unfolding first_refusal
  add_agrees i bs most =
      subst (λ o. Claim (add i bs) o (book_add i bs b)) (sym (add_on_sound v room l s d ld i bs))
      (rw (noted-file d i l.files, whole_unpaged bs, length-map l.files (line_on d), book_free_lem d l)
      (go (eqb i 0) refl (has_file i l.files) refl (unpaged bs) refl (leb most_files (length l.files)) refl
      (ltb (free_blocks l) (page_count bs)) refl))
    where
      go : (t5 : Bool) → eqb i 0 ≡ t5 → (t7 : Bool) → has_file i l.files ≡ t7 → (t8 : Bool) → unpaged bs ≡ t8
          → (t10 : Bool) → leb most_files (length l.files) ≡ t10 → (t11 : Bool)
          → ltb (free_blocks l) (page_count bs) ≡ t11
          → Claim (add i bs)
          (unless_refused
          (first_refusal
          (condition 5 t5 ∷ condition 7 t7 ∷ condition 8 t8 ∷ condition 10 t10 ∷ condition 11 t11 ∷ []))
          cat d [] (add_pieces v i bs cat d l (allocate 0 height_count (page_count bs) l.free)))
          (cond t5 (book_refuses 5 b [])
          (cond t7 (book_refuses 7 b [])
          (cond t8 (book_refuses 8 b [])
          (cond t10 (book_refuses 10 b [])
          (cond t11 (book_refuses 11 b [])
          (book_answers (book_pages bs) (record {
            blocks = l.blocks;
            lines = write_line (record { id = i; pages = content_pages bs }) (map (line_on d) l.files);
          }) []))))))
      go true e t7 e7 t8 e8 t10 e10 t11 e11 = refused_claim v room l s d ld (add i bs) 5
      go false e true e7 t8 e8 t10 e10 t11 e11 = refused_claim v room l s d ld (add i bs) 7
      go false e false e7 true e8 t10 e10 t11 e11 = refused_claim v room l s d ld (add i bs) 8
      go false e false e7 false e8 true e10 t11 e11 = refused_claim v room l s d ld (add i bs) 10
      go false e false e7 false e8 false e10 true e11 = refused_claim v room l s d ld (add i bs) 11
      go false e false e7 false e8 false e10 false e11 =
          let nonzero = eqb-false i 0 e in
          let least : 1 ≤ i = omega (arith, nonzero) in
          add_claim v room l s d ld i bs
          (add_pieces v i bs cat d l (allocate 0 height_count (page_count bs) l.free))
          (adds v room l s d ld i bs least most e7 e8 (leb-false most_files (length l.files) e10)
          (ltb-false (free_blocks l) (page_count bs) e11))

  remove_agrees : (i : ℕ) → Claim (remove i) (remove_outcome i cat d) (book_remove i b)
  unfolding first_refusal
  remove_agrees i =
      subst (λ o. Claim (remove i) o (book_remove i b)) (sym (remove_on_sound v room l s d ld i))
      (rw (noted-file d i l.files) (go (eqb i 0) refl (find_file i l.files) refl))
    where
      go : (t5 : Bool) → eqb i 0 ≡ t5 → (x : Found) → find_file i l.files ≡ x
          → Claim (remove i)
          (unless_refused (first_refusal (condition 5 t5 ∷ condition 6 (not (is_found x)) ∷ [])) cat d []
          (remove_found v cat d l x))
          (cond t5 (book_refuses 5 b []) (cond (not (is_found x)) (book_refuses 6 b []) (record {
            reply = any_number;
            book = record { blocks = l.blocks; lines = strike_line i (map (line_on d) l.files) };
            output = [];
          })))
      go true e x e6 = refused_claim v room l s d ld (remove i) 5
      go false e missing e6 = refused_claim v room l s d ld (remove i) 6
      go false e (found f) e6 =
          remove_claim v room l s d ld i f (after_merges v (release f l) d (removal height_count f l)) e6
          (removes v room l s d ld i f e6)

  read_agrees : (i p : ℕ) (o : List ℕ) → Claim (read i p o) (read_outcome i p o cat d) (book_read i p o b)
  unfolding first_refusal
  read_agrees i p o =
      subst (λ x. Claim (read i p o) x (book_read i p o b)) (sym (read_on_sound v room l s d ld i p o))
      (rw (line_with_lem d i l.files) (go (eqb i 0) refl (find_file i l.files) refl))
    where
      inner : (f : File) → find_file i l.files ≡ found f → (t8 : Bool) → (t9 : Bool)
          → Claim (read i p o)
          (unless_refused (first_refusal (condition 8 t8 ∷ condition 9 t9 ∷ [])) cat d o
          (read_found p o cat d (found f)))
          (cond t8 (book_refuses 8 b o)
          (cond t9 (book_refuses 9 b o)
          (book_answers (book_pages o) b (bytes_of (take (book_pages o) (drop p (pages_on d f.pieces)))))))
      inner f e true t9 = refused_claim v room l s d ld (read i p o) 8
      inner f e false true = refused_claim v room l s d ld (read i p o) 9
      inner f e false false =
          subst (λ z. Claim (read i p o) (read_found p o cat d (found f)) (book_answers (book_pages o) b z))
          (sym (bytes-of (take (book_pages o) (drop p (pages_on d f.pieces)))))
          (kept_claim v room l s d ld (read i p o) (answered (page_count o)) (answers (book_pages o))
          (join_pages (take (page_count o) (drop p (pages_on d f.pieces))))
          (join_pages (take (page_count o) (drop p (pages_on d f.pieces)))) refl refl
          (λ j e. e)
          (λ j k m g z. absurd (let q : ◌≡◌ {A = ℕ} 0 1 = cc in omega arith)))

      go : (t5 : Bool) → eqb i 0 ≡ t5 → (x : Found) → find_file i l.files ≡ x
          → Claim (read i p o)
          (unless_refused
          (first_refusal (condition 5 t5 ∷ condition 6 (not (is_found x)) ∷ condition 8 (unpaged o)
          ∷ condition 9 (beyond x p (page_count o)) ∷ [])) cat d o (read_found p o cat d x))
          (cond t5 (book_refuses 5 b o) (book_read_line p o b (line_found d x)))
      go true e x e6 = refused_claim v room l s d ld (read i p o) 5
      go false e missing e6 = refused_claim v room l s d ld (read i p o) 6
      go false e (found f) e6 =
          rw (whole_unpaged o, pages-length d f.pieces)
          (inner f e6 (unpaged o) (ltb (file_blocks f) (p + page_count o)))

  breaks_agrees : (i : ℕ) → Claim (breaks i) (outcome (breaks_reply i cat) cat d []) (book_breaks i b)
  unfolding first_refusal
  breaks_agrees i =
      subst (λ r. Claim (breaks i) (outcome r cat d []) (book_breaks i b)) (sym (breaks_on_sound v room l s i))
      (rw (noted-file d i l.files) (go (eqb i 0) refl (find_file i l.files) refl))
    where
      go : (t5 : Bool) → eqb i 0 ≡ t5 → (x : Found) → find_file i l.files ≡ x
          → Claim (breaks i)
          (outcome
          (reply_unless (first_refusal (condition 5 t5 ∷ condition 6 (not (is_found x)) ∷ [])) (breaks_found x)) cat d
          [])
          (cond t5 (book_refuses 5 b [])
          (cond (not (is_found x)) (book_refuses 6 b []) (record { reply = any_number; book = b; output = [] })))
      go true e x e6 = refused_claim v room l s d ld (breaks i) 5
      go false e missing e6 = refused_claim v room l s d ld (breaks i) 6
      go false e (found f) e6 =
          kept_claim v room l s d ld (breaks i) (answered (breaks_of f.pieces)) any_number [] [] tt refl
          (λ j e. e)
          (λ j k m g z r w q.
          (let same_id : i ≡ j = cc in
          let same = same_file v room l s d ld i m g f w (ap (λ t. find_file t m.files) same_id ∙ q) e6 in
          sym (answered_same (breaks_of f.pieces) k r) ∙ ap (λ (x : File). breaks_of x.pieces) (sym same)))

  free_agrees : Claim free (outcome (free_reply cat) cat d []) (book_answers (book_free b) b [])
  free_agrees =
      subst (λ r. Claim free (outcome r cat d []) (book_answers (book_free b) b [])) (sym (free_on_sound v room l s))
      (kept_claim v room l s d ld free (answered (free_blocks l)) (answers (book_free b)) [] [] (sym (book_free_lem d l)) refl
      (λ j e. e)
      (λ j k m g z. absurd (let q : ◌≡◌ {A = ℕ} 0 1 = cc in omega arith)))

  check_agrees : Claim check (outcome (check_reply cat d) cat d []) (book_answers l.blocks b [])
  check_agrees =
      subst (λ r. Claim check (outcome r cat d []) (book_answers l.blocks b []))
      (sym (check_on_sound v room l s d ld))
      (kept_claim v room l s d ld check (answered l.blocks) (answers l.blocks) [] [] refl refl
      (λ j e. e)
      (λ j k m g z. absurd (let q : ◌≡◌ {A = ℕ} 0 1 = cc in omega arith)))

  -- every call
  pub call_agrees : (c : Call) → TwoByteId c → Claim c (perform c cat d) (in_book c b)
  call_agrees (add i bs) most = add_agrees i bs most
  call_agrees (remove i) _ = remove_agrees i
  call_agrees (replace i bs) _ = replace_agrees v room l s d ld i bs
  call_agrees (read i p o) _ = read_agrees i p o
  call_agrees (breaks i) _ = breaks_agrees i
  call_agrees (which n o) _ = which_agrees v room l s d ld n o
  call_agrees free _ = free_agrees
  call_agrees check _ = check_agrees

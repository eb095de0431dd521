-- The claim about every list of exported calls, `ExportedList` of specs/ExportedList.antt, from the claim about every
-- list of calls. Assumes nothing.
use mathlib.Core.List.{List, [], ◌∷◌, map}
use mathlib.Core.Path.{◌∙◌, ◌≡◌, ap, refl, subst, sym}
use Prim.Native.Nat.{◌≤◌, ℕ}
use native.Mathlib.Omega.{arith}
use mathlib.Core.Logic.{◌⊎◌, inl, inr}
use lib.IntN.{pos}
use lib.ListN.{drop, take}
use Rattle.catalogue.specs.declared.Version.{Version}
use Rattle.layout.specs.Helping.{InCopyOrder}
use Rattle.manager.proofs.FormatAnswered.{format_answered}
use Rattle.manager.proofs.FormatRefusals.{format_lowest_refusal}
use Rattle.manager.proofs.OnlyWhich.{Ordered, format_never_fits, only_which_fits, ordered_or_which}
use Rattle.manager.proofs.RefusalNumbers.{book_refusal_numbers, refusal_numbers}
use Rattle.manager.proofs.Refusals.{format_refused_changes_nothing, refused_changes_nothing}
use Rattle.manager.proofs.Untouched.{format_keeps_disk}
use Rattle.manager.proofs.WhichCases.{which_count}
use Rattle.manager.proofs.WholeList.{whole_list}
use Rattle.manager.specs.Book.{Book, fresh_book, in_any_order, in_book, most_lines}
use Rattle.manager.specs.Call.{Call, ListedCall, breaks, output_of}
use Rattle.manager.specs.Claimed.{Asking}
use Rattle.manager.specs.Conditions.{Reply, answered, fits_already, refused}
use Rattle.manager.specs.Outcomes.{format_outcome, perform}
use Rattle.manager.specs.WholeList.{Alters, CallAgrees, Follows, OutputsAgree, RightLengths, Strikes}
use Rattle.section.specs.Limits.{height_count, most_files}
use Rattle.evdisk.proofs.CodesApart.{code-answer}
use Rattle.evdisk.proofs.CodesOfBook.{alters_by, code_of_book}
use Rattle.evdisk.proofs.Within.{breaks-apart}
use Rattle.evdisk.specs.Codes.{code_of, fits_number}
use Rattle.evdisk.specs.ExportedList.{AltersBy, AsPromised, CodeAgrees, CodesFollow, ExportedCall}
use Rattle.evdisk.specs.ExportedList.{ExportedList, Promised, Returned}

-- ---- a call

module _ (c : Call) (cat d : List ℕ) (r : Returned) (p : AsPromised (perform c cat d) r) where
  answer_by_code : (n : ℕ) → (Asking c → n ≡ fits_number → ⊥) → r.code ≡ pos n → (perform c cat d).reply ≡ answered n
  answer_by_code n other e =
      code-answer (perform c cat d).reply (λ m q. (refusal_numbers c cat d m q).0) n
      (λ q. other (only_which_fits c cat d q)) (sym p.answer ∙ e)

  -- a call that strikes a line is not `which`
  strikes_by_code : (i n : ℕ) → Strikes i c → r.code ≡ pos n → (perform c cat d).reply ≡ answered n
  strikes_by_code i n s = answer_by_code n (λ w _. subst (Strikes i) w.2 s)

  breaks_by_code : (i n : ℕ) → c ≡ breaks i → r.code ≡ pos n → (perform c cat d).reply ≡ answered n
  breaks_by_code i n b = answer_by_code n (λ w _. breaks-apart i w.0 w.1 (sym b ∙ w.2))

  -- and what `which` gives back is a count if it is at most 64
  count_by_code : (n : ℕ) → n ≤ most_files → r.code ≡ pos n → (perform c cat d).reply ≡ answered n
  count_by_code n few = answer_by_code n (λ _ e. omega (arith, few, e))

  few-counted : (b : Book) (m n : ℕ) → (perform c cat d).reply ≡ answered m → (in_book c b).reply ≡ in_any_order n
      → m ≤ most_lines
  few-counted b m n e q = go (ordered_or_which c b)
    where
      go : Ordered (in_book c b).reply ⊎ Asking c → m ≤ most_lines
      go (inl x) = absurd (subst Ordered q x)
      go (inr w) =
          which_count w.0 w.1 cat d m (subst (λ (x : Call). (perform x cat d).reply ≡ answered m) w.2 e)

  code_agrees : (b : Book) → CallAgrees c cat d b → CodeAgrees c cat d b r
  code_agrees b a = record {
    code =
        code_of_book (perform c cat d).reply (in_book c b).reply (λ n e. (book_refusal_numbers c b n e).0)
        (few-counted b) a.reply r.code p.answer;
    output =
        subst (λ z. OutputsAgree (in_book c b).reply z (in_book c b).output) (sym p.output) a.output;
    catalogue_kept = λ no. p.catalogue ∙ a.catalogue_kept (λ x. no (alters x));
    disk_kept = λ no. p.disk ∙ a.disk_kept (λ x. no (alters x));
    book_kept = λ no. a.book_kept (λ x. no (alters x));
    copies = λ i n l f e q. a.copies i n l f e (strikes_by_code i n e q);
    limit = λ i n x e q. a.limit i n x e (strikes_by_code i n e q);
    breaks_answer = λ i n l f e q. a.breaks_answer i n l f e (breaks_by_code i n e q);
    breaks_limit = λ i n x e q. a.breaks_limit i n x e (breaks_by_code i n e q);
    which_order =
        λ n k o l e q few w.
        subst (λ z. InCopyOrder height_count l (take k z)) (sym p.output)
        (a.which_order n k o l e (count_by_code k few q) w);
    which_zeros = λ n k o e q few. ap (drop k) p.output ∙ a.which_zeros n k o e (count_by_code k few q);
  }
    where
      alters : Alters c (perform c cat d).reply → AltersBy c r.code
      alters = alters_by c (perform c cat d).reply r.code p.answer

  -- a number below 0 comes from a refusal
  refused_kept : ((n : ℕ) → r.code ≡ pos n → ⊥)
      → (r.catalogue ≡ cat) × (r.disk ≡ d) × (r.output ≡ output_of c)
  refused_kept below = go (perform c cat d).reply refl
    where
      go : (y : Reply) → (perform c cat d).reply ≡ y
          → (r.catalogue ≡ cat) × (r.disk ≡ d) × (r.output ≡ output_of c)
      go (answered n) e = absurd (below n (p.answer ∙ ap code_of e))
      go (refused n) e =
          let u = refused_changes_nothing c cat d n e in
          (p.catalogue ∙ u.catalogue, p.disk ∙ u.disk, p.output ∙ u.output)
      go fits_already e = absurd (below fits_number (p.answer ∙ ap code_of e))

-- ---- a list

abbrev calls_of : List ExportedCall → List ListedCall
calls_of cs = map (λ (c : ExportedCall). c.listed) cs

codes_follow : (v : Version) (cs : List ExportedCall) (cat d : List ℕ) (b : Book) → Promised cs cat d
    → Follows v (calls_of cs) cat d b → CodesFollow v cs cat d b
codes_follow v [] cat d b ps f = f
codes_follow v (c ∷ cs) cat d b (p, ps) (a, f) =
    let call : Call = c.listed.call in
    let after : Book = (in_book call b).book in
    let kept = subst (λ z. Follows v (calls_of cs) z c.gave.disk after) (sym p.catalogue)
    (subst (λ z. Follows v (calls_of cs) (perform call cat d).catalogue z after) (sym p.disk) f) in
    (code_agrees call cat d c.gave p b a, codes_follow v cs c.gave.catalogue c.gave.disk after ps kept)

-- ---- format

module _ (cat d : List ℕ) (r : Returned) (p : AsPromised (format_outcome cat d) r) where
  format_by_code : (c : ℕ) → r.code ≡ pos c → (v : Version) × RightLengths v c cat d
  format_by_code c e =
      format_answered cat d c
      (code-answer (format_outcome cat d).reply some c (λ q _. format_never_fits cat d q) (sym p.answer ∙ e))
    where
      one : (n : ℕ) → (n ≡ 1) ⊎ (n ≡ 2) → 1 ≤ n
      one n (inl q) = omega (arith, q)
      one n (inr q) = omega (arith, q)

      some : (n : ℕ) → (format_outcome cat d).reply ≡ refused n → 1 ≤ n
      some n q = one n ((format_lowest_refusal cat d).no_other n q)

  format-kept : ((n : ℕ) → r.code ≡ pos n → ⊥) → r.catalogue ≡ cat
  format-kept below = go (format_outcome cat d).reply refl
    where
      go : (y : Reply) → (format_outcome cat d).reply ≡ y → r.catalogue ≡ cat
      go (answered n) e = absurd (below n (p.answer ∙ ap code_of e))
      go (refused n) e = p.catalogue ∙ (format_refused_changes_nothing cat d n e).catalogue
      go fits_already e = absurd (format_never_fits cat d e)

  format_list : (c : ℕ) → r.code ≡ pos c → (cs : List ExportedCall) → Promised cs r.catalogue r.disk
      → (v : Version) × RightLengths v c cat d × CodesFollow v cs r.catalogue r.disk (fresh_book c)
  format_list c e cs ps =
      let w = format_by_code c e in
      let v : Version = w.0 in
      let f = whole_list.list v c cat d w.1 (calls_of cs) in
      let kept = subst (λ z. Follows v (calls_of cs) z r.disk (fresh_book c)) (sym p.catalogue)
      (subst (λ z. Follows v (calls_of cs) (format_outcome cat d).catalogue z (fresh_book c)) (sym p.disk) f) in
      (v, w.1, codes_follow v cs r.catalogue r.disk (fresh_book c) ps kept)

-- ---- the claim: no premise is left

pub exported_list : ExportedList
exported_list = record {
  format_answers = λ v c cat d r p h. p.answer ∙ ap code_of (whole_list.format_answers v c cat d h);
  format_lengths = λ c cat d r p. format_by_code cat d r p c;
  format_disk = λ cat d r p. p.disk ∙ format_keeps_disk cat d;
  format_refused = format-kept;
  list = λ c cat d r p. format_list cat d r p c;
  refused_keeps = refused_kept;
  limit = λ c cat d r l i n f t p w e q. whole_list.limit c cat d l i n f t w e (strikes_by_code c cat d r p i n t q);
  breaks_limit =
      λ cat d r l i n f p w e q.
      whole_list.breaks_limit cat d l i n f w e (breaks_by_code (breaks i) cat d r p i n refl q);
  fewest = whole_list.fewest;
}

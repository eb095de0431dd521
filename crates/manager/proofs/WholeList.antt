-- The claim about the whole list of calls, `WholeList` of specs/WholeList.antt, proved in every version.
-- Assumes nothing.
use mathlib.Core.Bool.{Bool, ◌||◌, false, not, true}
use mathlib.Core.List.{List, [], ◌∷◌}
use mathlib.Core.Path.{◌∙◌, ◌≡◌, ap, ap₂, refl, subst, sym}
use Prim.Native.Nat.{◌-◌, ◌≤◌, ℕ}
use native.Mathlib.Omega.{arith}
use lib.Dec.{eqb}
use lib.ListN.{length}
use borrow.Author.Tests.{eq-eqb, le-ltb}
use Rattle.catalogue.proofs.Roomy.{roomy}
use Rattle.catalogue.specs.Encoding.{encode}
use Rattle.catalogue.specs.Roomy.{Roomy}
use Rattle.catalogue.specs.Version.{OneOf, greatest_blocks, version_for, versions}
use Rattle.catalogue.specs.declared.Version.{Version}
use Rattle.layout.proofs.Finding.{found_find}
use Rattle.layout.proofs.Removed.{removal_keeps}
use Rattle.layout.proofs.SoundPieces.{sound_fewest}
use Rattle.layout.specs.Carries.{carries}
use Rattle.layout.specs.Layout.{File, Found, Layout, file_blocks, find_file, found, free_blocks, fresh_layout, is_found}
use Rattle.layout.specs.Layout.{missing}
use Rattle.layout.specs.Lists.{done, more}
use Rattle.layout.specs.Moves.{same}
use Rattle.layout.specs.Removing.{copies_of, removal}
use Rattle.layout.specs.Sums.{SoundSums}
use Rattle.manager.proofs.Agreement.{call_agrees}
use Rattle.manager.proofs.BreaksLimit.{breaks_limit}
use Rattle.manager.proofs.CallEquations.{format_in_is}
use Rattle.manager.proofs.CanReplace.{replace_answers_removal}
use Rattle.manager.proofs.Contents.{length_paged}
use Rattle.manager.proofs.Judging.{none_applies}
use Rattle.manager.proofs.OnSound.{remove_on_catalogue}
use Rattle.manager.proofs.Replies.{answered_same, refused_answered}
use Rattle.manager.proofs.Standing.{Standing, standing_afterwards}
use Rattle.manager.proofs.Steps.{StepClaim, claim_agrees}
use Rattle.manager.specs.Book.{Book, fresh_book, in_book}
use Rattle.manager.specs.Call.{Call, ListedCall, TwoByteId, add, breaks, check, free, read, remove, replace}
use Rattle.manager.specs.Call.{which}
use Rattle.manager.specs.Conditions.{Outcome, allowed, answered, condition, first_refusal, format_conditions}
use Rattle.manager.specs.Conditions.{no_disk, outcome, unless_refused, wrong_catalogue, wrong_disk}
use Rattle.manager.specs.Disk.{page_count}
use Rattle.manager.specs.Outcomes.{format_in, format_outcome, perform, remove_found, remove_outcome}
use Rattle.manager.specs.Table.{CatalogueOf}
use Rattle.manager.specs.WholeList.{Follows, RightLengths, Strikes, WholeList}
use Rattle.section.specs.Limits.{height_count}
use Rattle.manager.proofs.AllHeights.{all_heights, fresh_in}

module _ (v : Version) (known : OneOf v versions) where
  -- a call on what stands
  standing_call : (c : Call) (cat d : List ℕ) (b : Book) → TwoByteId c → Standing v cat d b
      → StepClaim v c cat d b (perform c cat d) (in_book c b)
  standing_call c cat d b two t =
      subst (λ z. StepClaim v c z d b (perform c z d) (in_book c b)) (sym t.encoded)
      (subst (λ z. StepClaim v c (encode v t.layout) d z (perform c (encode v t.layout) d) (in_book c z))
      (sym t.book)
      (call_agrees v (roomy known) t.layout t.rules d t.disk_length c two))

  -- every list of calls from what stands
  pub standing_follows : (cs : List ListedCall) (cat d : List ℕ) (b : Book) → Standing v cat d b
      → Follows v cs cat d b
  standing_follows [] cat d b t = standing_afterwards v known cat d b t
  standing_follows (c ∷ cs) cat d b t =
      let s = standing_call c.call cat d b c.two_bytes t in (
        claim_agrees v known c.call cat d b t s,
        standing_follows cs (perform c.call cat d).catalogue (perform c.call cat d).disk
            (in_book c.call b).book s.standing,
      )

module _ (v : Version) (c : ℕ) (cat d : List ℕ) (h : RightLengths v c cat d) where
  room : Roomy v
  room = roomy h.known

  pick : version_for (length cat) ≡ v
  pick = ap version_for h.catalogue ∙ room.picked

  no_condition : first_refusal (format_conditions v cat d) ≡ allowed
  no_condition =
      let p = length_paged d c h.some h.disk in
      let size : wrong_catalogue v cat ≡ false = ap not (eq-eqb (length cat) v.bytes h.catalogue) in
      let disk : no_disk v d ≡ false =
      ap₂ (λ s t. s || t) p.0 (le-ltb (greatest_blocks v) (page_count d) (omega (arith, p.1, h.most))) in
      none_applies
      (more {a = condition 1 (wrong_catalogue v cat)} size (more {a = condition 2 (no_disk v d)} disk done))

  -- format on buffers of the right lengths
  pub format_is : format_outcome cat d ≡ outcome (answered c) (encode v (fresh_layout height_count c)) d []
  format_is =
      ap (λ u. format_in u cat d) pick
      ∙ (format_in_is v cat d
      ∙ (ap (λ j. unless_refused j cat d []
      (outcome (answered (page_count d)) (encode v (fresh_layout height_count (page_count d))) d [])) no_condition
      ∙ ap (λ n. outcome (answered n) (encode v (fresh_layout height_count n)) d [])
      (length_paged d c h.some h.disk).1))

  -- and what stands then
  pub format_stands : Standing v (encode v (fresh_layout height_count c)) d (fresh_book c)
  unfolding fresh_layout
  format_stands = record {
    layout = fresh_layout height_count c;
    encoded = refl;
    rules = fresh_in v room c h.some h.most;
    disk_length = h.disk;
    book = refl;
  }

-- the limit on copies of a removal, on every sound catalogue
removal_limit : (cat d : List ℕ) (l : Layout) (i k : ℕ) (f : File) → CatalogueOf cat l
    → find_file i l.files ≡ found f
    → (remove_outcome i cat d).reply ≡ answered k → k ≤ carries height_count (free_blocks l) (file_blocks f)
unfolding first_refusal
removal_limit cat d l i k f w e r =
    go (wrong_disk l d) (eqb i 0) (find_file i l.files) e
    (subst (λ (o : Outcome). o.reply ≡ answered k) (remove_on_catalogue v (roomy w.known) l w.rules i d)
    (subst (λ z. (remove_outcome i z d).reply ≡ answered k) w.encoded r))
  where
    v : Version
    v = w.version

    sums : SoundSums height_count l
    sums = all_heights v (roomy w.known) l w.rules

    bound : length (copies_of (removal height_count f l)) ≤ carries height_count (free_blocks l) (file_blocks f)
    bound = let x = found_find i l.files f e in (removal_keeps height_count i l f x.0 sums x.1).limit

    go : (t4 t5 : Bool) (x : Found) → x ≡ found f
        → (unless_refused (first_refusal (condition 4 t4 ∷ condition 5 t5 ∷ condition 6 (not (is_found x)) ∷ []))
        (encode v l) d [] (remove_found v (encode v l) d l x)).reply
        ≡ answered k
        → k ≤ carries height_count (free_blocks l) (file_blocks f)
    go true t5 x p q = absurd (refused_answered 4 k q)
    go false true x p q = absurd (refused_answered 5 k q)
    go false false missing p q = absurd (refused_answered 6 k q)
    go false false (found g) p q =
        let same : g ≡ f = cc in
        let n = answered_same (length (copies_of (removal height_count g l))) k q in
        let m = ap (λ (y : File). length (copies_of (removal height_count y l))) same in
        omega (arith, bound, n, m)

-- and of a replacement, which answers what its removal does
copies_limit : (c : Call) (cat d : List ℕ) (l : Layout) (i k : ℕ) (f : File) → Strikes i c → CatalogueOf cat l
    → find_file i l.files ≡ found f
    → (perform c cat d).reply ≡ answered k → k ≤ carries height_count (free_blocks l) (file_blocks f)
copies_limit (add j bs) cat d l i k f t w e r = absurd t
copies_limit (remove j) cat d l i k f t w e r =
    removal_limit cat d l i k f w e (ap (λ z. (remove_outcome z cat d).reply) t ∙ r)
copies_limit (replace j bs) cat d l i k f t w e r =
    removal_limit cat d l i k f w e
    (ap (λ z. (remove_outcome z cat d).reply) t ∙ replace_answers_removal j bs cat d k r)
copies_limit (read j p o) cat d l i k f t w e r = absurd t
copies_limit (breaks j) cat d l i k f t w e r = absurd t
copies_limit (which n o) cat d l i k f t w e r = absurd t
copies_limit free cat d l i k f t w e r = absurd t
copies_limit check cat d l i k f t w e r = absurd t

-- the claim: no premise is left
pub whole_list : WholeList
whole_list = record {
  format_answers = λ v c cat d h. ap (λ (o : Outcome). o.reply) (format_is v c cat d h);
  format_disk = λ v c cat d h. ap (λ (o : Outcome). o.disk) (format_is v c cat d h);
  list =
      λ v c cat d h calls.
      subst (λ (o : Outcome). Follows v calls o.catalogue o.disk (fresh_book c)) (sym (format_is v c cat d h))
      (standing_follows v h.known calls (encode v (fresh_layout height_count c)) d (fresh_book c)
      (format_stands v c cat d h));
  limit = copies_limit;
  breaks_limit = breaks_limit;
  fewest = λ cat l w. sound_fewest w.version.heights l w.rules;
}

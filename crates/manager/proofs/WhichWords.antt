-- What the claim says of `which` in the request's words, from any proof of it: 8 and 14 leave the list, up to f it
-- says "fits already", and else it lists the ids of the lines with room. Assumes nothing.
use mathlib.Core.List.{List}
use mathlib.Core.Path.{◌≡◌, refl, subst, subst₂}
use Prim.Native.Nat.{◌-◌, ◌<◌, suc, zero, ℕ}
use native.Mathlib.Omega.{arith}
use lib.ListN.{get_or, length, take}
use lib.Seq.{get_or-take, length-take-le}
use Rattle.layout.specs.Helping.{CopiesFirst}
use Rattle.layout.specs.Layout.{Layout}
use Rattle.layout.specs.Lists.{Each, Pairwise, done, more, next, none}
use Rattle.manager.proofs.ClaimWords.{counts_alike, fits_alike, refused_alike}
use Rattle.manager.proofs.RoomInBook.{book_fits, book_lists, book_none, book_places, listed_times, lists}
use Rattle.manager.proofs.RoomInBook.{room_count, zeros}
use Rattle.manager.proofs.WhichCases.{which_count, which-length}
use Rattle.manager.specs.Book.{Book, BookStep, book_free, book_refuses, book_which, filled_up, ids_with_room}
use Rattle.manager.specs.Call.{which}
use Rattle.manager.specs.Claimed.{IdsClaimed, WhichClaimed}
use Rattle.manager.specs.Conditions.{Reply, answered, refused}
use Rattle.manager.specs.Outcomes.{perform}
use Rattle.manager.specs.Table.{CatalogueOf}
use Rattle.manager.specs.WholeList.{CallAgrees, OutputsAgree, RepliesAgree, SameNumbers}

-- ---- every two places of a list

each_get : {P : ℕ → Type 0} {l : List ℕ} (q : ℕ) → Each P l → q < length l → P (get_or l q 0)
each_get q done h = absurd (omega arith)
each_get zero (more p e) h = p
each_get (suc q) (more p e) h = each_get q e (omega arith)

pairwise_get : {R : ℕ → ℕ → Type 0} {l : List ℕ} (p q : ℕ) → Pairwise R l → p < q → q < length l
    → R (get_or l p 0) (get_or l q 0)
pairwise_get p q none h m = absurd (omega arith)
pairwise_get p zero (next e x) h m = absurd (omega arith)
pairwise_get zero (suc q) (next e x) h m = each_get q e (omega arith)
pairwise_get (suc p) (suc q) (next e x) h m = pairwise_get p q x (omega arith) (omega arith)

-- ---- the claim

module _ (n : ℕ) (o cat d : List ℕ) (b : Book) (a : CallAgrees (which n o) cat d b) where
  abbrev r : Reply
  r = (perform (which n o) cat d).reply

  abbrev out : List ℕ
  out = (perform (which n o) cat d).output

  agreed : (t : BookStep) → book_which n o b ≡ t
      → RepliesAgree r t.reply × OutputsAgree t.reply out t.output
  agreed t e = subst (λ (s : BookStep). RepliesAgree r s.reply × OutputsAgree s.reply out s.output) e
      (a.reply, a.output)

  refused_listless : (m : ℕ) → book_which n o b ≡ book_refuses m b o → (r ≡ refused m) × (out ≡ o)
  refused_listless m e = let x = agreed (book_refuses m b o) e in (refused_alike r m x.0, x.1)

  pub which_claims : WhichClaimed n o cat b (perform (which n o) cat d)
  which_claims = record {
    none = λ e. refused_listless 8 (book_none n o b e);
    places = λ some e. refused_listless 14 (book_places n o b some e);
    fitting =
        λ some places h.
        (let x = agreed (zeros n o b) (book_fits n o b some places h) in (fits_alike r x.0, x.1));
    listed =
        λ some places h.
        (let x = agreed (lists n o b) (book_lists n o b some places h) in
        let reply = counts_alike r (length (ids_with_room n (book_free b) b.lines)) x.0 in
        (length (ids_with_room n (book_free b) b.lines), reply, ids reply places x.1));
  }
    where
      k : ℕ
      k = length (ids_with_room n (book_free b) b.lines)

      in_order : r ≡ answered k → length o ≡ 64 → (l : Layout) → CatalogueOf cat l → (p q : ℕ) → p < q → q < k
          → CopiesFirst 21 l (get_or out p 0) (get_or out q 0)
      in_order e places l w p q h m =
          let long : length (take k out) ≡ k = length-take-le k out
          (omega (arith, which_count n o cat d k e, which-length n o cat d)) in
          subst₂ (CopiesFirst 21 l) (get_or-take k out p 0 (omega arith)) (get_or-take k out q 0 m)
          (pairwise_get p q (a.which_order n k o l refl e w) h (omega arith))

      ids : r ≡ answered k → length o ≡ 64 → SameNumbers out (filled_up (ids_with_room n (book_free b) b.lines))
          → IdsClaimed n k out cat b
      ids e places same = record {
        count = room_count n (book_free b) b.lines;
        ids = listed_times n b out same;
        order = λ l f g p q w h m. in_order e places l w p q h m f g;
        zeros = a.which_zeros n k o refl e;
      }

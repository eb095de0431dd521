-- What the claim about exported calls says of `which` in the request's words, from any proof of it: -8 and -14 leave
-- the list, up to f it gives back 256, and else it lists the ids of the lines with room. Assumes nothing.
use mathlib.Core.List.{List}
use mathlib.Core.Path.{◌≡◌, refl, subst}
use Prim.Native.Nat.{ℕ}
use lib.IntN.{neg_ℤ, pos}
use lib.ListN.{length}
use Rattle.manager.proofs.RoomInBook.{book_fits, book_lists, book_none, book_places, listed_times, lists, room_count}
use Rattle.manager.proofs.RoomInBook.{zeros}
use Rattle.manager.specs.Book.{Book, BookStep, book_free, book_refuses, book_which, ids_with_room}
use Rattle.manager.specs.Call.{which}
use Rattle.manager.specs.WholeList.{OutputsAgree}
use Rattle.evdisk.specs.Called.{WhichGivesBack}
use Rattle.evdisk.specs.ExportedList.{CodeAgrees, CodeOfBook, Returned}

module _ (n : ℕ) (o cat d : List ℕ) (b : Book) (r : Returned) (a : CodeAgrees (which n o) cat d b r) where
  agreed : (t : BookStep) → book_which n o b ≡ t
      → CodeOfBook t.reply r.code × OutputsAgree t.reply r.output t.output
  agreed t e =
      subst (λ (s : BookStep). CodeOfBook s.reply r.code × OutputsAgree s.reply r.output s.output) e
      (a.code, a.output)

  refused_listless : (m : ℕ) → book_which n o b ≡ book_refuses m b o → (r.code ≡ neg_ℤ (pos m)) × (r.output ≡ o)
  refused_listless m e = let x = agreed (book_refuses m b o) e in (x.0.1, x.1)

  pub code_which_claims : WhichGivesBack n o cat b r
  code_which_claims = record {
    none = λ e. refused_listless 8 (book_none n o b e);
    places = λ some e. refused_listless 14 (book_places n o b some e);
    fitting = λ some places h. agreed (zeros n o b) (book_fits n o b some places h);
    listed =
        λ some places h.
        (let x = agreed (lists n o b) (book_lists n o b some places h) in
        let k = length (ids_with_room n (book_free b) b.lines) in (
          k,
          x.0.1,
          record {
            most = x.0.0;
            count = room_count n (book_free b) b.lines;
            ids = listed_times n b r.output x.1;
            order = λ l w. a.which_order n k o l refl x.0.1 x.0.0 w;
            zeros = a.which_zeros n k o refl x.0.1 x.0.0;
          },
        ));
  }

-- What the words of the claim mean, from its own definitions and from any proof of it: a weaker claim proves less than
-- this. Assumes nothing.
use mathlib.Core.List.{List, [], ◌∷◌}
use mathlib.Core.Logic.{◌↔◌, ◌⊎◌, inl, inr}
use mathlib.Core.Path.{◌∙◌, ◌≡◌, ap, refl, subst, sym}
use Prim.Native.Nat.{◌*◌, ◌<◌, ◌≤◌, ℕ}
use native.Mathlib.Omega.{arith}
use lib.ListN.{length}
use Rattle.catalogue.specs.Version.{here, later, version1, version2}
use Rattle.catalogue.specs.declared.Version.{Version}
use Rattle.layout.proofs.Breaks.{breaks-at-pages}
use Rattle.manager.proofs.OnlyWhich.{Ordered, ordered_or_which}
use Rattle.manager.specs.Book.{Book, BookReply, answers, any_number, fits, in_any_order, in_book, refuses}
use Rattle.manager.specs.Call.{Call, ListedCall, TwoByteId, add, breaks, check, free, read, remove, replace}
use Rattle.manager.specs.Call.{which}
use Rattle.manager.specs.Claimed.{Asking, BreaksClaimed, Changing, Claimed, CopiesClaimed}
use Rattle.manager.specs.Conditions.{Reply, answered, fits_already, refused}
use Rattle.manager.specs.Outcomes.{perform}
use Rattle.manager.specs.Arguments.{id_of}
use Rattle.manager.specs.WholeList.{Afterwards, Alters, Answered, CallAgrees, Follows, OutputsAgree}
use Rattle.manager.specs.WholeList.{RepliesAgree, RightLengths, WholeList}

-- ---- at each call

-- what the manager replies where the book refuses, has an answer, counts ids in any order, or says that n fits
pub refused_alike : (r : Reply) (n : ℕ) → RepliesAgree r (refuses n) → r ≡ refused n
refused_alike (refused m) n e = ap refused e
refused_alike (answered m) n e = absurd e
refused_alike fits_already n e = absurd e

pub answers_alike : (r : Reply) (n : ℕ) → RepliesAgree r (answers n) → r ≡ answered n
answers_alike (answered m) n e = ap answered e
answers_alike (refused m) n e = absurd e
answers_alike fits_already n e = absurd e

pub counts_alike : (r : Reply) (n : ℕ) → RepliesAgree r (in_any_order n) → r ≡ answered n
counts_alike (answered m) n e = ap answered e
counts_alike (refused m) n e = absurd e
counts_alike fits_already n e = absurd e

pub fits_alike : (r : Reply) → RepliesAgree r fits → r ≡ fits_already
fits_alike fits_already e = refl
fits_alike (answered m) e = absurd e
fits_alike (refused m) e = absurd e

-- the manager refuses exactly when the book does, with the same number
pub refuses_exactly : (r : Reply) (s : BookReply) → RepliesAgree r s → (n : ℕ) → (r ≡ refused n) ↔ (s ≡ refuses n)
refuses_exactly r s e n = (
  λ p. go s (subst (λ x. RepliesAgree x s) p e),
  λ p. refused_alike r n (subst (RepliesAgree r) p e),
)
  where
    go : (s : BookReply) → RepliesAgree (refused n) s → s ≡ refuses n
    go (refuses m) q = ap refuses (sym q)
    go (answers m) q = absurd q
    go any_number q = absurd q
    go (in_any_order m) q = absurd q
    go fits q = absurd q

-- and says "fits already" exactly when the book does
pub fits_exactly : (r : Reply) (s : BookReply) → RepliesAgree r s → (r ≡ fits_already) ↔ (s ≡ fits)
fits_exactly r s e = (
  λ p. go s (subst (λ x. RepliesAgree x s) p e),
  λ p. fits_alike r (subst (RepliesAgree r) p e),
)
  where
    go : (s : BookReply) → RepliesAgree fits_already s → s ≡ fits
    go fits q = refl
    go (refuses m) q = absurd q
    go (answers m) q = absurd q
    go any_number q = absurd q
    go (in_any_order m) q = absurd q

-- the whole output is the book's where its order is
output_alike : (s : BookReply) (x y : List ℕ) → Ordered s → OutputsAgree s x y → x ≡ y
output_alike (refuses m) x y h e = e
output_alike (answers m) x y h e = e
output_alike any_number x y h e = e
output_alike (in_any_order m) x y h e = absurd h
output_alike fits x y h e = e

-- so the whole output of every call but `which` is the book's
pub output_but_which : (c : Call) (b : Book) (out : List ℕ) → OutputsAgree (in_book c b).reply out (in_book c b).output
    → (Asking c → ⊥) → out ≡ (in_book c b).output
output_but_which c b out a other = go (ordered_or_which c b)
  where
    go : Ordered (in_book c b).reply ⊎ Asking c → out ≡ (in_book c b).output
    go (inl h) = output_alike (in_book c b).reply out (in_book c b).output h a
    go (inr w) = absurd (other w)

not_refused : (r : Reply) → Answered r → (n : ℕ) → r ≡ refused n → ⊥
not_refused (refused m) a n e = absurd a
not_refused (answered m) a n e = let z : ◌≡◌ {A = ℕ} 0 1 = cc in omega arith
not_refused fits_already a n e = let z : ◌≡◌ {A = ℕ} 0 1 = cc in omega arith

-- what alters anything is an add, a removal or a replacement that is not refused
pub alters_only : (c : Call) (r : Reply) → Alters c r → ((n : ℕ) → r ≡ refused n → ⊥) × Changing c
alters_only (add i bs) r a = (not_refused r a, inl (i, bs, refl))
alters_only (remove i) r a = (not_refused r a, inr (inl (i, refl)))
alters_only (replace i bs) r a = (not_refused r a, inr (inr (i, bs, refl)))
alters_only (read i p o) r a = absurd a
alters_only (breaks i) r a = absurd a
alters_only (which n o) r a = absurd a
alters_only free r a = absurd a
alters_only check r a = absurd a

-- ---- which calls and which disks

-- every call with an id of 2 bytes can stand in a list
pub every_call_listed : (c : Call) → id_of c < 65536 → ListedCall
every_call_listed c p = record { call = c; two_bytes = go c p }
  where
    go : (c : Call) → id_of c < 65536 → TwoByteId c
    go (add i bs) p = omega arith
    go (remove i) p = tt
    go (replace i bs) p = tt
    go (read i q o) p = tt
    go (breaks i) p = tt
    go (which n o) p = tt
    go free p = tt
    go check p = tt

claimed : WholeList → (v : Version) (c : ℕ) (cat d : List ℕ) → RightLengths v c cat d → Claimed v c cat d
claimed w v c cat d right =
    (w.format_answers v c cat d right, w.format_disk v c cat d right, w.list v c cat d right)

-- with the small catalogue of 4,096 bytes on every disk of 1 to 4,096 blocks
pub claim_reaches_small : WholeList → (c : ℕ) → 1 ≤ c → c ≤ 4096 → (cat d : List ℕ) → length cat ≡ 4096
    → length d ≡ 512 * c → Claimed version1 c cat d
claim_reaches_small w c some most cat d lc ld =
    claimed w version1 c cat d
    (record { known = here; some = some; most = omega (arith, most); catalogue = lc; disk = ld })

-- with the large one of 16,384 bytes on every disk of 1 to 1,048,576 blocks
pub claim_reaches_large : WholeList → (c : ℕ) → 1 ≤ c → c ≤ 1048576 → (cat d : List ℕ) → length cat ≡ 16384
    → length d ≡ 512 * c → Claimed version2 c cat d
claim_reaches_large w c some most cat d lc ld =
    claimed w version2 c cat d
    (record { known = later here; some = some; most = omega (arith, most); catalogue = lc; disk = ld })

-- ---- all of it, in the words of document 01

-- what is claimed of a call: refusals, answers and "fits already" are the book's, the whole output is but for `which`,
-- and a call that is refused or is no add, removal or replacement leaves catalogue, disk and book
pub call_claims : (c : Call) (cat d : List ℕ) (b : Book) → CallAgrees c cat d b
    → ((n : ℕ) → ((perform c cat d).reply ≡ refused n) ↔ ((in_book c b).reply ≡ refuses n))
    × ((n : ℕ) → (in_book c b).reply ≡ answers n → (perform c cat d).reply ≡ answered n)
    × (((perform c cat d).reply ≡ fits_already) ↔ ((in_book c b).reply ≡ fits))
    × ((Asking c → ⊥) → (perform c cat d).output ≡ (in_book c b).output)
    × ((Changing c → (n : ℕ) × ((perform c cat d).reply ≡ refused n))
    → ((perform c cat d).catalogue ≡ cat) × ((perform c cat d).disk ≡ d) × ((in_book c b).book ≡ b))
call_claims c cat d b a = (
  refuses_exactly (perform c cat d).reply (in_book c b).reply a.reply,
  λ n e. answers_alike (perform c cat d).reply n (subst (RepliesAgree (perform c cat d).reply) e a.reply),
  fits_exactly (perform c cat d).reply (in_book c b).reply a.reply,
  output_but_which c b (perform c cat d).output a.output,
  λ changes. (a.catalogue_kept (kept changes), a.disk_kept (kept changes), a.book_kept (kept changes)),
)
  where
    kept : (Changing c → (n : ℕ) × ((perform c cat d).reply ≡ refused n)) → Alters c (perform c cat d).reply → ⊥
    kept changes x =
        let only = alters_only c (perform c cat d).reply x in
        let r = changes only.1 in
        only.0 r.0 r.1

-- it is claimed of each call of a list, on what the one before it left, and the rest of what is left by the last
pub each_call_claimed : (v : Version) (c : ListedCall) (cs : List ListedCall) (cat d : List ℕ) (b : Book)
    → Follows v (c ∷ cs) cat d b
    → CallAgrees c.call cat d b
    × Follows v cs (perform c.call cat d).catalogue (perform c.call cat d).disk (in_book c.call b).book
each_call_claimed v c cs cat d b f = f

pub end_claimed : (v : Version) (cat d : List ℕ) (b : Book) → Follows v [] cat d b → Afterwards v cat d b
end_claimed v cat d b f = f

-- an answered removal: its copies are those of the definition, and at most the carries of f + n over the 21 heights
pub removal_claims : (i k : ℕ) (cat d : List ℕ) (b : Book) → CallAgrees (remove i) cat d b
    → (perform (remove i) cat d).reply ≡ answered k → CopiesClaimed i k cat b
removal_claims i k cat d b a e = (λ l f. a.copies i k l f refl e, λ x. a.limit i k x refl e)

-- and so are those of an answered replacement, n being that of the file that goes
pub replacement_claims : (i k : ℕ) (bs cat d : List ℕ) (b : Book) → CallAgrees (replace i bs) cat d b
    → (perform (replace i bs) cat d).reply ≡ answered k → CopiesClaimed i k cat b
replacement_claims i k bs cat d b a e = (λ l f. a.copies i k l f refl e, λ x. a.limit i k x refl e)

-- answered breaks: the pages of the file, in the blocks of its pieces in page order, at which the one before is not in
-- the block right before; and at most the ones of n less one
pub breaks_claims : (i k : ℕ) (cat d : List ℕ) (b : Book) → CallAgrees (breaks i) cat d b
    → (perform (breaks i) cat d).reply ≡ answered k → BreaksClaimed i k cat b
breaks_claims i k cat d b a e = (
  λ l f w there. a.breaks_answer i k l f refl e w there ∙ breaks-at-pages f.pieces,
  λ x. a.breaks_limit i k x refl e,
)

-- What the words of the claim about exported calls mean, from its own definitions and from any proof of it, and that
-- its lists are there: whatever is called, the calls' own outcomes make one. Assumes nothing.
use mathlib.Core.List.{List, [], ◌∷◌}
use mathlib.Core.Logic.{◌↔◌, inl, inr}
use mathlib.Core.Path.{◌∙◌, ◌≡◌, ap, refl, sym}
use Prim.Native.Nat.{◌*◌, ◌≤◌, ℕ}
use native.Mathlib.Omega.{arith}
use lib.IntN.{ℤ, neg_ℤ, pos}
use lib.ListN.{length}
use Rattle.catalogue.specs.Version.{here, later, version1, version2}
use Rattle.catalogue.specs.declared.Version.{Version}
use Rattle.evdisk.specs.Called.{Claimed, called_on}
use Rattle.manager.specs.Book.{BookReply, answers, any_number, fits, in_any_order, refuses}
use Rattle.manager.specs.Call.{Call, ListedCall, add, breaks, check, free, read, remove, replace, which}
use Rattle.manager.specs.Claimed.{Changing}
use Rattle.manager.specs.Outcomes.{perform}
use Rattle.manager.specs.WholeList.{RightLengths}
use Rattle.evdisk.proofs.CodesApart.{codes-apart, refusals-apart}
use Rattle.evdisk.specs.Codes.{fits_number}
use Rattle.evdisk.specs.ExportedList.{AltersBy, CodeOfBook, ExportedList}
use Rattle.evdisk.specs.ExportedList.{Promised}

-- ---- at each call

-- a number of 0 or more is none below 0, and the book's reply no refusal
answered_apart : {X : Type 0} (m n : ℕ) → 1 ≤ n → (r : ℤ) → r ≡ pos m → (X → ⊥) → (r ≡ neg_ℤ (pos n)) ↔ X
answered_apart m n one r e other = (λ p. absurd (codes-apart n m one (sym p ∙ e)), λ x. absurd (other x))

-- minus n comes back exactly if the book refuses with n
pub code_refuses_exactly : (s : BookReply) (r : ℤ) → CodeOfBook s r → (n : ℕ) → 1 ≤ n
    → (r ≡ neg_ℤ (pos n)) ↔ (s ≡ refuses n)
code_refuses_exactly (refuses m) r (some, e) n one = (
  λ p. ap refuses (refusals-apart m n (sym e ∙ p)),
  λ p. e ∙ ap (λ z. neg_ℤ (pos z)) (let z : m ≡ n = cc in z),
)
code_refuses_exactly (answers m) r e n one =
    answered_apart m n one r e (λ p. let z : ◌≡◌ {A = ℕ} 0 1 = cc in omega arith)
code_refuses_exactly any_number r (m, e) n one =
    answered_apart m n one r e (λ p. let z : ◌≡◌ {A = ℕ} 0 1 = cc in omega arith)
code_refuses_exactly (in_any_order m) r (few, e) n one =
    answered_apart m n one r e (λ p. let z : ◌≡◌ {A = ℕ} 0 1 = cc in omega arith)
code_refuses_exactly fits r e n one =
    answered_apart fits_number n one r e (λ p. let z : ◌≡◌ {A = ℕ} 0 1 = cc in omega arith)

-- and where the book answers n, n does
pub code_answers_alike : (n : ℕ) (r : ℤ) → CodeOfBook (answers n) r → r ≡ pos n
code_answers_alike n r e = e

-- what alters anything is an add, a removal or a replacement that gives back 0 or more
pub code_alters_only : (c : Call) (r : ℤ) → AltersBy c r → ((n : ℕ) × (r ≡ pos n)) × Changing c
code_alters_only (add i bs) r a = (a, inl (i, bs, refl))
code_alters_only (remove i) r a = (a, inr (inl (i, refl)))
code_alters_only (replace i bs) r a = (a, inr (inr (i, bs, refl)))
code_alters_only (read i p o) r a = absurd a
code_alters_only (breaks i) r a = absurd a
code_alters_only (which n o) r a = absurd a
code_alters_only free r a = absurd a
code_alters_only check r a = absurd a

-- ---- which lists

-- every list of calls is one that the claim is about
pub every_list_promised : (cs : List ListedCall) (cat d : List ℕ) → Promised (called_on cs cat d) cat d
every_list_promised [] cat d = tt
every_list_promised (c ∷ cs) cat d = (
  record { answer = refl; catalogue = refl; disk = refl; output = refl },
  every_list_promised cs (perform c.call cat d).catalogue (perform c.call cat d).disk,
)

-- ---- which disks

claimed : ExportedList → (v : Version) (c : ℕ) (cat d : List ℕ) → RightLengths v c cat d → Claimed c cat d
claimed w v c cat d right r p =
    let code = w.format_answers v c cat d r p right in
    (code, λ cs ps. let x = w.list c cat d r p code cs ps in (x.0, x.2))

-- with the small catalogue of 4,096 bytes on every disk of 1 to 4,096 blocks
pub exported_reaches_small : ExportedList → (c : ℕ) → 1 ≤ c → c ≤ 4096 → (cat d : List ℕ) → length cat ≡ 4096
    → length d ≡ 512 * c → Claimed c cat d
exported_reaches_small w c some most cat d lc ld =
    claimed w version1 c cat d
    (record { known = here; some = some; most = omega (arith, most); catalogue = lc; disk = ld })

-- with the large one of 16,384 bytes on every disk of 1 to 1,048,576 blocks
pub exported_reaches_large : ExportedList → (c : ℕ) → 1 ≤ c → c ≤ 1048576 → (cat d : List ℕ) → length cat ≡ 16384
    → length d ≡ 512 * c → Claimed c cat d
exported_reaches_large w c some most cat d lc ld =
    claimed w version2 c cat d
    (record { known = later here; some = some; most = omega (arith, most); catalogue = lc; disk = ld })

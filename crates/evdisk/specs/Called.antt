-- A list of calls with what they give back, and what the claim comes to for one catalogue and disk. Definitions only.
use Rattle.std.specs.Prelude.{◌&&◌, List, [], ◌∷◌, ◌≡◌, ◌-◌, ◌<◌, ◌≤◌, ℕ, eqb, neg_ℤ, pos, drop, length, replicate}
use Rattle.std.specs.Prelude.{take}
use Rattle.layout.specs.Helping.{InCopyOrder}
use Rattle.layout.specs.Layout.{Layout}
use Rattle.layout.specs.Lists.{indicator, sum_of, times_in}
use Rattle.catalogue.specs.declared.Version.{Version}
use Rattle.evdisk.specs.Codes.{code_of}
use Rattle.evdisk.specs.ExportedList.{AsPromised, CodesFollow, ExportedCall, Promised, Returned, returned}
use Rattle.manager.specs.Book.{Book, Line, fresh_book}
use Rattle.manager.specs.Call.{ListedCall}
use Rattle.manager.specs.Claimed.{free_of, has_room}
use Rattle.manager.specs.Conditions.{Outcome}
use Rattle.manager.specs.Outcomes.{format_outcome, perform}
use Rattle.manager.specs.Table.{CatalogueOf}

-- what a call gives back of its outcome
abbrev pub given_back : Outcome → Returned
given_back o = returned (code_of o.reply) o.catalogue o.disk o.output

-- a list of calls with what they give back
abbrev pub called_on : List ListedCall → List ℕ → List ℕ → List ExportedCall
called_on [] cat d = []
called_on (c ∷ cs) cat d =
    let o : Outcome = perform c.call cat d in
    (record { listed = c; gave = given_back o }) ∷ called_on cs o.catalogue o.disk

-- format gives back c, and every list of calls after it follows a fresh book of c blocks
abbrev pub Claimed : ℕ → List ℕ → List ℕ → Type 0
Claimed c cat d =
    (r : Returned) → AsPromised (format_outcome cat d) r
    → (r.code ≡ pos c) × ((cs : List ExportedCall) → Promised cs r.catalogue r.disk
    → (v : Version) × CodesFollow v cs r.catalogue r.disk (fresh_book c))

-- the list o has the k ids of the lines with room for n, at most 64, in the order of the copies of their files'
-- removals, and then zeros
pub record IdsGivenBack (n k : ℕ) (o cat : List ℕ) (b : Book) : Type 0 where
  pub most : k ≤ 64
  pub count : k ≡ sum_of (λ (x : Line). indicator (has_room n b x)) b.lines
  pub ids : (i : ℕ) → 1 ≤ i
      → times_in i o ≡ sum_of (λ (x : Line). indicator (eqb x.id i && has_room n b x)) b.lines
  pub order : (l : Layout) → CatalogueOf cat l → InCopyOrder 21 l (take k o)
  pub zeros : drop k o ≡ replicate (64 - k) 0

-- what an exported `which` with n and the list o gives back, past the catalogue's checks
pub record WhichGivesBack (n : ℕ) (o cat : List ℕ) (b : Book) (r : Returned) : Type 0 where
  pub none : n ≡ 0 → (r.code ≡ neg_ℤ (pos 8)) × (r.output ≡ o)
  pub places : 1 ≤ n → (length o ≡ 64 → ⊥) → (r.code ≡ neg_ℤ (pos 14)) × (r.output ≡ o)
  pub fitting : 1 ≤ n → length o ≡ 64 → n ≤ free_of b → (r.code ≡ pos 256) × (r.output ≡ replicate 64 0)
  pub listed : 1 ≤ n → length o ≡ 64 → free_of b < n
      → (k : ℕ) × (r.code ≡ pos k) × IdsGivenBack n k r.output cat b

-- What `which` gives from any sound catalogue: "fits already" and zeros, or the ids of all files whose removal lets n
-- blocks in, in their order. Assumes nothing.
use mathlib.Core.List.{List}
use mathlib.Core.Logic.{◌⊎◌, inl, inr}
use mathlib.Core.Path.{◌∙◌, ◌≡◌, ap, refl, subst, sym}
use Prim.Native.Nat.{◌-◌, ◌<◌, ◌≤◌, ℕ}
use native.Mathlib.Omega.{arith}
use lib.ListN.{length, replicate, take}
use lib.Seq.{take_at}
use Rattle.catalogue.proofs.Roomy.{roomy}
use Rattle.catalogue.specs.Encoding.{encode}
use Rattle.catalogue.specs.declared.Version.{Version}
use Rattle.layout.proofs.HelpingIds.{helping_ids_lem, helping_pinned}
use Rattle.layout.proofs.LookingUp.{sound_rises}
use Rattle.layout.specs.Helping.{InCopyOrder, helping_ids}
use Rattle.layout.specs.Layout.{Layout, free_blocks}
use Rattle.layout.specs.LookingUp.{ByRisingId}
use Rattle.manager.proofs.OnSound.{which_on_sound}
use Rattle.manager.proofs.Replies.{answered_same}
use Rattle.manager.proofs.WhichCases.{help_cases, not_fitting, which_allowed, which-asked}
use Rattle.manager.specs.Call.{which}
use Rattle.manager.specs.Changes.{GivesHelp}
use Rattle.manager.specs.Conditions.{Outcome, answered, unless_refused}
use Rattle.manager.specs.Outcomes.{help_for, perform, then_zeros}
use Rattle.manager.specs.Table.{CatalogueOf}
use Rattle.section.proofs.Multiples.{below_or_not}
use Rattle.section.specs.Limits.{height_count, most_files}

-- past the conditions
gives_help : (n : ℕ) (cat d : List ℕ) (l : Layout) → ByRisingId l.files
    → GivesHelp l n cat d (help_for n cat d l)
gives_help n cat d l rise =
    help_cases (GivesHelp l n cat d) n cat d l
    (λ most. record {
      catalogue = refl;
      disk = refl;
      fits = λ _. (refl, refl);
      ids = λ less. absurd (omega arith);
    })
    (λ less. record {
      catalogue = refl;
      disk = refl;
      fits = λ most. absurd (omega arith);
      ids = λ _. (helping_ids height_count n l, helping_ids_lem height_count n l rise, refl, refl);
    })

-- and nothing else is given: what is said of the outcome pins it
pub help_pinned : (n : ℕ) (cat d : List ℕ) (l : Layout) (x : Outcome) → ByRisingId l.files → GivesHelp l n cat d x
    → x ≡ help_for n cat d l
help_pinned n cat d l x rise g =
    help_cases (λ y. x ≡ y) n cat d l
    (λ most i. record {
      reply = (g.fits most).0 i;
      catalogue = g.catalogue i;
      disk = g.disk i;
      output = (g.fits most).1 i;
    })
    (λ less.
    (let y = g.ids less in
    let same = helping_pinned height_count n l y.0 rise y.1 in
    λ i. record {
      reply = (y.2 ∙ ap (λ is. answered (length is)) same) i;
      catalogue = g.catalogue i;
      disk = g.disk i;
      output = (y.3 ∙ ap then_zeros same) i;
    }))

module _ (n : ℕ) (o cat d : List ℕ) (l : Layout) (w : CatalogueOf cat l) where
  -- on every sound catalogue, whatever the disk
  pub which_gives_help : 1 ≤ n → length o ≡ most_files → GivesHelp l n cat d (perform (which n o) cat d)
  which_gives_help some places =
      subst (λ z. GivesHelp l n z d (perform (which n o) z d)) (sym w.encoded)
      (subst (GivesHelp l n (encode v l) d) (sym (which_on_sound v (roomy w.known) l w.rules n o d))
      (subst (λ j. GivesHelp l n (encode v l) d (unless_refused j (encode v l) d o (help_for n (encode v l) d l)))
      (sym (which_allowed n o some places)) (gives_help n (encode v l) d l (sound_rises w.rules))))
    where
      v : Version
      v = w.version

  -- the ids of an answer stand in their order
  pub ids_in_order : (k : ℕ) → (perform (which n o) cat d).reply ≡ answered k
      → InCopyOrder height_count l (take k (perform (which n o) cat d).output)
  ids_in_order k r = go (below_or_not (free_blocks l) n)
    where
      asked : (1 ≤ n) × (length o ≡ most_files)
      asked = which-asked n o cat d k r

      help : GivesHelp l n cat d (perform (which n o) cat d)
      help = which_gives_help asked.0 asked.1

      go : (free_blocks l < n) ⊎ (n ≤ free_blocks l)
          → InCopyOrder height_count l (take k (perform (which n o) cat d).output)
      go (inl less) =
          let x = help.ids less in
          let is : List ℕ = x.0 in
          let same = answered_same (length is) k (sym x.2 ∙ r) in
          subst (InCopyOrder height_count l)
          (sym (ap (take k) x.3 ∙ take_at is (replicate (most_files - length is) 0) k same)) x.1.sorted
      go (inr most) = not_fitting k (sym (help.fits most).0 ∙ r)

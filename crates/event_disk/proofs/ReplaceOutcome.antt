-- The outcome of a replacement on a catalogue that was opened: what the two calls do is done on one table. Assumes
-- nothing.
use mathlib.Core.List.{List, [], ◌∷◌}
use mathlib.Core.Path.{◌∙◌, ◌≡◌, ap, refl, subst, sym}
use Prim.Native.Nat.{◌≤◌, ℕ}
use lib.ListN.{length}
use Rattle.catalogue.proofs.Roomy.{roomy, version_of-one}
use Rattle.catalogue.specs.Roomy.{Roomy}
use Rattle.catalogue.specs.Version.{version_of}
use Rattle.catalogue.specs.declared.Version.{Version}
use Rattle.layout.proofs.Finding.{find_file_lem, find_id, found_find}
use Rattle.layout.specs.Layout.{File, Layout, find_file}
use Rattle.layout.specs.Removing.{release, removal}
use Rattle.layout.specs.Sound.{greatest_id}
use Rattle.section.specs.Limits.{height_count}
use Rattle.manager.proofs.AddAfterRemoval.{add_after_does}
use Rattle.manager.proofs.CanReplace.{can_replace, removal_allowed}
use Rattle.manager.proofs.OnRead.{remove_on_read, replace_on_read}
use Rattle.manager.specs.Changes.{CanReplace}
use Rattle.manager.specs.Conditions.{Judgement, Outcome, allowed, condition, first_refusal, outcome, refusal}
use Rattle.manager.specs.Conditions.{replace_checks, unless_refused, wrong_disk}
use Rattle.manager.specs.Outcomes.{add_outcome, after_merges, remove_found, remove_outcome, remove_then_add}
use Rattle.manager.specs.Outcomes.{replace_outcome}
use Rattle.table.specs.Tables.{layout_of}
use Rattle.table.specs.declared.Table.{Table}
use Rattle.calls.specs.Changing.{replace_found, replace_on}
use Rattle.event_disk.specs.Opening.{Entered}

module _ (cat : List ℕ) (t : Table) (x : Entered cat t) (i : ℕ) (bs d : List ℕ) where
  abbrev v : Version
  v = version_of cat

  abbrev l : Layout
  l = layout_of t

  room : Roomy v
  room = roomy (version_of-one (length cat))

  module _ (f : File) (c : CanReplace l d i bs f) where
    most : i ≤ greatest_id
    most =
        let w = found_find i l.files f c.there in
        subst (λ n. n ≤ greatest_id) (find_id w.1) (find_file_lem w.1 x.rules.most_id)

    removal_does : remove_outcome i cat d ≡ after_merges v (release f l) d (removal height_count f l)
    removal_does =
        remove_on_read v cat l x.bytes x.reading i d
        ∙ (ap (λ j. unless_refused j cat d [] (remove_found v cat d l (find_file i l.files)))
        (removal_allowed l d i bs f c)
        ∙ ap (remove_found v cat d l) c.there)

    two_calls : remove_then_add i bs cat d ≡ replace_found v i bs cat d l (find_file i l.files)
    two_calls =
        ap (λ (r : Outcome). outcome r.reply (add_outcome i bs r.catalogue r.disk).catalogue
        (add_outcome i bs r.catalogue r.disk).disk []) removal_does
        ∙ (ap (λ (a : Outcome). outcome (after_merges v (release f l) d (removal height_count f l)).reply
        a.catalogue a.disk [])
        (add_after_does v room l x.rules d c.disk i f c.there c.least most bs c.paged c.fits)
        ∙ ap (replace_found v i bs cat d l) (sym c.there))

  pub replace_on_entered : replace_outcome i bs cat d ≡ replace_on (version_of cat) (layout_of t) i bs cat d
  replace_on_entered =
      replace_on_read cat l x.bytes x.reading i bs d
      ∙ go (first_refusal (condition 4 (wrong_disk l d) ∷ replace_checks i bs d l)) refl
    where
      go : (j : Judgement) → first_refusal (condition 4 (wrong_disk l d) ∷ replace_checks i bs d l) ≡ j
          → unless_refused j cat d [] (remove_then_add i bs cat d)
          ≡ unless_refused j cat d [] (replace_found v i bs cat d l (find_file i l.files))
      go allowed e = let c = can_replace l d i bs e in two_calls c.0 c.1
      go (refusal n) e = refl

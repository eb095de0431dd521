-- What a replacement promises from any sound catalogue: it is answered exactly if nothing refuses it, and then it does
-- what a removal and an add do, one call after the other. Assumes nothing.
use mathlib.Core.List.{List, [], ◌∷◌, map}
use mathlib.Core.Logic.{◌↔◌}
use mathlib.Core.Path.{◌∙◌, ◌≡◌, ap, refl, subst, sym}
use Prim.Native.Nat.{◌≤◌, ℕ}
use Rattle.catalogue.specs.Encoding.{encode}
use Rattle.catalogue.specs.Roomy.{Roomy}
use Rattle.catalogue.specs.declared.Version.{Version}
use Rattle.layout.proofs.Finding.{find_file_lem, find_id, found_find}
use Rattle.layout.specs.Layout.{File, Layout}
use Rattle.layout.specs.Removals.{Find, there}
use Rattle.layout.specs.Sound.{Sound, greatest_id}
use Rattle.manager.proofs.AddAfterRemoval.{add_after_removal}
use Rattle.manager.proofs.CanReplace.{can_replace, replace_allowed}
use Rattle.manager.proofs.Judging.{answered_allowed}
use Rattle.manager.proofs.OnSound.{replace_on_catalogue}
use Rattle.manager.proofs.RemoveFromSound.{remove_from_sound}
use Rattle.manager.specs.Book.{Line, content_pages, strike_line, write_line}
use Rattle.manager.specs.Changes.{Adds, CanReplace, RemovesFrom, Replaces, without}
use Rattle.manager.specs.Conditions.{Outcome, answered, condition, first_refusal, replace_checks, unless_refused}
use Rattle.manager.specs.Conditions.{wrong_disk}
use Rattle.manager.specs.Outcomes.{add_outcome, remove_outcome, remove_then_add, replace_outcome}
use Rattle.manager.specs.WholeList.{line_on}

module _ (v : Version) (room : Roomy v) (l : Layout) (s : Sound v.heights l) (d : List ℕ) (i : ℕ)
    (bs : List ℕ) where
  module _ (f : File) (c : CanReplace l d i bs f) where
    others_left : (r : List File) × Find i l.files f r
    others_left = found_find i l.files f c.there

    id : f.id ≡ i
    id = find_id others_left.1

    most : i ≤ greatest_id
    most = subst (λ n. n ≤ greatest_id) id (find_file_lem others_left.1 s.most_id)

    abbrev struck : Outcome
    struck = remove_outcome i (encode v l) d

    removed : RemovesFrom v l d f struck
    removed = remove_from_sound v room l s d c.disk i f c.there c.least

    added : Adds v (without l f) struck.disk i bs (add_outcome i bs struck.catalogue struck.disk)
    added = add_after_removal v room l s d c.disk i f c.there c.least most bs c.paged c.fits

    abbrev new : Line
    new = record { id = i; pages = content_pages bs }

    -- the two calls
    pub replaces : Replaces v l d i f bs (remove_then_add i bs (encode v l) d)
    replaces = record {
      removed = removed;
      added = added;
      reply = removed.reply;
      catalogue = refl;
      disk = refl;
      output = refl;
      lines =
          added.lines
          ∙ ap (write_line new)
          (removed.lines ∙ ap (λ z. strike_line z (map (line_on d) l.files)) id);
    }

    -- from any sound catalogue
    pub replace_from_sound : Replaces v l d i f bs (replace_outcome i bs (encode v l) d)
    replace_from_sound =
        subst (Replaces v l d i f bs) (sym (replace_on_catalogue v room l s i bs d))
        (subst (λ j. Replaces v l d i f bs (unless_refused j (encode v l) d [] (remove_then_add i bs (encode v l) d)))
        (sym (replace_allowed l d i bs f c)) replaces)

  -- it is answered exactly if nothing refuses it
  pub replace_answered_iff : ((k : ℕ) × ((replace_outcome i bs (encode v l) d).reply ≡ answered k))
      ↔ ((f : File) × CanReplace l d i bs f)
  replace_answered_iff = (
    λ w. can_replace l d i bs
        (answered_allowed (first_refusal (condition 4 (wrong_disk l d) ∷ replace_checks i bs d l)) (encode v l) d []
        (remove_then_add i bs (encode v l) d) w.0
        (ap (λ (o : Outcome). o.reply) (sym (replace_on_catalogue v room l s i bs d)) ∙ w.1)),
    λ w. (_, (replace_from_sound w.0 w.1).reply),
  )

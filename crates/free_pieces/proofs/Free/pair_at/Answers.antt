-- `Free::pair_at` takes the piece at a place, and then one at a place of the others. Assumes nothing.
use Rattle.std.proofs.Common.{◌-◌, ◌≡◌, ◌∙◌, ap, sym, take, get_or, arith}
use Rattle.std.proofs.lemmas.List.{length-take}
use lib.Seq.{get_or-take}
use Rattle.section.specs.Sections.{section}
use Rattle.piece.proofs.Seen.{seen_get, seen-length, seen-take}
use Rattle.piece.specs.Packed.{seen}
use Rattle.piece_lists.proofs.SeenPlaces.{seen-without}
use Rattle.piece_lists.specs.Places.{without_at}
use Rattle.free_pieces.specs.Free.{free_of}
use Rattle.free_pieces.proofs.Free.pair_at.Goals as goal

pub returns : goal.returns
unfolding free_of
returns c =
    let m = c.args.self.count in
    let low = c.args.low in
    let next = c.args.next in
    let items = c.args.self.items in
    let a = c.remove_at.new.items in
    let b = c.remove_at-2.new.items in
    let none = section 0 0 in
    let once : take (m - 1) (seen a) ≡ without_at low (take m (seen items)) =
    seen-take (m - 1) a ∙ ap seen c.remove_at.ensures.listed ∙ seen-without low (take m items)
    ∙ ap (without_at low) (sym (seen-take m items)) in
    let fewer : m - 2 ≡ m - 1 - 1 = omega arith in
    let twice : take (m - 2) (seen b) ≡ without_at next (take (m - 1) (seen a)) =
    ap (λ k. take k (seen b)) fewer ∙ seen-take (m - 1 - 1) b ∙ ap seen c.remove_at-2.ensures.listed
    ∙ seen-without next (take (m - 1) a)
    ∙ ap (without_at next) (sym (seen-take (m - 1) a)) in
    record {
      lower =
          c.section-lower.ensures ∙ sym (seen_get items low) ∙ sym (get_or-take m (seen items) low none (omega arith));
      upper =
          c.section-upper.ensures ∙ sym (seen_get a next) ∙ sym (get_or-take (m - 1) (seen a) next none (omega arith))
          ∙ ap (λ l. get_or l next none) once;
      others = twice ∙ ap (without_at next) once;
      exact = omega (arith, length-take (m - 2) (seen b), seen-length b);
      less = omega arith;
    }

-- `Free::lowest_pair` takes the pair of the lowest height that has two, as the definition does: at the places where
-- the two stand. Assumes nothing.
use Rattle.std.proofs.Common.{◌∙◌, ap, arith, length, subst, sym}
use Rattle.std.specs.Prelude.{nat_lt}
use Rattle.std.proofs.lemmas.List.{length-take}
use Rattle.layout.specs.Layout.{InOrder}
use Rattle.section.specs.Limits.{height_count}
use Rattle.piece.proofs.Seen.{seen-length}
use Rattle.piece.specs.Packed.{seen}
use Rattle.free_pieces.proofs.BuddyPlaces.{buddies_are, no_buddies}
use Rattle.free_pieces.proofs.DueHeights.{DueAt, count_seen, none_due, one_due}
use Rattle.free_pieces.proofs.PairPlaces.{PairPlaces, two_places_are, two_places_there}
use Rattle.free_pieces.specs.Free.{lowest_pair}
use Rattle.free_pieces.specs.Pairs.{PairsAt}
use Rattle.free_pieces.proofs.Free.lowest_pair.Goals.{In_ok-h, Joined-place_of_buddies}
use Rattle.free_pieces.proofs.Free.lowest_pair.Goals.{in-Some, in-None+in_ok-low-in-None}
use Rattle.free_pieces.proofs.Free.lowest_pair.Goals as goal

pub returns-in_err-h : goal.returns-in_err-h
returns-in_err-h c =
    let l = c.as_slice-pieces.result.now in
    rw c.from_residual.ensures record {
      meaning = sym (ap (lowest_pair height_count 0) (sym c.as_slice-pieces.ensures.listed)
          ∙ none_due (seen l) _ (λ h. ap (nat_lt 1) (sym (count_seen h l))) height_count 0
          (sym c.height_due.ensures ∙ c.in_err-h.was));
      exact = tt;
      less = tt;
    }

-- the height that is due
due : (c : In_ok-h) → DueAt (seen c.as_slice-pieces.result.now) height_count 0 c.in_ok-h.h
due c =
    let l = c.as_slice-pieces.result.now in
    one_due (seen l) _ (λ h. ap (nat_lt 1) (sym (count_seen h l))) height_count 0 c.in_ok-h.h
    (sym c.height_due.ensures ∙ c.in_ok-h.was)

pub place_of_buddies-requires : goal.place_of_buddies-requires
place_of_buddies-requires c = omega (arith, (due c).most)

pub returns-in_err-low-in-None : goal.returns-in_err-low-in-None
returns-in_err-low-in-None c =
    let d = due (goal.at.returns-in_err-low-in-None c).In_ok-h in
    absurd (two_places_there _ _ d.some (sym c.places_of_lowest.ensures ∙ c.in_err-low-in-None.was))

-- where the pair is taken, the two stand
at : (c : Joined-place_of_buddies) → DueAt (seen c.as_slice-pieces.result.now) height_count 0 c.in_ok-h.h
    → PairPlaces c.in_ok-h.h (seen c.as_slice-pieces.result.now) c.match-place_of_buddies.low.0
    c.match-place_of_buddies.low.1
at c d =
    let h = c.in_ok-h.h in
    let l = c.as_slice-pieces.result.now in
    let ord = subst InOrder (sym c.as_slice-pieces.ensures.listed) c.requires.in_order in
    elim c.match-place_of_buddies.branch [
      | in-Some w ↦ rw w.low-is (buddies_are h l ord _ w.in-Some.ensures)
      | in-None+in_ok-low-in-None w ↦ rw w.low-is
          (two_places_are h l (no_buddies h l ord w.in-None.ensures) _
          (sym w.places_of_lowest.ensures ∙ w.in_ok-low-in-None.was))
    ]

pub pair_at-requires : goal.pair_at-requires
pair_at-requires c =
    let p = at c (due (goal.at.pair_at-requires c).In_ok-h) in
    let l = c.as_slice-pieces in
    let n = seen-length l.result.now ∙ ap length l.ensures.words ∙ length-take c.args.self.count c.args.self.items in
    record {
      count_le_free_places = c.requires.count_le_free_places;
      low_lt_count = omega (arith, p.lower, n);
      next_bound = omega (arith, p.upper, n);
    }

pub returns : goal.returns
returns c =
    let d = due (goal.at.returns c).In_ok-h in
    let p = at (goal.at.returns c).Joined-place_of_buddies d in
    let l = c.as_slice-pieces.ensures.listed in
    let r = c.pair_at in
    let two = c.match-place_of_buddies.low in
    let taken = subst (λ f. PairsAt c.args.self.count f two.0 two.1 r.result) (sym l) r.ensures in
    record {
      meaning = d.here _ _ _ (p.pairs _ _ taken) ∙ ap (lowest_pair height_count 0) l;
      exact = r.ensures.exact;
      less = r.ensures.less;
    }

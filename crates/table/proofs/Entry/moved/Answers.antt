-- `table::Entry::moved` meets its contract: after i turns the first i pieces have moved. Assumes nothing.
use Rattle.std.proofs.Common.{◌≡◌, ◌∙◌, ◌++◌, ◌<◌, ℕ, List, ap, refl, subst, sym, drop, get_or, length, take}
use Rattle.layout.proofs.Lists.{each_unmap}
use Rattle.layout.specs.Lists.{Each}
use Rattle.section.specs.Sections.{Addressable, moved_into}
use Rattle.section.specs.declared.Section.{Section}
use Rattle.piece.specs.Packed.{no_piece, piece_of, section_in, seen}
use Rattle.piece.specs.declared.Piece.{Piece}
use Rattle.piece.proofs.Seen.{seen-take}
use Rattle.piece_lists.specs.Few.{list_of}
use Rattle.table.proofs.MapFirst.{can_pack, map_first-next, map_first_all, map_first_more}
use Rattle.table.specs.Moves.{map_first, moved_piece}
use Rattle.table.proofs.Entry.moved.Goals as goal

-- the section in the word that is next is one of those in the list
served : (g : Piece → Piece) (l m : List Piece) (n i : ℕ) (s : Section) → m ≡ map_first g i (take n l)
    → Each Addressable (take n (seen l)) → i < length (take n l) → s ≡ section_in (get_or m i no_piece) → Addressable s
unfolding seen
served g l m n i s e a lt q =
    let P : Piece → Type 0 = λ p. Addressable (section_in p) in
    let each : Each P (take n l) = each_unmap section_in (take n l) (subst (Each Addressable) (seen-take n l) a) in
    subst Addressable (sym q) (map_first-next g {P = P} (take n l) m i no_piece e each lt)

pub loop-piece-init : goal.loop-piece-init
loop-piece-init c = refl

pub moved-requires-clause-addressable : goal.moved-requires-clause-addressable
unfolding list_of
moved-requires-clause-addressable c =
    let p = c.args.self.pieces in
    let o = c.loop-piece in
    served _ p.items o.piece-items p.count o.piece-index _ o.invariant c.requires.can_move.pieces
    c.loop-piece-test.true c.section.ensures

pub of-requires : goal.of-requires
unfolding list_of
of-requires c =
    let p = c.args.self.pieces in
    let o = c.loop-piece in
    let s =
    served _ p.items o.piece-items p.count o.piece-index _ o.invariant c.requires.can_move.pieces
    c.loop-piece-test.true c.section.ensures in
    can_pack c.args.from c.args.to c.section.result _ c.requires.can_move.to s c.moved.ensures

pub loop-piece-preserved : goal.loop-piece-preserved
unfolding moved_piece
loop-piece-preserved c =
    let o = c.loop-piece in
    let new : c.of.result ≡ moved_piece c.args.from c.args.to (get_or o.piece-items o.piece-index no_piece) =
    c.of.ensures.word
    ∙ ap piece_of (c.moved.ensures ∙ ap (moved_into c.args.from c.args.to) c.section.ensures) in
    map_first_more _ _ _ _ no_piece _ o.invariant new

pub returns : goal.returns
returns c =
    let p = c.args.self.pieces in
    let o = c.loop-piece in
    let all = o.invariant ∙ map_first_all _ o.piece-index (take p.count p.items) c.loop-piece-test.false in
    ap (λ (l : List Piece).
    record { id = c.args.self.id; pieces = record { count = p.count; items = l ++ drop p.count p.items } })
    all

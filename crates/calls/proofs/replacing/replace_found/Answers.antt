-- `calls::replacing::replace_found` meets its contract: the refusals by letter and space, then the exchange. Assumes
-- nothing.
use mathlib.Core.Path.{◌∙◌, ap, sym}
use native.Mathlib.Omega.{arith}
use borrow.Author.Tests.{ltb-false, ltb-true}
use Rattle.quality.proofs.Ranks.{no_rank, some-rank}
use Rattle.quality.specs.Letters.{rank_of}
use Rattle.calls.proofs.ContentLetter.{letter_in_content, letter_of_content}
use Rattle.calls.proofs.ReplaceJudged.{can_exchange, compared_fits, compared_low, compared_some, refuse-not_above}
use Rattle.calls.proofs.ReplaceJudged.{refuse-space, refuse_unknown}
use Rattle.calls.proofs.replacing.replace_found.Goals as goal

pub bounds-content-6 : goal.bounds-content-6
bounds-content-6 c =
    letter_in_content c.args.content.now c.requires.paged

pub returns-then-is_none : goal.returns-then-is_none
returns-then-is_none c =
    refuse_unknown _ _ _ _ _ c.requires _ (ap rank_of (letter_of_content c.args.content.now c.requires.paged))
    (sym c.rank.ensures ∙ no_rank c.rank.result c.if-is_none.ensures)

pub first_letter-old-requires : goal.first_letter-old-requires
first_letter-old-requires c =
    record {
      entry_fits = compared_fits _ _ _ _ _ c.requires;
      bound = compared_some _ _ _ _ _ c.requires;
    }

pub returns-then-not-ranks_above : goal.returns-then-not-ranks_above
returns-then-not-ranks_above c =
    let new = ap rank_of (letter_of_content c.args.content.now c.requires.paged) in
    let old = ap rank_of c.first_letter-old.ensures in
    let known = some-rank c.rank.result c.if-is_none.ensures in
    refuse-not_above _ _ _ _ _ c.requires _ new (λ z. omega (arith, z, c.rank.ensures, known)) _ old
    (ltb-false _ _ (sym c.if-not-ranks_above.ensures))

pub blocks_of-held-requires : goal.blocks_of-held-requires
blocks_of-held-requires c =
    compared_low _ _ _ _ _ c.requires

pub overflow_add-room : goal.overflow_add-room
overflow_add-room c =
    omega (arith, c.blocks_of-held.ensures.most, c.free_in-free.ensures.most)

pub returns-then-room-pages : goal.returns-then-room-pages
returns-then-room-pages c =
    let new = ap rank_of (letter_of_content c.args.content.now c.requires.paged) in
    let old = ap rank_of c.first_letter-old.ensures in
    let known = some-rank c.rank.result c.if-is_none.ensures in
    refuse-space _ _ _ _ _ c.requires _ new (λ z. omega (arith, z, c.rank.ensures, known)) _ old
    (ltb-true _ _ (sym c.if-not-ranks_above.ensures)) c.free_in-free.result c.blocks_of-held.result
    c.free_in-free.ensures.equal c.blocks_of-held.ensures.equal (omega (arith, c.if-room-pages.true))

pub exchange-requires : goal.exchange-requires
exchange-requires c =
    let new = ap rank_of (letter_of_content c.args.content.now c.requires.paged) in
    let old = ap rank_of c.first_letter-old.ensures in
    let known = some-rank c.rank.result c.if-is_none.ensures in
    can_exchange _ _ _ _ _ c.requires _ new (λ z. omega (arith, z, c.rank.ensures, known)) _ old
    (ltb-true _ _ (sym c.if-not-ranks_above.ensures)) c.free_in-free.result c.blocks_of-held.result
    c.free_in-free.ensures.equal c.blocks_of-held.ensures.equal (omega (arith, c.if-room-pages.false))

-- `soundness::noting::note_list` meets its contract: whether all pieces are on the disk is whether those from `i`
-- on are, and those before it are noted after those that were there. Assumes nothing.
use mathlib.Core.Bool.{◌&&◌}
use mathlib.Core.List.{◌++◌, append-nil}
use mathlib.Core.Path.{◌∙◌, ap, refl, subst, sym}
use Prim.Native.Nat.{◌+◌}
use native.Mathlib.Omega.{arith}
use lib.ListN.{drop}
use lib.Seq.{take_all}
use Rattle.section.specs.Limits.{height_count}
use Rattle.section.specs.Sections.{Spans}
use Rattle.piece.specs.Packed.{seen}
use Rattle.piece.proofs.Seen.{seen_get, seen-length}
use Rattle.catalogue.specs.Reading.{every, sound_piece}
use Rattle.soundness.specs.Sharing.{Noted}
use Rattle.soundness.proofs.NotedPieces.{noted-next}
use Rattle.soundness.proofs.Points.{blank, every-next, every-none}
use Rattle.soundness.proofs.Tested.{piece_aligned, piece_low}
use Rattle.soundness.proofs.noting.note_list.Goals as goal

pub loop-i-init : goal.loop-i-init
loop-i-init c = (refl, λ l q h. subst (λ z. Noted z c.args.firsts.now c.args.masks.now) (sym (append-nil l)) h)

pub returns-then-not-is_piece : goal.returns-then-not-is_piece
returns-then-not-is_piece c =
    let l = seen c.args.pieces.now in
    let p = sound_piece height_count c.args.blocks in
    let x = seen_get c.args.pieces.now c.loop-i.i ∙ sym c.section-section.ensures in record {
      end = tt;
      disk = sym (c.loop-i.invariant.0
          ∙ (every-next p l c.loop-i.i blank (omega (arith, seen-length c.args.pieces.now, c.loop-i-test.true))
          ∙ ap (λ t. t && every p (drop (c.loop-i.i + 1) l)) (ap p x ∙ sym c.if-not-is_piece.ensures)));
      noted = λ l q h. tt;
    }

pub mask-requires : goal.mask-requires
mask-requires c = piece_low c.args.blocks _ (sym c.if-not-is_piece.ensures)

pub loop-i-preserved : goal.loop-i-preserved
loop-i-preserved c =
    let l = seen c.args.pieces.now in
    let p = sound_piece height_count c.args.blocks in
    let i = c.loop-i.i in
    let s = c.section-section.result in
    let x = seen_get c.args.pieces.now i ∙ sym c.section-section.ensures in
    let holds = sym c.if-not-is_piece.ensures in
    let spans : Spans s s.first c.mask.result = record {
      first = refl;
      mask = c.mask.ensures;
      aligned = piece_aligned c.args.blocks s holds;
    } in (
      c.loop-i.invariant.0
          ∙ (every-next p l i blank (omega (arith, seen-length c.args.pieces.now, c.loop-i-test.true))
          ∙ ap (λ t. t && every p (drop (i + 1) l)) (ap p x ∙ holds)),
      λ k q h. noted-next k l c.args.at i c.loop-i.firsts c.loop-i.masks s.first c.mask.result q
          (omega (arith, seen-length c.args.pieces.now)) (omega arith) (c.loop-i.invariant.1 k q h)
          (subst (λ z. Spans z s.first c.mask.result) (sym x) spans),
    )

pub returns : goal.returns
returns c =
    let l = seen c.args.pieces.now in
    let through = seen-length c.args.pieces.now in record {
      end = refl;
      disk = sym (c.loop-i.invariant.0
          ∙ every-none (sound_piece height_count c.args.blocks) l c.loop-i.i (omega (arith, through)));
      noted = λ k q h. subst (λ z. Noted (k ++ z) c.loop-i.firsts c.loop-i.masks)
          (take_all c.loop-i.i l (omega (arith, through))) (c.loop-i.invariant.1 k q h);
    }

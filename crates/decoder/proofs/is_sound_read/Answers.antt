-- `decoder::is_sound_read` meets its contract: what was read is judged as the definition judges it. Assumes nothing.
use mathlib.Core.Path.{◌∙◌, sym}
use Rattle.decoder.proofs.Judging.{judged-not-zero, judged-zero}
use Rattle.decoder.proofs.is_sound_read.Goals as goal

pub returns-else-is_zero_from : goal.returns-else-is_zero_from
returns-else-is_zero_from c =
    judged-not-zero _ _ _ _ _ c.requires.1.read (sym c.is_zero_from.ensures ∙ c.if-is_zero_from.false)
    c.if-is_zero_from.false

pub is_sound-requires : goal.is_sound-requires
is_sound-requires c = (c.requires.1.exact, c.requires.1.counted)

pub returns-then-is_zero_from : goal.returns-then-is_zero_from
returns-then-is_zero_from c =
    let p = c.requires.1 in
    judged-zero _ _ _ _ _ p.read c.requires.0 p.fits (sym c.is_zero_from.ensures ∙ c.if-is_zero_from.true)
    p.exact c.is_sound.ensures

-- `decoder::fields::read_field` meets its contract: the number of the bytes so far, and at once one of 2 bytes.
-- Assumes nothing.
use mathlib.Core.Path.{subst, sym}
use native.Mathlib.Omega.{arith}
use Rattle.std.proofs.lemmas.Grind.{common_steps}
use Rattle.decoder.specs.Fields.{FieldAt}
use Rattle.decoder.proofs.Places.{number-field, three-bytes, value_more}
use Rattle.decoder.proofs.fields.read_field.Goals as goal

pub returns-then-width-eq-SHORT_FIELD : goal.returns-then-width-eq-SHORT_FIELD
returns-then-width-eq-SHORT_FIELD c =
    subst (λ w. FieldAt w c.args.s.now c.args.at c.read_short.result) (sym c.if-width-eq-SHORT_FIELD.true)
    c.read_short.ensures

pub overflow_mul-value : goal.overflow_mul-value
overflow_mul-value c =
    omega (arith, c.loop-byte.invariant.1, three-bytes c.loop-byte.byte-index (grind (arith, common_steps)))

pub overflow_add-value : goal.overflow_add-value
overflow_add-value c = grind (arith, common_steps, three-bytes c.loop-byte.byte-index, c.type_inv.s)

pub loop-byte-preserved : goal.loop-byte-preserved
loop-byte-preserved c = (
  grind (arith, common_steps),
  value_more c.loop-byte.byte-index c.loop-byte.value _ c.loop-byte.invariant.1
      (grind (arith, common_steps, c.type_inv.s)),
)

pub returns : goal.returns
returns c = number-field _ _ _ _ c.requires.0 (grind (arith, common_steps)) (grind (arith, common_steps))

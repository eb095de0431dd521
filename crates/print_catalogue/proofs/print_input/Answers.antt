-- `print_input` writes the text of the definition: by the input's length, and by what was loaded. Assumes nothing.
use Rattle.std.proofs.Common.{◌≡◌, ◌∙◌, ℕ, List, None, Some, ap, arith, subst, sym}
use Rattle.catalogue.proofs.Roomy.{served, version_of-one}
use Rattle.catalogue.specs.Version.{Served}
use Rattle.decoder.specs.Loading.{reading_of}
use Rattle.manager.specs.Printing.{refusal_text}
use Rattle.texts.specs.Lines.{Prints}
use Rattle.print_catalogue.proofs.InputText.{table_sound, text_loaded, text_other}
use Rattle.print_catalogue.proofs.print_input.Goals as goal

-- the same text by another name
prints-as : {s t out : List ℕ} {r : ℕ} → t ≡ s → Prints s out r → Prints t out r
prints-as e p = record { bytes = p.bytes ∙ sym e; within = p.within }

pub returns-then-input-version : goal.returns-then-input-version
returns-then-input-version c =
    prints-as
    (text_other c.args.input.now c.of_length-version.result c.of_length-version.ensures
    (λ e. omega (arith, e, c.if-input-version.true))
    ∙ ap refusal_text (sym c.number.ensures))
    c.print_refusal.ensures

pub load-requires : goal.load-requires
load-requires c = (
  subst Served (sym c.of_length-version.ensures) (served (version_of-one _)),
  omega (arith, c.if-input-version.false),
)

pub returns-in_default : goal.returns-in_default
unfolding reading_of
returns-in_default c =
    prints-as
    (text_loaded c.args.input.now _ c.of_length-version.ensures None c.in_default.ensures.reading
    c.if-input-version.false
    ∙ ap refusal_text (sym c.number-in_default.ensures))
    c.print_refusal-in_default.ensures

pub print_table-requires-clause-sound : goal.print_table-requires-clause-sound
print_table-requires-clause-sound c =
    table_sound c.args.input.now _ c.of_length-version.ensures _ c.in-Some.ensures.reading

pub returns : goal.returns
unfolding reading_of
returns c =
    prints-as
    (text_loaded c.args.input.now _ c.of_length-version.ensures (Some c.in-Some.table) c.in-Some.ensures.reading
    c.if-input-version.false)
    c.print_table.ensures

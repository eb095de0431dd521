-- `event_disk::formatting::format` meets its contract: each return has the outcome of the definition. Assumes nothing.
use mathlib.Core.Path.{◌∙◌, ◌≡◌, ap, subst, sym}
use Prim.Native.Nat.{◌/◌, ℕ}
use native.Mathlib.Omega.{arith}
use lib.ListN.{length}
use Rattle.catalogue.proofs.Roomy.{served, version_of-one}
use Rattle.catalogue.specs.Encoding.{encode}
use Rattle.catalogue.specs.Version.{OneOf, version_for, versions}
use Rattle.catalogue.specs.declared.Version.{Version}
use Rattle.section.specs.Limits.{block_size}
use Rattle.event_disk.proofs.FormatOutcome.{format_done, format-empty, format-large, format_part, format_wrong}
use Rattle.event_disk.proofs.FormatOutcome.{fresh-layout, fresh_rules, some_blocks}
use Rattle.event_disk.proofs.formatting.format.Goals as goal

-- the version that a length picks is one of them
picked : {v : Version} (n : ℕ) → v ≡ version_for n → OneOf v versions
picked n e = subst (λ u. OneOf u versions) (sym e) (version_of-one n)

pub returns-then-cat-version : goal.returns-then-cat-version
returns-then-cat-version c =
    let e = format_wrong c.args.cat.now c.args.disk.now _ c.of_length-version.ensures c.if-cat-version.true in
    record {
      answer = sym (ap (λ o. o.reply) e);
      catalogue = sym (ap (λ o. o.catalogue) e);
      disk = sym (ap (λ o. o.disk) e);
    }

pub returns-then-disk-eq0 : goal.returns-then-disk-eq0
returns-then-disk-eq0 c =
    let e =
    format-empty c.args.cat.now c.args.disk.now _ c.of_length-version.ensures c.if-cat-version.false
    c.if-disk-eq0.true in
    record {
      answer = sym (ap (λ o. o.reply) e);
      catalogue = sym (ap (λ o. o.catalogue) e);
      disk = sym (ap (λ o. o.disk) e);
    }

pub returns-then-disk-ne0 : goal.returns-then-disk-ne0
returns-then-disk-ne0 c =
    let e =
    format_part c.args.cat.now c.args.disk.now _ c.of_length-version.ensures c.if-cat-version.false
    c.if-disk-eq0.false c.if-disk-ne0.true in
    record {
      answer = sym (ap (λ o. o.reply) e);
      catalogue = sym (ap (λ o. o.catalogue) e);
      disk = sym (ap (λ o. o.disk) e);
    }

pub greatest_blocks-requires : goal.greatest_blocks-requires
greatest_blocks-requires c = served (picked _ c.of_length-version.ensures)

pub returns-then-blocks-greatest_blocks : goal.returns-then-blocks-greatest_blocks
returns-then-blocks-greatest_blocks c =
    let e =
    format-large c.args.cat.now c.args.disk.now _ c.of_length-version.ensures c.if-cat-version.false
    c.if-disk-eq0.false c.if-disk-ne0.false (omega (arith, c.greatest_blocks.ensures.answer, c.if-blocks-greatest_blocks.true)) in
    record {
      answer = sym (ap (λ o. o.reply) e);
      catalogue = sym (ap (λ o. o.catalogue) e);
      disk = sym (ap (λ o. o.disk) e);
    }

pub store_fresh-requires : goal.store_fresh-requires
store_fresh-requires c =
    let t = c.fresh_free-free in
    let n = length c.args.disk.now in
    let known = picked (length c.args.cat.now) c.of_length-version.ensures in record {
      one_of = (known, c.if-cat-version.false);
      count_le_piece_places = omega (arith, t.ensures.most);
      sound = fresh_rules _ known (n / block_size) t.result (some_blocks n c.if-disk-eq0.false c.if-disk-ne0.false)
          (omega (arith, c.greatest_blocks.ensures.answer, c.if-blocks-greatest_blocks.false)) t.ensures;
    }

pub returns : goal.returns
returns c =
    let t = c.fresh_free-free in
    let e =
    format_done c.args.cat.now c.args.disk.now _ c.of_length-version.ensures c.if-cat-version.false
    c.if-disk-eq0.false c.if-disk-ne0.false (omega (arith, c.greatest_blocks.ensures.answer, c.if-blocks-greatest_blocks.false)) in record {
      answer = sym (ap (λ o. o.reply) e);
      catalogue = c.store_fresh.ensures
          ∙ (ap (encode c.of_length-version.result)
          (fresh-layout (length c.args.disk.now / block_size) t.result t.ensures)
          ∙ sym (ap (λ o. o.catalogue) e));
      disk = sym (ap (λ o. o.disk) e);
    }

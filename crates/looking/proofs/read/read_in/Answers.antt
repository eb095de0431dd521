-- `looking::read::read_in` meets its contract: each refusal in its turn, else the file's pages. Assumes nothing.
use mathlib.Core.Path.{◌∙◌}
use native.Mathlib.Omega.{arith}
use borrow.Author.Rules.{rules}
use Rattle.std.proofs.lemmas.Result.{err_from_is_err_and}
use Rattle.table.specs.Files.{entry_at}
use Rattle.table.specs.Tables.{file_of}
use Rattle.looking.proofs.LookedUp.{looked_fits, looked_found, looked_low}
use Rattle.looking.proofs.ReadJudged.{read_answered, read_broken, read-empty, read_past, read_unfound, read_whole}
use Rattle.looking.proofs.ReadJudged.{read_wrong}
use Rattle.looking.proofs.read.read_in.Goals as goal

pub returns-then-disk-t : goal.returns-then-disk-t
returns-then-disk-t c =
    let whole = (read_wrong c.args.t c.args.id c.args.first c.args.out.now c.args.disk.now c.if-disk-t.true) in
    record {
      answer = whole.0;
      output = whole.1;
    }

pub returns-in_err-i : goal.returns-in_err-i
returns-in_err-i c =
    let whole = (read_unfound c.args.t c.args.id c.args.first c.args.out.now c.args.disk.now c.if-disk-t.false
    c.in_err-i.field-0.0 c.in_err-i.ensures) in
    let p = err_from_is_err_and c.from_residual.result c.from_residual.ensures.1 in
    rw (p.1, p.2)
    record {
      answer = whole.0;
      output = whole.1;
    }

pub returns-then-out-eq0 : goal.returns-then-out-eq0
returns-then-out-eq0 c =
    let whole = (let x = c.in_ok-i.ensures.place in
    read-empty c.args.t c.args.id c.args.first c.args.out.now c.args.disk.now c.if-disk-t.false
    c.in_ok-i.ensures.least (file_of (entry_at c.args.t c.in_ok-i.i))
    (looked_found c.args.t c.requires c.args.id c.in_ok-i.i x) c.if-out-eq0.true) in
    record {
      answer = whole.0;
      output = whole.1;
    }

pub returns-then-out-ne0 : goal.returns-then-out-ne0
returns-then-out-ne0 c =
    let whole = (let x = c.in_ok-i.ensures.place in
    read_broken c.args.t c.args.id c.args.first c.args.out.now c.args.disk.now c.if-disk-t.false
    c.in_ok-i.ensures.least (file_of (entry_at c.args.t c.in_ok-i.i))
    (looked_found c.args.t c.requires c.args.id c.in_ok-i.i x)
    c.if-out-eq0.false c.if-out-ne0.true) in
    record {
      answer = whole.0;
      output = whole.1;
    }

pub offset_bounds-t-i : goal.offset_bounds-t-i
offset_bounds-t-i c =
    let x = c.in_ok-i.ensures.place in
    search (rules, x.within, c.requires.sized.files)

pub bounds-t-i : goal.bounds-t-i
bounds-t-i c =
    let x = c.in_ok-i.ensures.place in
    omega (arith, x.within, c.requires.sized.files)

pub blocks_of-n-requires : goal.blocks_of-n-requires
blocks_of-n-requires c =
    let x = c.in_ok-i.ensures.place in
    looked_low c.args.t c.requires c.args.id c.in_ok-i.i x

pub returns-then-count-n : goal.returns-then-count-n
returns-then-count-n c =
    let whole = (let x = c.in_ok-i.ensures.place in
    read_past c.args.t c.args.id c.args.first c.args.out.now c.args.disk.now c.if-disk-t.false
    c.in_ok-i.ensures.least (file_of (entry_at c.args.t c.in_ok-i.i))
    (looked_found c.args.t c.requires c.args.id c.in_ok-i.i x)
    c.if-out-eq0.false c.if-out-ne0.false
    (omega (arith, c.blocks_of-n.ensures.equal, c.if-count-n.true))) in
    record {
      answer = whole.0;
      output = whole.1;
    }

pub returns-then-first-n : goal.returns-then-first-n
returns-then-first-n c =
    let whole = (let x = c.in_ok-i.ensures.place in
    read_past c.args.t c.args.id c.args.first c.args.out.now c.args.disk.now c.if-disk-t.false
    c.in_ok-i.ensures.least (file_of (entry_at c.args.t c.in_ok-i.i))
    (looked_found c.args.t c.requires c.args.id c.in_ok-i.i x)
    c.if-out-eq0.false c.if-out-ne0.false
    (omega (arith, c.blocks_of-n.ensures.equal, c.if-count-n.false, c.if-first-n.true))) in
    record {
      answer = whole.0;
      output = whole.1;
    }

pub read_pages-requires : goal.read_pages-requires
read_pages-requires c =
    let x = c.in_ok-i.ensures.place in
    let n = c.blocks_of-n.ensures.equal in
    record {
      entry =
          rw c.if-disk-t.false
          (looked_fits c.args.t c.requires c.args.id c.in_ok-i.i x);
      whole =
          read_whole c.args.t c.args.id c.args.first c.args.out.now c.args.disk.now c.if-disk-t.false
          c.in_ok-i.ensures.least (file_of (entry_at c.args.t c.in_ok-i.i))
          (looked_found c.args.t c.requires c.args.id c.in_ok-i.i x)
          c.if-out-eq0.false c.if-out-ne0.false;
      pages = omega (arith, n, c.if-count-n.false, c.if-first-n.false);
    }

pub returns : goal.returns
returns c =
    let x = c.in_ok-i.ensures.place in
    let r = read_answered c.args.t c.args.id c.args.first c.args.out.now c.args.disk.now c.if-disk-t.false
    c.in_ok-i.ensures.least (file_of (entry_at c.args.t c.in_ok-i.i))
    (looked_found c.args.t c.requires c.args.id c.in_ok-i.i x)
    c.if-out-eq0.false c.if-out-ne0.false
    (omega (arith, c.blocks_of-n.ensures.equal, c.if-count-n.false, c.if-first-n.false)) in
    record {
      answer = r.0;
      output = λ cat. c.read_pages.ensures ∙ r.1 cat;
    }

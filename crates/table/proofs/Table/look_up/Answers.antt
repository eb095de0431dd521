-- `table::Table::look_up` meets its contract: every id passed is below the one sought, and was counted. Assumes
-- nothing.
use Rattle.std.proofs.Common.{arith, ◌+◌, ◌<◌, ◌≡◌, ◌≤◌, ap, get_or, length, sym, subst, take, None, Option, Some, ℕ}
use borrow.Author.Count.{below_more}
use borrow.Author.Rules.{rules}
use borrow.Author.Tests.{le-leb, lt-leb}
use lib.Seq.{get_or-take, length-take-le}
use Rattle.section.specs.Limits.{most_files}
use Rattle.piece_lists.proofs.Arrays.{length_of_mapped}
use Rattle.table.proofs.FileLists.{no_lower_id}
use Rattle.table.proofs.LookUps.{all-below, other_id-missing, same_id-found}
use Rattle.table.proofs.MappedPlaces.{position-passed, position-reached}
use Rattle.table.specs.Files.{entry_at, no_entry}
use Rattle.table.specs.LookUps.{LooksUp}
use Rattle.table.specs.declared.Entry.{Entry}
use Rattle.table.specs.declared.Table.{Table}
use Rattle.table.proofs.Table.look_up.Goals as goal

-- the id that a turn reads
id_read : (t : Table) (j : ℕ) → t.count ≤ length t.files → j < length (take t.count t.files)
    → (get_or (take t.count t.files) j no_entry).id ≡ (entry_at t j).id
id_read t j most lt =
    ap (λ (x : Entry). x.id)
    (get_or-take t.count t.files j no_entry (omega (arith, length-take-le t.count t.files most)))

-- the result of a look-up has the number of ids read
counted : (t : Table) (id m n : ℕ) (x : Option ℕ) → LooksUp t id (record { file = x; read = m }) → n ≡ m
    → LooksUp t id (record { file = x; read = n })
counted t id m n x r e = subst (λ k. LooksUp t id (record { file = x; read = k })) (sym e) r

pub returns-then-id-e : goal.returns-then-id-e
returns-then-id-e c =
    let t = c.args.self in
    let id = c.args.id in
    let j = c.loop-j.j in
    let lt = c.loop-j-test.true in
    let larger = c.if-id-e.true in
    let n : length t.files ≡ most_files = search (rules, length_of_mapped) in
    let most : t.count ≤ length t.files = omega (arith, c.requires.count_le_most_files) in
    let at =
    position-reached (no_lower_id id) (take t.count t.files) j no_entry c.loop-j.invariant.1 lt
    (le-leb id (get_or (take t.count t.files) j no_entry).id (omega (arith, larger))) in
    counted t id (j + 1) _ None
    (other_id-missing t id most c.requires.by_rising_id j at (λ q. omega (arith, q, id_read t j most lt, larger)))
    (omega (arith, c.loop-j.invariant.0))

pub returns-then-id-e-2 : goal.returns-then-id-e-2
returns-then-id-e-2 c =
    let t = c.args.self in
    let id = c.args.id in
    let j = c.loop-j.j in
    let lt = c.loop-j-test.true in
    let same = c.if-id-e-2.true in
    let n : length t.files ≡ most_files = search (rules, length_of_mapped) in
    let most : t.count ≤ length t.files = omega (arith, c.requires.count_le_most_files) in
    let at =
    position-reached (no_lower_id id) (take t.count t.files) j no_entry c.loop-j.invariant.1 lt
    (le-leb id (get_or (take t.count t.files) j no_entry).id (omega (arith, same))) in
    counted t id (j + 1) _ (Some j)
    (same_id-found t id most c.requires.by_rising_id j at (omega (arith, id_read t j most lt, same)))
    (omega (arith, c.loop-j.invariant.0))

pub loop-j-preserved : goal.loop-j-preserved
loop-j-preserved c =
    let id = c.args.id in
    let e = get_or (take c.args.self.count c.args.self.files) c.loop-j.j no_entry in
    let low : e.id < id = omega (arith, c.if-id-e.false, c.if-id-e-2.false) in
    (omega (arith, c.loop-j.invariant.0), below_more _ _ c.loop-j.invariant.1 (lt-leb id e.id low))

pub returns : goal.returns
returns c =
    let t = c.args.self in
    let id = c.args.id in
    let j = c.loop-j.j in
    let n : length t.files ≡ most_files = search (rules, length_of_mapped) in
    let most : t.count ≤ length t.files = omega (arith, c.requires.count_le_most_files) in
    let end : j ≡ length (take t.count t.files) = omega (arith, c.loop-j-test.false) in
    let at = position-passed (no_lower_id id) (take t.count t.files) j no_entry c.loop-j.invariant.1 end in
    counted t id t.count _ None (all-below t id most c.requires.by_rising_id at)
    (omega (arith, c.loop-j.invariant.0, end, length-take-le t.count t.files most))

-- A file taken out and another of its id placed: what placing asks for of the table that is left, and the outcome of
-- both. Assumes nothing.
use mathlib.Core.List.{List, []}
use mathlib.Core.Path.{◌∙◌, ◌≡◌, ap, ap₂, subst, sym}
use Prim.Native.Nat.{◌*◌, ℕ}
use native.Mathlib.Omega.{arith}
use lib.ListN.{length}
use Rattle.std.specs.Prelude.{Ok}
use Rattle.calls.proofs.AddJudged.{placed_blocks, placed_is}
use Rattle.calls.proofs.Removals.{remove_can_take, removed-blocks}
use Rattle.calls.specs.Adding.{CanAdd, Places}
use Rattle.calls.specs.Changing.{Makes, replace_found, replace_on}
use Rattle.calls.specs.Replacing.{CanExchange}
use Rattle.calls.specs.TakingOut.{CanTakeOut, TakesOut, file_at, removal_at}
use Rattle.catalogue.specs.Encoding.{encode}
use Rattle.catalogue.specs.declared.Version.{Version}
use Rattle.layout.proofs.Finding.{found_find}
use Rattle.layout.proofs.RemovedRoom.{RoomAfter, removal-room}
use Rattle.layout.specs.Adding.{allocate}
use Rattle.layout.specs.Layout.{Layout}
use Rattle.layout.specs.Removing.{copies_of}
use Rattle.looking.proofs.FreeSum.{opened_sums}
use Rattle.looking.specs.FileIds.{FindsFile}
use Rattle.manager.proofs.CanReplace.{replace_allowed}
use Rattle.manager.specs.Changes.{without}
use Rattle.manager.specs.Conditions.{Outcome, answered, outcome, unless_refused}
use Rattle.manager.specs.Disk.{page_count, run_copies}
use Rattle.manager.specs.Outcomes.{add_pieces}
use Rattle.section.specs.Limits.{block_size, height_count}
use Rattle.settling.specs.declared.Settled.{Settled}
use Rattle.table.specs.Tables.{layout_of}
use Rattle.table.specs.declared.Table.{Table}

module _ (t : Table) (i id n : ℕ) (bs d : List ℕ) (c : CanExchange t i id n bs d) where
  found_there : FindsFile t id i
  found_there = record { least = c.compared.least; place = c.compared.place }

  -- what taking the file out asks for
  pub exchange_can_take : CanTakeOut t i (length d)
  exchange_can_take = remove_can_take t c.compared.opened id d c.compared.disk i found_there

  module _ (d' : List ℕ) (s : Settled) (e : TakesOut t i d d' s) (same : length d' ≡ length d) where
    room : RoomAfter (layout_of t) id (file_at t i) (layout_of s.table)
    room =
        let x = found_find id (layout_of t).files (file_at t i) c.allowed.there in
        subst (RoomAfter (layout_of t) id (file_at t i)) (sym e.layout)
        (removal-room height_count id (layout_of t) (file_at t i) x.0 (opened_sums t c.compared.opened) x.1)

    left_blocks : s.table.blocks ≡ t.blocks
    unfolding layout_of
    left_blocks =
        ap (λ (l : Layout). l.blocks) e.layout
        ∙ removed-blocks t c.compared.opened id d c.compared.disk i found_there

    -- what placing the new one asks for
    pub exchange_can_add : CanAdd s.table id n (length d') bs
    unfolding layout_of
    exchange_can_add = record {
      opened = e.opened;
      disk = same ∙ (c.compared.disk ∙ ap (λ b. block_size * b) (sym left_blocks));
      least = c.compared.least;
      most = c.compared.most;
      fresh = room.gone;
      paged = c.compared.paged;
      few = omega (
        arith,
        room.fewer,
        e.opened.files,
        c.compared.opened.files,
        c.compared.opened.sized.files,
      );
      fits = omega (arith, room.free, c.allowed.fits);
      pages = c.pages;
    }

    module _ (d'' : List ℕ) (r : Table) (p : Places s.table id bs d' d'' r) where
      outcome_is : (v : Version) (cat : List ℕ)
          → replace_on v (layout_of t) id bs cat d
          ≡ outcome (answered (length (copies_of (removal_at t i)))) (encode v (layout_of r)) d'' []
      outcome_is v cat =
          ap₂ (λ j x. unless_refused j cat d [] (replace_found v id bs cat d (layout_of t) x))
          (replace_allowed (layout_of t) d id bs (file_at t i) c.allowed) c.allowed.there
          ∙ ap (λ (o : Outcome). outcome (answered (length (copies_of (removal_at t i)))) o.catalogue o.disk [])
          (added v (without (layout_of t) (file_at t i)) (run_copies d (copies_of (removal_at t i))) (sym e.layout)
          (sym e.disk))
        where
          added : (v : Version) (l : Layout) (z : List ℕ) → l ≡ layout_of s.table → z ≡ d'
              → add_pieces v id bs (encode v l) z l (allocate 0 height_count (page_count bs) l.free)
              ≡ outcome (answered (page_count bs)) (encode v (layout_of r)) d'' []
          added v l z el ez =
              ap₂ (λ m y. add_pieces v id bs (encode v m) y m (allocate 0 height_count (page_count bs) m.free)) el ez
              ∙ placed_is s.table id bs d' d'' r p v (encode v (layout_of s.table))

      pub exchange_makes : Makes t.blocks (λ v cat. replace_on v (layout_of t) id bs cat d) d''
          (Ok (record { number = s.copied; table = r }))
      exchange_makes = record {
        answer = λ v cat. ap answered e.count ∙ sym (ap (λ (o : Outcome). o.reply) (outcome_is v cat));
        disk = λ v cat. sym (ap (λ (o : Outcome). o.disk) (outcome_is v cat));
        stored = λ v cat. sym (ap (λ (o : Outcome). o.catalogue) (outcome_is v cat));
        rules = p.rules;
        blocks = placed_blocks s.table id bs d' d'' r p ∙ left_blocks;
        sized = p.sized;
      }

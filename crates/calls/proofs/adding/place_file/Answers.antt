-- `calls::adding::place_file` meets its contract: the pieces that it lays are those that the definition allocates.
-- Assumes nothing.
use Rattle.std.proofs.Common.{subst}
use Rattle.layout.specs.Adding.{allocate}
use Rattle.section.specs.Limits.{height_count}
use Rattle.looking.proofs.FreeSum.{opened_stocked}
use Rattle.free_pieces.specs.Allocating.{Allots}
use Rattle.free_pieces.specs.Free.{free_of}
use Rattle.calls.proofs.Placing.{place_laid, place_placed, place_writes}
use Rattle.calls.proofs.adding.place_file.Goals as goal

pub allocate-requires : goal.allocate-requires
allocate-requires c = opened_stocked c.args.t c.requires.opened

pub unwrap-laid-requires : goal.unwrap-laid-requires
unwrap-laid-requires c = place_laid _ _ _ _ _ c.requires c.allocate.result c.allocate.ensures

pub write_pages-requires : goal.write_pages-requires
write_pages-requires c =
    let q = allocate 0 height_count c.args.n (free_of c.args.t.free) in
    let laid = subst (Allots q) c.unwrap-laid.ensures c.allocate.ensures in
    place_writes _ _ _ _ _ c.requires c.unwrap-laid.result laid

pub returns : goal.returns
returns c =
    let q = allocate 0 height_count c.args.n (free_of c.args.t.free) in
    let laid = subst (Allots q) c.unwrap-laid.ensures c.allocate.ensures in
    place_placed _ _ _ _ _ c.requires c.unwrap-laid.result laid _ _ c.with_file.result c.write_pages.ensures
    c.with_file.ensures

-- `calls::replacing::exchange` meets its contract: the file is taken out, and the new one is placed on what is left.
-- Assumes nothing.
use Rattle.calls.proofs.Exchanged.{exchange_can_add, exchange_can_take, exchange_makes}
use Rattle.calls.proofs.replacing.exchange.Goals as goal

pub take_out-s-requires : goal.take_out-s-requires
take_out-s-requires c =
    exchange_can_take _ _ _ _ _ _ c.requires

pub place_file-table-requires : goal.place_file-table-requires
place_file-table-requires c =
    exchange_can_add _ _ _ _ _ _ c.requires _ c.take_out-s.result c.take_out-s.ensures c.take_out-s.auto.disk

pub returns : goal.returns
returns c =
    exchange_makes _ _ _ _ _ _ c.requires _ c.take_out-s.result c.take_out-s.ensures c.take_out-s.auto.disk
    _ c.place_file-table.result c.place_file-table.ensures

-- `decoder::tables::read_body` meets its contract: the files so far, before those left to read, and then the table.
-- Assumes nothing.
use Rattle.decoder.proofs.Filled.{FilesAt}
use Rattle.decoder.proofs.tables.read_body.Given as goal

abbrev pub invariant-loop-file : goal.invariant-loop-file
invariant-loop-file l = FilesAt l.width l.cat l.count l.file-items l.at l.sum l.file-index

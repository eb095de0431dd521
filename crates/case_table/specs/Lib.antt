-- Definitions only: the worked cases of document 01 as one table, written out by hand, and how a row is computed;
-- refusals by literal lengths as another, replacements as a third, and which removal would let blocks in as a fourth;
-- and lists of calls beside the book.
pub mod CaseRows
pub mod CaseParts
pub mod CaseBytes
pub mod MergeRows
pub mod BuddyRows
pub mod LengthRows
pub mod ReplaceRows
pub mod CaseTable
pub mod CaseRun
pub mod BesideBook
pub mod RefusalRows
pub mod RefusalTable
pub mod RankRows
pub mod WhichRows

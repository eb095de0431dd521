-- Cases 1 to 11 of document 01 as one table, refusals as another, replacements as a third, and which removal would let
-- blocks in as a fourth, computed in both versions, and lists of calls beside the book.
pub mod Cases
pub mod LargeCases
pub mod ReplaceCases
pub mod WhichCases
pub mod ExampleList
pub mod RefusalCases
pub mod LargeCatalogues

-- Definitions only: what the functions of the loader promise.
pub mod Fields
pub mod Pieces
pub mod Entries
pub mod Loading

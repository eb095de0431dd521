-- The laws of the tests on a table, by subject.
pub mod Points
pub mod Ordered
pub mod Joined
pub mod EveryPiece
pub mod Groups
pub mod NotedPieces
pub mod Tested
pub mod Sounding

-- Definitions only: what the tests of soundness promise, and of which tables.
pub mod Counts
pub mod Order
pub mod Checking
pub mod Sharing

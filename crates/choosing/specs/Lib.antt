-- Definitions only: what the values of the code stand for, and what its functions ask for and promise.
pub mod Ranking
pub mod Listing
pub mod Counting
pub mod Choosing

-- The laws of quality letters.
pub mod Ranks
pub mod LetterRanks

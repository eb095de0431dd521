-- Definitions only: what the answers of the code stand for.
pub mod Answers

-- Laws of text behind text and of decimals, and the proofs of the functions.
pub mod Writing
pub mod Decimals
pub mod Numerals

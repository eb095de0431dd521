-- Laws of words and of lists of words, and the proofs of the functions.
pub mod Packing
pub mod Seen

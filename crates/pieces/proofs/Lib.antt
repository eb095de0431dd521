-- The laws of a file's pieces, by subject, and the proofs of the functions.
pub mod SeenSums
pub mod SoundPieces

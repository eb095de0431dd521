-- What the functions on a file's pieces ask for and promise. Definitions only.
pub mod Pieces

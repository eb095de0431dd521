-- What the values of the code stand for, and what the functions promise. Definitions only.
pub mod Tables
pub mod Moves
pub mod Files
pub mod LookUps
pub mod Merges

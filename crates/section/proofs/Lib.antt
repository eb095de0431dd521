-- The laws of sections, by subject. What the functions need of bits stays in `Bits`, which no crate above sees.
pub mod Booleans
pub mod Multiples
pub mod Nested
pub mod Buddies
pub mod Moves
pub mod Lengths
pub mod Answers
pub mod Indexes
pub mod Blocks
pub mod LiteralLimits
pub mod SectionCases
mod Bits

-- What the values of the code stand for, and what the functions promise. Definitions only.
pub mod Free
pub mod Taking
pub mod Allocating
pub mod Gaps
pub mod Pairs

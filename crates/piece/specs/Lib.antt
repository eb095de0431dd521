-- Sections in words. Definitions only.
pub mod Packed

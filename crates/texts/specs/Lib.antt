-- What the functions that write text promise. Definitions only.
pub mod Lines

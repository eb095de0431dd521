-- Definitions only: what an exported call gives back, and the claim about every list of them.
pub mod Codes
pub mod ExportedList
pub mod Called
